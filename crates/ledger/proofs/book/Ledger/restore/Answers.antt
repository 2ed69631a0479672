use Rattle.std.proofs.Common.{rules}
use Rattle.ledger.specs.Ledgers.{book}
use Rattle.ledger.proofs.Books.{restored_is}
use Rattle.ledger.proofs.book.Ledger.restore.Goals as goal

pub returns : goal.returns
returns c =
    restored_is (book c.args.self.now) (book c.admit.new.self) (book c.hear.new.self) c.args.boat.0 c.args.floor.0 c.hear.result (search rules) c.in_ok-admit.ensures c.hear.ensures
