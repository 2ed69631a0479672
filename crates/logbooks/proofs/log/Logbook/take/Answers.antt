use Rattle.std.proofs.Common.{◌≡◌, false, rules}
use Rattle.forms.specs.Said.{said}
use Rattle.forms.specs.Meaning.{ship_of}
use Rattle.logbooks.specs.Logs.{log, older}
use Rattle.logbooks.specs.Slots.{kept}
use Rattle.logbooks.proofs.Taking.{older_is, taking_puts}
use Rattle.logbooks.proofs.log.Logbook.take.Goals as goal

pub returns : goal.returns
returns c =
    let x = log c.args.self.now in
    let is : c.is_some_and.result ≡ older c.last.result c.args.number = older_is c.last.result c.args.number c.is_some_and.result _ (λ m q. search rules) c.is_some_and.ensures in
    let new : older (x.lasts c.args.from.0 (ship_of (said c.args.came))) c.args.number ≡ false = rw (← c.ship.ensures, ← c.last.ensures, ← is) c.if-is_some_and.false in
    rw (taking_puts x c.args.from.0 c.args.number (said c.args.came) c.args.most.0 new (kept c.new.result) c.new.ensures) c.put.ensures.done
