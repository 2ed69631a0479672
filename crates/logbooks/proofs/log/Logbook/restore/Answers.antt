use Rattle.std.proofs.Common.{◌≡◌, ℕ, Some, None, ap, rules}
use Rattle.forms.specs.Said.{said}
use Rattle.forms.specs.Meaning.{ship_of}
use Rattle.logbooks.specs.Logs.{log, higher}
use Rattle.logbooks.specs.Slots.{Kept}
use Rattle.logbooks.proofs.Taking.{higher_is, restoring_puts}
use Rattle.logbooks.proofs.log.Logbook.restore.Goals as goal

pub returns : goal.returns
returns c =
    let x = log c.args.self.now in
    let top : Some c.map_or-last.result ≡ higher (Some c.args.number) (x.lasts c.args.from.0 (ship_of (said c.args.word))) = rw (← c.ship-ship.ensures, ← c.last.ensures) (higher_is c.last.result c.args.number c.map_or-last.result _ (λ m q. search rules) c.map_or-last.ensures) in
    let S : ℕ → Kept = λ s. record { ship = s; from = c.args.from.0; number = c.args.number; word = said c.args.word; newer = None } in
    rw (restoring_puts x c.args.from.0 c.args.number c.map_or-last.result (said c.args.word) top (S c.ship-ship.result) (ap S c.ship-ship.ensures)) c.put.ensures.done
