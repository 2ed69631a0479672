use Rattle.std.proofs.Common.{◌≡◌, Bool, true, false, is_ok, ap, subst}
use Rattle.std.proofs.lemmas.List.{take_all}
use Rattle.std.proofs.lemmas.Result.{err_from_is_err_and}
use Rattle.files.specs.Effects.{Send}
use Rattle.files.proofs.Traces.{sends_more, sends_stopped}
use Rattle.files.proofs.steps.send_each.Goals as goal

pub returns-in_err-send : goal.returns-in_err-send
returns-in_err-send g c =
    let p = err_from_is_err_and c.from_residual.result c.from_residual.ensures.1 in
    let was : is_ok c.send.result ≡ false = ap is_ok c.in_err-send.was in
    let sent = subst (λ (b : Bool). g.O.Outside.did c.loop-message.outside (Send c.as_slice.result.now) b c.send.new.self) was c.send.ensures in
    rw p.1 (sends_stopped g.O.Outside.did c.args.messages.now c.loop-message.message-index c.message-item.result c.as_slice.result.now c.args.outside.now c.loop-message.outside c.send.new.self c.loop-message-test.true c.message-item.is c.as_slice.ensures.value c.loop-message.invariant sent)

pub loop-message-preserved : goal.loop-message-preserved
loop-message-preserved g c =
    let was : is_ok c.send.result ≡ true = ap is_ok c.in_ok-send.was in
    let sent = subst (λ (b : Bool). g.O.Outside.did c.loop-message.outside (Send c.as_slice.result.now) b c.send.new.self) was c.send.ensures in
    sends_more g.O.Outside.did c.args.messages.now c.loop-message.message-index c.message-item.result c.as_slice.result.now c.args.outside.now c.loop-message.outside c.send.new.self c.loop-message-test.true c.message-item.is c.as_slice.ensures.value c.loop-message.invariant sent

pub returns : goal.returns
returns g c = let h = c.loop-message-test.false in rw (take_all c.loop-message.message-index c.args.messages.now h) at c.loop-message.invariant
