use Rattle.std.proofs.Common.{take}
use Rattle.files.specs.Plans.{Done, sends}
use Rattle.files.proofs.steps.send_each.Given as goal

-- the messages before this one were sent
abbrev pub invariant-loop-message : goal.invariant-loop-message
invariant-loop-message g l = Done g.O.Outside.did (sends (take l.message-index l.messages)) l.initial.outside l.outside
