use Rattle.std.proofs.Common.{length}
use Rattle.files.proofs.Scans.{Passed}
use Rattle.files.proofs.format.whole_part.Given as goal

abbrev pub invariant-loop-rest : goal.invariant-loop-rest
invariant-loop-rest g l = Passed (g.F.Format.begins l.format) (g.met.F.Format.within l.format) l.file l.rest

abbrev pub decreases-loop-rest : goal.decreases-loop-rest
decreases-loop-rest g l = length l.rest
