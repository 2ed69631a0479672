use Rattle.std.proofs.Common.{◌≡◌, ◌+◌, ◌<◌, ◌≤◌, length, get_or, string_len, vec_len}
use Rattle.script.proofs.lines.Line.plain.Given as goal

abbrev pub invariant-loop-start : goal.invariant-loop-start
invariant-loop-start l = record { fits : string_len l.text + length l.rest ≤ vec_len l.self.bytes; gap : 0 < string_len l.text → 0 < length l.rest → get_or l.rest 0 0 ≡ 32 }

abbrev pub decreases-loop-start : goal.decreases-loop-start
decreases-loop-start l = length l.rest
