use Rattle.std.proofs.Common.{◌≡◌, ◌≢◌, ℕ, ◌+◌, ◌-◌, ◌<◌, ◌≤◌, drop, length, get_or, string_len}
use Rattle.script.proofs.lines.push_word.Given as goal

abbrev pub invariant-loop-byte : goal.invariant-loop-byte
invariant-loop-byte l = record {
  within : length l.rest ≤ length l.line;
  left : l.rest ≡ drop (length l.line - length l.rest) l.line;
  word : (k : ℕ) → k + length l.rest < length l.line → get_or l.line k 0 ≢ 32;
  writes : string_len l.text + length l.rest ≡ string_len l.initial.text + length l.line;
}

abbrev pub decreases-loop-byte : goal.decreases-loop-byte
decreases-loop-byte l = length l.rest
