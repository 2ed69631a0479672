use Rattle.std.proofs.Common.{rules, arith, ℕ, List, ◌≡◌, ◌≢◌, ◌-◌, ◌<◌, ap, length, length-drop, drop, get_or, get_or-drop, add-zero, eq-zero-or-pos, inl, inr}
use Rattle.std.proofs.lemmas.Grind.{common_steps}
use Rattle.std.proofs.lemmas.List.{take_rest}
use Rattle.script.proofs.lines.Line.plain.Goals as goal

-- what stands behind a word begins with a space and the word does not, so there is less of it than of both
shorter : (all behind : List ℕ) (start : ℕ) → start < length all → get_or all start 0 ≢ 32 → behind ≡ drop (length (drop start all) - length behind) (drop start all) → (0 < length behind → get_or behind 0 0 ≡ 32) → length behind < length all
shorter all behind start within begins left ends = elim (eq-zero-or-pos (length (drop start all) - length behind)) [
  | inl none ↦
      let same : behind ≡ drop start all = rw none at left in
      let first : get_or behind 0 0 ≡ get_or all start 0 = rw (same, get_or-drop start all 0 0, add-zero) in
      absurd (begins (rw (← first) (ends (omega (arith, ap length same, length-drop start all)))))
  | inr more ↦ omega (arith, length-drop start all)
]

pub loop-start-smaller : goal.loop-start-smaller
loop-start-smaller c =
    let all = c.loop-start.rest.now in
    let start = c.in-Some.start in
    let from = take_rest all start in
    shorter all _ start (search rules) (grind (arith, common_steps)) (rw from at c.in_ok-rest.ensures.left) c.in_ok-rest.ensures.ends
