use Rattle.std.proofs.Common.{rules, arith, ℕ, List, ◌≡◌, ◌≢◌, ◌∷◌, ◌+◌, ◌-◌, ◌<◌, ◌≤◌, ◌∙◌, sym, ap, length, drop, drop-drop, get_or, get_or-drop, eq-zero-or-pos, inl, inr}
use Rattle.script.proofs.lines.push_word.Goals as goal

-- one byte fewer is left of the line
left_less : (line rest behind : List ℕ) (byte : ℕ) → length rest ≤ length line → rest ≡ drop (length line - length rest) line → rest ≡ byte ∷ behind → behind ≡ drop (length line - length behind) line
left_less line rest behind byte within left cut =
    let more : (length line - length rest) + 1 ≡ length line - length behind = omega (arith, ap length cut) in
    sym (ap (drop 1) cut) ∙ (ap (drop 1) left ∙ (drop-drop 1 (length line - length rest) line ∙ ap (λ i. drop i line) more))

-- and the byte before it is no space either
word_more : (line rest behind : List ℕ) (byte : ℕ) → length rest ≤ length line → rest ≡ drop (length line - length rest) line → rest ≡ byte ∷ behind → byte ≢ 32 → ((k : ℕ) → k + length rest < length line → get_or line k 0 ≢ 32) → (k : ℕ) → k + length behind < length line → get_or line k 0 ≢ 32
word_more line rest behind byte within left cut other before k more = elim (eq-zero-or-pos ((length line - length rest) - k)) [
  | inl none ↦
      let at : k ≡ (length line - length rest) + 0 = omega (arith, ap length cut) in
      let first : get_or line k 0 ≡ byte = ap (λ i. get_or line i 0) at ∙ (sym (get_or-drop (length line - length rest) line 0 0) ∙ (sym (ap (λ l. get_or l 0 0) left) ∙ ap (λ l. get_or l 0 0) cut)) in
      λ is. other (sym first ∙ is)
  | inr less ↦ before k (omega arith)
]

pub loop-byte-preserved : goal.loop-byte-preserved
loop-byte-preserved c =
    let line = c.args.line.now in
    let old = c.loop-byte.invariant in
    let cut = c.in-Some.ensures.cases.0 in
    record {
      within = omega (arith, ap length cut);
      left = left_less line _ _ _ old.within old.left cut;
      word = word_more line _ _ _ old.within old.left cut c.if-byte-eq32.false old.word;
      writes = search rules;
    }
