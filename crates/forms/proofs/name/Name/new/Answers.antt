use Rattle.std.proofs.Common.{ℕ, List, length, Ok, Result, sym, ap, ◌∙◌, rules}
use Rattle.std.proofs.lemmas.List.{take_at}
use Rattle.std.proofs.lemmas.Bool.{cond-false, le-ltb}
use Rattle.levels.specs.Verdicts.{Verdict}
use Rattle.forms.proofs.name.Name.new.Goals as goal

pub returns : goal.returns
returns c =
    let G : List ℕ → Result (List ℕ) Verdict = λ l. Ok l in
    ap G (take_at c.copy_from_slice.new.self _ (length c.args.name.now) (ap length c.copy_from_slice.ensures.after) ∙ c.copy_from_slice.ensures.after) ∙ sym (cond-false _ _ _ (le-ltb 40 (length c.args.name.now) (search rules)))
