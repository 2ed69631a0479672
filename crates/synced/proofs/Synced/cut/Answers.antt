use Rattle.std.proofs.Common.{ℕ, ◌+◌, ◌≤◌, take, drop, ap, ◌∙◌, arith}
use Rattle.std.proofs.lemmas.List.{take-take, drop-take}
use Rattle.synced.proofs.Synced.cut.Goals as goal

pub returns-then-left-len : goal.returns-then-left-len
returns-then-left-len g c =
    let n : ℕ = c.args.self.now.synced in
    let k : ℕ = c.args.left in
    let l : n ≤ n + k = omega arith in
    (ap (take n) c.truncate.ensures.items ∙ take-take n (n + k) _ l, ap (drop n) c.truncate.ensures.items ∙ drop-take n k _)
