-- When a word is taken, and when not.
-- Assumes nothing.
use Rattle.std.proofs.Common.{◌≡◌, ℕ, max, Bool, true, false, cond, ◌&&◌, eqb, leb, Some, None, Ok, Err, Option, Result, sym, refl, ap, ◌∙◌, arith}
use Rattle.std.specs.Option.{MatchOption}
use mathlib.Core.Path.{fun_ext}
use Rattle.std.proofs.lemmas.Bool.{and_from, and_left, and_right, eq-eqb, eqb-true, cond-false}
use Rattle.std.proofs.lemmas.Bool.Decides.{nat_tests}
use Rattle.levels.specs.Verdicts.{Verdict, Number}
use Rattle.forms.specs.Meaning.{Uttered, ship_of}
use Rattle.logbooks.specs.Slots.{Kept, keeping}
use Rattle.logbooks.specs.Logs.{Log, older, noted, placed, entered_to, crowded, putting, taking, slot, higher, restored, restoring}

-- what a test of the last number says, and a choice by it
pub older_is : (o : Option ℕ) (n : ℕ) (r : Bool) (Q : ℕ → Type 0) → ((m : ℕ) → Q m → r ≡ leb n m) → MatchOption o (r ≡ false) Q → r ≡ older o n
older_is None n r Q f h = h
older_is (Some m) n r Q f h = f m h

pub higher_is : (o : Option ℕ) (n r : ℕ) (Q : ℕ → Type 0) → ((m : ℕ) → Q m → r ≡ max n m) → MatchOption o (r ≡ n) Q → Some r ≡ higher (Some n) o
higher_is None n r Q f h = ap Some h
higher_is (Some m) n r Q f h = ap Some (f m h)

-- a number that is not older
pub taking_puts : (x : Log) (b n : ℕ) (u : Uttered) (k : ℕ) → older (x.lasts b (ship_of u)) n ≡ false → (s : Kept) → s ≡ keeping b n u k → taking x b n u k ≡ putting x s n
taking_puts x b n u k new s e = cond-false _ _ _ new ∙ ap (λ t. putting x t n) (sym e)

-- a word of a file
module _ (x : Log) (b n m : ℕ) (u : Uttered) (top : Some m ≡ higher (Some n) (x.lasts b (ship_of u))) where
  pub noted_higher : (c t : ℕ) → noted x.lasts b (ship_of u) m c t ≡ (restored x b n u).lasts c t
  noted_higher c t = go (eqb c b) (eqb t (ship_of u)) refl refl
    where
      go : (p q : Bool) → eqb c b ≡ p → eqb t (ship_of u) ≡ q → cond (p && q) (Some m) (x.lasts c t) ≡ higher (cond (eqb b c && eqb (ship_of u) t) (Some n) None) (x.lasts c t)
      go true true e f =
          let ec : c ≡ b = eqb-true c b e in
          let et : t ≡ ship_of u = eqb-true t (ship_of u) f in
          let h : eqb b c && eqb (ship_of u) t ≡ true = and_from (eqb b c) (eqb (ship_of u) t) (eq-eqb b c (sym ec)) (eq-eqb (ship_of u) t (sym et)) in
          top ∙ ap (λ (d : ℕ). higher (Some n) (x.lasts d (ship_of u))) (sym ec) ∙ ap (λ (d : ℕ). higher (Some n) (x.lasts c d)) (sym et) ∙ sym (ap (λ (v : Bool). higher (cond v (Some n) None) (x.lasts c t)) h)
      go true false e f =
          let h : eqb b c && eqb (ship_of u) t ≡ false = and_right (eqb b c) (eqb (ship_of u) t) (grind (arith, nat_tests)) in
          sym (ap (λ (v : Bool). higher (cond v (Some n) None) (x.lasts c t)) h)
      go false q e f =
          let h : eqb b c && eqb (ship_of u) t ≡ false = and_left (eqb b c) (eqb (ship_of u) t) (grind (arith, nat_tests)) in
          sym (ap (λ (v : Bool). higher (cond v (Some n) None) (x.lasts c t)) h)

  restored_is : ◌≡◌ {A = Result Log Verdict} (Ok (restored x b n u)) (Ok (entered_to x (slot b n u) m))
  restored_is =
      let F : (ℕ → ℕ → Option ℕ) → Result Log Verdict = λ f. Ok (record { slots = placed (slot b n u) x.slots; lasts = f }) in
      sym (ap F (fun_ext (λ c. fun_ext (λ t. noted_higher c t))))

  pub restoring_puts : (s : Kept) → s ≡ slot b n u → restoring x b n u ≡ putting x s m
  restoring_puts s e = ap (λ r. cond (crowded x (ship_of u)) (Err (Number 6)) r) restored_is ∙ ap (λ t. putting x t m) (sym e)
