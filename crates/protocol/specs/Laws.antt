-- Numbers and sets of features keep the laws of an order.
-- Assumes nothing.
use Rattle.std.proofs.Common.{◌≡◌, ◌≤◌, true, Bool, ◌||◌, false, ltb}
use Rattle.std.proofs.Math.Nat.{le_refl, le_trans, le_of_lt}
use Rattle.std.proofs.lemmas.Bool.{cond_both, ltb-true, ltb-false, or_left, or_right}
use Rattle.protocol.specs.Order.{Lawful, numbers, features}

pub numbers_lawful : Lawful numbers
numbers_lawful =
    record {
      same = λ a. le_refl a;
      chain = λ a b c p q. le_trans p q;
      left = λ a b. cond_both (ltb a b) b a (λ x. a ≤ x) (λ e. le_of_lt (ltb-true a b e)) (λ e. le_refl a);
      right = λ a b. cond_both (ltb a b) b a (λ x. b ≤ x) (λ e. le_refl b) (λ e. ltb-false a b e);
      least = λ a b c p q. cond_both (ltb a b) b a (λ x. x ≤ c) (λ e. q) (λ e. p);
    }

either : (x y z : Bool) → (x ≡ true → z ≡ true) → (y ≡ true → z ≡ true) → x || y ≡ true → z ≡ true
either true y z p q e = p e
either false y z p q e = q e

pub features_lawful : Lawful features
features_lawful =
    record {
      same = λ a n e. e;
      chain = λ a b c p q n e. q n (p n e);
      left = λ a b n e. or_left (a n) (b n) e;
      right = λ a b n e. or_right (a n) (b n) e;
      least = λ a b c p q n e. either (a n) (b n) (c n) (p n) (q n) e;
    }
