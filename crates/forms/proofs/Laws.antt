-- The laws of putting into a form and reading.
-- Assumes nothing.
use Rattle.std.proofs.Common.{◌≡◌, ℕ, ◌≤◌, min, sym, refl, ap, ◌∙◌, arith}
use Rattle.std.proofs.lemmas.Bool.Decides.{nat_tests}
use Rattle.levels.specs.Rules.{newest}
use Rattle.forms.specs.Shows.{showing_of, ShowsItsForm}
use Rattle.forms.specs.Meaning.{Meaning, first, second, third, put, get, without, PutThenGet, PutTwice, PutDown, OlderForgets, PutForm, GetThenPut, Laws}

put_then_get : PutThenGet
put_then_get f w = grind (arith, nat_tests)

without_twice : (a b : ℕ) (w : Meaning) → without b (without a w) ≡ without (min a b) w
without_twice a b w = grind (arith, nat_tests)

put_twice : PutTwice
put_twice a b w = put_then_get b (get (put a w)) ∙ ap (without b) (put_then_get a w) ∙ without_twice a b w ∙ sym (put_then_get (min a b) w)

put_without : (a b : ℕ) (w : Meaning) → b ≤ a → put b (without a w) ≡ put b w
put_without a b w h = grind (arith, nat_tests)

put_down : PutDown
put_down a b w h = ap (put b) (put_then_get a w) ∙ put_without a b w h

older_forgets : OlderForgets
older_forgets a b w h = grind (arith, nat_tests)

put_form : PutForm
put_form f w l h = grind (arith, nat_tests)

get_then_put : GetThenPut
get_then_put (first s l b) = refl
get_then_put (second s l b h) = refl
get_then_put (third s l b h n) = refl

pub laws : Laws
laws = record { set_so = put_then_get; lower = put_twice; down = put_down; whole = λ w. refl; forgets = older_forgets; kept = put_form; again = get_then_put }

shows_without : (p f : ℕ) (w : Meaning) → showing_of p (without (newest p) w) f ≡ showing_of p w f
shows_without p f w = grind (arith, nat_tests)

pub shows_its_form : ShowsItsForm
shows_its_form p f w = ap (λ m. showing_of p m f) (put_then_get (newest p) w) ∙ shows_without p f w
