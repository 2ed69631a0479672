-- What a program shows of a word.
-- Assumes nothing.
use Rattle.std.specs.Prelude.{◌≡◌, ℕ, cond, List, Some, None, Option, nat_le}
use Rattle.levels.specs.Rules.{newest}
use Rattle.forms.specs.declared.name.Name.{Name}
use Rattle.forms.specs.declared.shown.Shown.{Shown}
use Rattle.forms.specs.Names.{name_of}
use Rattle.forms.specs.Meaning.{Meaning, Uttered, form_of, get, put}

-- what stands on the screen
pub record View : Type 0 where
  pub ship : ℕ
  pub lock : ℕ
  pub before : ℕ
  pub behind : Option ℕ
  pub name : Option (List ℕ)
  pub form : ℕ

abbrev pub name_in : Option Name → Option (List ℕ)
name_in None = None
name_in (Some n) = Some (name_of n)

abbrev pub seen : Shown → View
seen s = record { ship = s.ship; lock = s.lock; before = s.before; behind = s.behind; name = name_in s.name; form = s.form.0 }

-- of the word w, which came in form f: program 1 shows what form 1 has, program 2 both draughts, program 3 all
abbrev pub showing_of : ℕ → Meaning → ℕ → View
showing_of p w f = record { ship = w.ship; lock = w.lock; before = w.before; behind = cond (nat_le 2 (newest p)) (Some w.behind) None; name = cond (nat_le 3 (newest p)) (Some w.name) None; form = f }

abbrev pub showing : ℕ → Uttered → View
showing p u = showing_of p (get u) (form_of u)

-- what its own greatest form leaves out it doesn't show anyway
abbrev pub ShowsItsForm : Type 0
ShowsItsForm = (p f : ℕ) (w : Meaning) → showing_of p (get (put (newest p) w)) f ≡ showing_of p w f
