-- What a word means, the forms in which it is said, and how one is made from the other.
-- Assumes nothing.
use Rattle.std.specs.Prelude.{◌≡◌, ℕ, ◌≤◌, min, cond, List, [], nat_le}

-- a word, by what the newest form has: draughts before and behind, and a second name, which is empty where there is none
pub record Meaning : Type 0 where
  pub ship : ℕ
  pub lock : ℕ
  pub before : ℕ
  pub behind : ℕ
  pub name : List ℕ

-- what is said, in form 1, 2 or 3
pub data Uttered : Type 0 where
  first : (ship lock before : ℕ) → Uttered
  second : (ship lock before behind : ℕ) → Uttered
  third : (ship lock before behind : ℕ) (name : List ℕ) → Uttered

abbrev pub form_of : Uttered → ℕ
form_of (first s l b) = 1
form_of (second s l b h) = 2
form_of (third s l b h n) = 3

abbrev pub ship_of : Uttered → ℕ
ship_of (first s l b) = s
ship_of (second s l b h) = s
ship_of (third s l b h n) = s

-- older: put into form f, which forgets what it leaves out
abbrev pub put : ℕ → Meaning → Uttered
put f w =
    cond (nat_le f 1) (first w.ship w.lock w.before) (cond (nat_le f 2) (second w.ship w.lock w.before w.behind) (third w.ship w.lock w.before w.behind w.name))

-- newer: what it means; the draught behind is as before, and there is no second name, where the form has none
abbrev pub get : Uttered → Meaning
get (first s l b) = record { ship = s; lock = l; before = b; behind = b; name = [] }
get (second s l b h) = record { ship = s; lock = l; before = b; behind = h; name = [] }
get (third s l b h n) = record { ship = s; lock = l; before = b; behind = h; name = n }

-- the word with what form f leaves out set so
abbrev pub without : ℕ → Meaning → Meaning
without f w = record { ship = w.ship; lock = w.lock; before = w.before; behind = cond (nat_le f 1) w.before w.behind; name = cond (nat_le f 2) [] w.name }

-- put into a form and read again, it is the word with what that form leaves out set so
abbrev pub PutThenGet : Type 0
PutThenGet = (f : ℕ) (w : Meaning) → get (put f w) ≡ without f w

-- put into form a, read, and put into form b, it means what it means put into the lower of both at once
abbrev pub PutTwice : Type 0
PutTwice = (a b : ℕ) (w : Meaning) → get (put b (get (put a w))) ≡ get (put (min a b) w)

-- and where b is not above a, it is the same form with the same in it
abbrev pub PutDown : Type 0
PutDown = (a b : ℕ) (w : Meaning) → b ≤ a → put b (get (put a w)) ≡ put b w

-- the newest form leaves nothing out
abbrev pub Whole : Type 0
Whole = (w : Meaning) → get (put 3 w) ≡ w

-- what a form leaves out only grows as the form gets older: what b leaves out, an older a leaves out too
abbrev pub OlderForgets : Type 0
OlderForgets = (a b : ℕ) (w : Meaning) → a ≤ b → without a (without b w) ≡ without a w

-- what is read is in the form in which it was put, for the forms that there are
abbrev pub PutForm : Type 0
PutForm = (f : ℕ) (w : Meaning) → 1 ≤ f → f ≤ 3 → form_of (put f w) ≡ f

-- what was read and is put into its own form is as it was
abbrev pub GetThenPut : Type 0
GetThenPut = (u : Uttered) → put (form_of u) (get u) ≡ u

pub record Laws : Type 0 where
  pub set_so : PutThenGet
  pub lower : PutTwice
  pub down : PutDown
  pub whole : Whole
  pub forgets : OlderForgets
  pub kept : PutForm
  pub again : GetThenPut
