-- The five rules that everything else rests on: what a program reads, up to which level forms may be used towards another boat,
-- which messages a station judges, and the forms in which a word is said and is kept.
-- Assumes nothing.
use Rattle.std.specs.Prelude.{ℕ, min, Bool, ◌&&◌, ◌==◌, nat_le}

-- program: which it runs; floor: the program below which it has promised not to go; level: the highest that it was told may be used
pub record Boat : Type 0 where
  pub program : ℕ
  pub floor : ℕ
  pub level : ℕ

-- there are three forms; program p knows the first p of them
abbrev pub newest : ℕ → ℕ
newest p = min p 3

-- does program p read form f
abbrev pub reads : ℕ → ℕ → Bool
reads p f = nat_le 1 f && nat_le f (newest p)

-- up to which level boat s may use forms towards boat j: its own level, whoever j is
abbrev pub may_use : Boat → ℕ → ℕ
may_use s j = s.level

-- does station i judge a message that is for the station `to`
abbrev pub accepts : ℕ → ℕ → Bool
accepts i to = to == i

-- the form in which boat s says a word to boat j
abbrev pub say_form : Boat → ℕ → ℕ
say_form s j = min (may_use s j) (newest s.program)

-- the form in which boat s keeps a word that came in form f
abbrev pub keep_form : Boat → ℕ → ℕ
keep_form s f = min f (min s.level (newest s.program))
