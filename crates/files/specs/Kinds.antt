-- The kinds of records, by their first byte.
-- Assumes nothing.
use Rattle.std.specs.Prelude.{◌≡◌, ℕ, ◌<◌, ◌⊎◌, Result, MatchResult}
use Rattle.files.specs.declared.front.Wrong.{Wrong}
use Rattle.files.specs.declared.kind.Kind.{Kind}
use Rattle.files.specs.declared.kind.Kind.TheVariants.{Floor, Level, Word, Boat, Used}

abbrev pub code_of : Kind → ℕ
code_of Floor = 6
code_of Level = 7
code_of Word = 8
code_of Boat = 9
code_of Used = 10

-- the kind that has this code, or none has it
abbrev pub Decodes : ℕ → Result Kind Wrong → Type 0
Decodes code r = MatchResult r (λ kind. code_of kind ≡ code) (λ _. (code < 6) ⊎ (10 < code))
