-- The code's words by what they mean and by what is said.
-- Assumes nothing.
use Rattle.forms.specs.declared.word.Word.{Word}
use Rattle.forms.specs.declared.word.Spoken.{Spoken}
use Rattle.forms.specs.declared.word.Spoken.TheVariants.{First, Second, Third}
use Rattle.forms.specs.Names.{name_of}
use Rattle.forms.specs.Meaning.{Meaning, Uttered, first, second, third}

abbrev pub meaning : Word → Meaning
meaning w = record { ship = w.ship; lock = w.lock; before = w.before; behind = w.behind; name = name_of w.name }

abbrev pub said : Spoken → Uttered
said (First s l b) = first s l b
said (Second s l b h) = second s l b h
said (Third s l b h n) = third s l b h (name_of n)
