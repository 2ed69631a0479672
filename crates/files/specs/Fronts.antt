-- How bytes begin.
-- Assumes nothing.
use Rattle.std.specs.Prelude.{ℕ, Result, Option}
use Rattle.files.specs.declared.front.Wrong.{Wrong}

-- `Ok (Some n)`: with a whole record, of n bytes; `Ok None`: with a first part of a record that is not the whole of it, be it of no bytes;
-- `Err wrong`: with what no record begins with
abbrev pub Front : Type 0
Front = Result (Option ℕ) Wrong

abbrev pub wrong : Wrong
wrong = record {}
