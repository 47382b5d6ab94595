-- A bridge: bytes that are taken as one run, before they are read as a number.
use Rattle.std.specs.Prelude.{ℕ, IsTrue, List, [], ◌∷◌}
use Rattle.std.specs.List.{list_all}
use Rattle.crs_decimal.specs.Numbers.{is_run_byte, is_run_start}

-- there is a byte, the first is one that a number starts with, and all are bytes of numbers and words
abbrev pub IsRun : List ℕ → Type 0
IsRun [] = ⊥
IsRun (b ∷ bytes) = IsTrue (is_run_start b) × IsTrue (list_all is_run_byte (b ∷ bytes))
