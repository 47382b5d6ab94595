-- Which fault bytes have if they are no number in bounds: the form is judged before the bounds.
use Rattle.std.specs.Prelude.{ℕ, List}
use Rattle.crs_decimal.specs.declared.fault.NumberFault.{NumberFault}
use Rattle.crs_decimal.specs.declared.fault.NumberFault.TheVariants.{Malformed, Range}
use Rattle.crs_decimal.specs.Numbers.{IsInBounds, HasForm}

-- malformed: not of the number form; out of range: of the form, and not in bounds
abbrev pub IsFault : List ℕ → NumberFault → Type 0
IsFault bytes Malformed = ¬ (HasForm bytes)
IsFault bytes Range = HasForm bytes × ¬ (IsInBounds bytes)
