-- The names that proofs of the crates above cite, passed on from one place. Declares nothing.
pub use Rattle.crs_decimal.specs.Numbers.{Denotes, IsBounded, IsInBounds, IsMeasured, Strips, digits_value, is_minus, number_of, AreDigits, Exponent, HasForm, IsExponent, IsForm, Parts, Sign, SpellsNumber, exponent_text, fraction_digits, fraction_text, is_digit, is_run_byte, is_run_start, mantissa, minus, parts_text, plus, sign_text, unsigned, Number, SameNumber, SameSize, whole_number, IsNormal, Value, down_of, exact, is_normal, is_power, is_zero_power, up_of, zero, AppendsPlain, EndsTrim, IsFractionNeeded, IsPlain, IsTrim, plain}
pub use Rattle.crs_decimal.specs.inner.Run.{IsRun}
pub use Rattle.crs_decimal.specs.Fault.{IsFault}
pub use Rattle.crs_decimal.specs.inner.Mantissa.{no_digits, with_digits}
