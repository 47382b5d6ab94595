use Rattle.std.proofs.Common.{◌≡◌, ◌+◌, ◌≤◌, ◌<◌, ℕ, take, get_or, true}
use Rattle.crs_decimal.specs.Numbers.{is_digit}
use Rattle.crs_decimal.specs.inner.Mantissa.{with_digits}
use Rattle.crs_decimal.proofs.cutting.split_digits.Given as goal

abbrev pub invariant-loop-byte : goal.invariant-loop-byte
invariant-loop-byte l = record {
  counted : l.count ≡ l.byte-index;
  digits : (k : ℕ) → k < l.byte-index → is_digit (get_or l.bytes k 0) ≡ true;
  taken : l.mantissa ≡ with_digits l.fn.before (take l.byte-index l.bytes);
  zeros : l.mantissa.zeros ≤ l.fn.before.zeros + l.byte-index;
}
