use Rattle.std.proofs.Common.{◌≡◌, ◌<◌, ◌^◌, take}
use Rattle.crs_decimal.specs.Numbers.{digits_value}
use Rattle.crs_decimal.proofs.reading.exponent_value.Given as goal

abbrev pub invariant-loop-digit : goal.invariant-loop-digit
invariant-loop-digit l = record {
  read : l.value ≡ digits_value (take l.digit-index l.digits);
  small : l.value < 10 ^ l.digit-index;
}
