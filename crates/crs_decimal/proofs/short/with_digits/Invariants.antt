use Rattle.std.proofs.Common.{◌≡◌, ◌+◌, ◌-◌, ◌*◌, ◌^◌, ◌<◌, ℕ, take, fold, get_or, true}
use Rattle.crs_decimal.specs.Numbers.{is_digit}
use Rattle.crs_decimal.proofs.short.with_digits.Given as goal

abbrev pub invariant-loop-byte : goal.invariant-loop-byte
invariant-loop-byte l = record {
  counted : l.count ≡ l.byte-index;
  digits : (k : ℕ) → k < l.byte-index → is_digit (get_or l.bytes k 0) ≡ true;
  taken : l.value ≡ fold (λ n d. n * 10 + (d - 48)) l.before.value (take l.byte-index l.bytes);
  small : l.value < 10 ^ (l.before.count + l.byte-index);
}
