use Rattle.std.proofs.Common.{◌≡◌, ◌<◌, length, get_or, false, arith, sym, ◌∙◌}
use Rattle.std.specs.List.{prefix_len}
use Rattle.std.proofs.lemmas.List.Folds.{length-prefix_len}
use Rattle.std.proofs.lemmas.List.Sums.{prefix_len_is}
use Rattle.crs_decimal.specs.Numbers.{is_digit}
use Rattle.crs_decimal.proofs.cutting.split_digits.Goals as goal
use Rattle.crs_decimal.proofs.cutting.split_digits.Goals.{else-loop-byte-test, then-loop-byte-test+then-not-is_ascii_digit}

ended : (c : goal.After-rest_of) → prefix_len is_digit c.args.bytes.now ≡ c.loop-byte.byte-index
ended c =
    let bytes = c.args.bytes.now in
    let at = c.loop-byte.byte-index in
    let stops : at < length bytes → is_digit (get_or bytes at 0) ≡ false =
    λ h. elim c.loop-byte-test.branch [ else-loop-byte-test w ↦ absurd (omega arith) | then-loop-byte-test+then-not-is_ascii_digit w ↦ sym w.is_ascii_digit.ensures.value ∙ w.if-not-is_ascii_digit.true ] in
    prefix_len_is is_digit bytes at 0 (omega arith) c.loop-byte.invariant.digits stops

pub returns-clause-mantissa : goal.returns-clause-mantissa
returns-clause-mantissa c = rw (ended c) c.loop-byte.invariant.taken

pub returns-clause-count : goal.returns-clause-count
returns-clause-count c = omega (arith, ended c, length-prefix_len is_digit c.args.bytes.now)

pub returns-clause-rest : goal.returns-clause-rest
returns-clause-rest c = rw (ended c, ← c.loop-byte.invariant.counted) c.rest_of.ensures
