use Rattle.std.proofs.Common.{rules, ◌+◌, ◌-◌, ◌*◌, ◌≡◌, ◌<◌, length, get_or, false, arith, sym, ◌∙◌}
use Rattle.std.specs.List.{prefix_len}
use Rattle.std.proofs.lemmas.List.Folds.{length-prefix_len}
use Rattle.std.proofs.lemmas.List.Sums.{prefix_len_is, fold_more}
use Rattle.crs_decimal.specs.Numbers.{is_digit}
use Rattle.crs_decimal.proofs.ShortLemmas.{small_at, small_more}
use Rattle.crs_decimal.proofs.short.with_digits.Goals as goal
use Rattle.crs_decimal.proofs.short.with_digits.Goals.{else-loop-byte-test, then-loop-byte-test+then-not-is_ascii_digit}

ended : (c : goal.After-rest_of) → prefix_len is_digit c.args.bytes.now ≡ c.loop-byte.byte-index
ended c =
    let bytes = c.args.bytes.now in
    let at = c.loop-byte.byte-index in
    let stops : at < length bytes → is_digit (get_or bytes at 0) ≡ false =
    λ h. elim c.loop-byte-test.branch [ else-loop-byte-test w ↦ absurd (omega arith) | then-loop-byte-test+then-not-is_ascii_digit w ↦ sym w.is_ascii_digit.ensures.value ∙ w.if-not-is_ascii_digit.true ] in
    prefix_len_is is_digit bytes at 0 (omega arith) c.loop-byte.invariant.digits stops

pub overflow_mul-value : goal.overflow_mul-value
overflow_mul-value c =
    omega (arith, small_at c.loop-byte.value (c.args.before.count + c.loop-byte.byte-index) 18 c.loop-byte.invariant.small (omega arith))

pub overflow_add-value : goal.overflow_add-value
overflow_add-value c =
    omega (arith, small_at c.loop-byte.value (c.args.before.count + c.loop-byte.byte-index) 18 c.loop-byte.invariant.small (omega arith))

pub loop-byte-preserved : goal.loop-byte-preserved
loop-byte-preserved c =
    let next : c.args.before.count + (c.loop-byte.byte-index + 1) ≡ c.args.before.count + c.loop-byte.byte-index + 1 = omega arith in
    let digit : c.from.result ≡ get_or c.args.bytes.now c.loop-byte.byte-index 0 - 48 = search rules in
    record {
      counted = omega arith;
      digits = search rules;
      taken = cc (fold_more (λ n d. n * 10 + (d - 48)) c.args.before.value c.args.bytes.now c.loop-byte.byte-index 0 (omega arith));
      small = rw next (small_more c.loop-byte.value (c.args.before.count + c.loop-byte.byte-index) c.from.result c.loop-byte.invariant.small (search rules));
    }

pub returns-clause-value : goal.returns-clause-value
returns-clause-value c = rw (ended c) c.loop-byte.invariant.taken

pub returns-clause-count : goal.returns-clause-count
returns-clause-count c = omega (arith, ended c, length-prefix_len is_digit c.args.bytes.now)

pub returns-clause-rest : goal.returns-clause-rest
returns-clause-rest c = rw (ended c, ← c.loop-byte.invariant.counted) c.rest_of.ensures
