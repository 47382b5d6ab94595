use Rattle.std.proofs.Common.{ap, ◌∙◌, drop, arith}
use Rattle.std.specs.List.{prefix_len}
use Rattle.crs_decimal.specs.inner.Prelude.{is_digit}
use Rattle.crs_text.proofs.tokens.PlainNumberLemmas.{plain_lexed, one_digit_lexed}
use Rattle.crs_text.proofs.lexing.plain_number.Goals as goal

pub returns-then-ends_run : goal.returns-then-ends_run
returns-then-ends_run c =
    let s = c.sign_length-start.result in
    let w = c.length-whole.result in
    let f = c.fraction_length-fraction.result in
    let behind = c.rest_of-behind.ensures ∙ ap (drop w) c.rest_of-unsigned.ensures in
    plain_lexed c.few_digits.ensures c.spelled_as_a_run.ensures c.args.left.now s w f c.sign_length-start.ensures.signed (c.length-whole.ensures.value ∙ ap (prefix_len is_digit) c.rest_of-unsigned.ensures) (omega (arith, c.if-whole-eq0.false))
    (rw behind at c.fraction_length-fraction.ensures.fraction) (omega (arith, c.if-whole-fraction-gt-PLAIN_LIMIT.false))
    (rw (c.rest_of.ensures ∙ ap (drop f) behind) at (c.ends_run.ensures c.if-ends_run.true))

pub returns-then-is_one_digit : goal.returns-then-is_one_digit
returns-then-is_one_digit c = one_digit_lexed c.few_digits.ensures c.spelled_as_a_run.ensures c.args.left.now (c.is_one_digit.ensures c.if-is_one_digit.true)
