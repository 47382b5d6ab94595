use Rattle.std.proofs.Common.{None, refl, ap, ◌∙◌, rules}
use Rattle.std.specs.List.{prefix_len}
use Rattle.crs_decimal.specs.inner.Prelude.{is_digit}
use Rattle.crs_text.proofs.tokens.PlainNumberLemmas.{fraction_front}
use Rattle.crs_text.proofs.lexing.fraction_length.Goals as goal

pub returns-in-46-clause-fraction : goal.returns-in-46-clause-fraction
returns-in-46-clause-fraction c =
    fraction_front c.args.left.now c.length.result (search rules) (c.length.ensures.value ∙ ap (prefix_len is_digit) c.rest_of.ensures)

pub returns-in_default-clause-fraction : goal.returns-in_default-clause-fraction
returns-in_default-clause-fraction c = (None, refl, refl, refl)

pub returns-in_default-2-clause-fraction : goal.returns-in_default-2-clause-fraction
returns-in_default-2-clause-fraction c = (None, refl, refl, refl)
