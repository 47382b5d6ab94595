use Rattle.std.proofs.Common.{refl, rules}
use Rattle.crs_decimal.specs.inner.Prelude.{unsigned, plus, minus}
use Rattle.crs_text.proofs.lexing.sign_length.Goals as goal

pub returns-in-45-clause-signed : goal.returns-in-45-clause-signed
returns-in-45-clause-signed c = (minus, search rules, refl)

pub returns-in-43-clause-signed : goal.returns-in-43-clause-signed
returns-in-43-clause-signed c = (plus, search rules, refl)

pub returns-in_default-clause-signed : goal.returns-in_default-clause-signed
returns-in_default-clause-signed c = (unsigned, refl, refl)

pub returns-in_default-2-clause-signed : goal.returns-in_default-2-clause-signed
returns-in_default-2-clause-signed c = (unsigned, refl, refl)
