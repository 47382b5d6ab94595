use Rattle.std.proofs.Common.{rules, subst}
use Rattle.crs_decimal.specs.inner.PlainBytes.{IsUnsigned}
use Rattle.crs_decimal.proofs.plain.is_unsigned.Goals as goal

pub returns-in-Some : goal.returns-in-Some
returns-in-Some c = λ _. subst IsUnsigned (c.in-Some.ensures.whole (search rules)) c.in-Some.ensures.plain
