use Rattle.std.proofs.Common.{subst}
use Rattle.crs_value.specs.inner.Prelude.{IsFaultOfText}
use Rattle.crs_rules.proofs.form.read_accepted.Goals as goal

pub unreachable-requires : goal.unreachable-requires
unreachable-requires c =
    c.one_answer.ensures.apart c.args.text.now c.requires.0 c.in-Err-Refused.field-0-0 c.requires.1
    (subst (IsFaultOfText c.args.text.now) c.in-Err-Refused.field-0-is c.in-Err-Refused.ensures)
