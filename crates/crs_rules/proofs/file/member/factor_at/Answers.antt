use Rattle.crs_text.specs.inner.Prelude.{here}
use Rattle.crs_shape.specs.declared.unit_kind.UnitKind.TheVariants as unit_kind
use Rattle.crs_rules.proofs.MemberLemmas.{false-true, no-factor}
use Rattle.crs_rules.proofs.file.member.factor_at.Goals as goal

pub returns-else-is_above_zero : goal.returns-else-is_above_zero
returns-else-is_above_zero c =
    no-factor c.denotes_one.ensures unit_kind.Plain (here c.args.items.now c.args.id) c.in_ok-factor.factor
    c.in_ok-factor.ensures (λ above. false-true (c.if-is_above_zero.ensures.1 above))
