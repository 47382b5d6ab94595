use Rattle.std.proofs.Common.{◌≡◌, [], ap, length, sym, arith}
use Rattle.std.proofs.lemmas.List.{nil_from_length}
use Rattle.crs_shape.specs.declared.unit_kind.UnitKind.TheVariants as kinds
use Rattle.crs_value.specs.inner.Prelude.{ConversionParts, IsUnit, IsUnitOf}
use Rattle.crs_rules.specs.Rules.{declared_kind, meaning}
use Rattle.crs_rules.proofs.CrsLemmas.{projected-conversion}
use Rattle.crs_rules.proofs.LeftOutLemmas.{conversion-untold}
use Rattle.crs_rules.proofs.PartLemmas.{completed-conversion-sound, kind-sound, some-weaker}
use Rattle.crs_rules.proofs.rewriting.missing.complete_parameters.Goals as goal

pub invariant_of-value : goal.invariant_of-value
invariant_of-value c =
    simp c.complete.ensures
    (projected-conversion _ _ c.value.invariant
    (completed-conversion-sound (meaning c.args.rules.now) _
    (kind-sound _ _ (some-weaker (IsUnitOf kinds.Angle) IsUnit (λ u i. i.0) _ c.base_unit-angle.ensures.sound)
    (some-weaker (IsUnitOf kinds.Length) IsUnit (λ u i. i.0) _ c.shared-length.ensures.sound)) _ c.value.invariant.conversion))

pub returns-else-len-gt0 : goal.returns-else-len-gt0
returns-else-len-gt0 c =
    let zero : length c.args.rules.now.kinds ≡ 0 = rw (← c.rules.view_is) (grind (arith, c.len.ensures, c.if-len-gt0.false)) in
    let none : c.args.rules.now.kinds ≡ [] = nil_from_length c.args.rules.now.kinds zero in
    ap (λ (x : ConversionParts). record c.args.value.now { conversion = x })
    (sym (conversion-untold (meaning c.args.rules.now) (λ n. ap (λ k. declared_kind k n) none) _ _ c.args.value.now.conversion))
