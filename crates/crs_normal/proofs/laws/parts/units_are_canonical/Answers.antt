use Rattle.std.proofs.Common.{arith}
use Rattle.crs_shape.specs.declared.class.Class.TheVariants as class
use Rattle.crs_shape.specs.declared.unit_kind.UnitKind.TheVariants as kinds
use Rattle.crs_value.specs.inner.Prelude.{ReadsUnit}
use Rattle.crs_same.specs.inner.Prelude.{kind_as}
use Rattle.crs_normal.specs.PartSpellings.{unit_class}
use Rattle.crs_normal.specs.inner.SpelledItems.{item_unit, norm_unit}
use Rattle.crs_normal.proofs.made.IdentLemmas.{unit-made}
use Rattle.crs_normal.proofs.members.MemberLemmas.{unit-kept, unit-read}
use Rattle.crs_normal.proofs.parts.PartLemmas.{canonical-by, good-of, made-stands, told-by}
use Rattle.crs_normal.proofs.parts.PartUnitLemmas.{is-unit_class, kind-in, names-id, own-unit}
use Rattle.crs_normal.proofs.read.ViewLemmas.{keyword-names}
use Rattle.crs_normal.proofs.same.UnitLemmas.{unit-agrees}
use Rattle.crs_normal.proofs.laws.parts.units_are_canonical.Goals as goal

pub returns : goal.returns
returns c level =
    let laws = c.lower_laws.ensures in
    let kept = unit-kept level kinds.Plain in
    canonical-by laws item_unit (record {
      decides = unit-agrees laws.normal_is_one c.sets_decide.ensures.idents level kinds.Plain;
      made = λ x s. made-stands (omega arith)
          (unit-made laws level (unit_class x.kind) (kind_as kinds.Plain x.kind) x (kind-in x.kind) s 0);
      reads = λ x s. unit-read laws (unit_class x.kind) (names-id x.kind) (norm_unit level kinds.Plain x) (kept x s) 0;
      told = told-by laws _ _ class.LengthUnit ReadsUnit _ _ item_unit c.members_read_once.ensures.unit
          (λ x s. made-stands (omega arith) (unit-made laws level (unit_class x.kind) (kind_as kinds.Plain x.kind) x (kind-in x.kind) s 0))
          (λ x s. unit-read laws class.LengthUnit (keyword-names _ _) (norm_unit level kinds.Plain x) (kept x s) 0);
      sound = λ x s. c.parts_are_sound.ensures.unit (unit_class x.kind) (is-unit_class x.kind);
      own = λ x s i v sound normal. own-unit laws.plain_one level x.kind i v (good-of sound normal);
    })
