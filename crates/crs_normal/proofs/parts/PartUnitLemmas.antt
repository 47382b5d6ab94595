-- Units by themselves: their classes, and the names within these.
use Rattle.std.proofs.Common.{◌≡◌, refl, codes, Some}
use Rattle.crs_shape.specs.declared.class.Class.TheVariants as class
use Rattle.crs_shape.specs.declared.unit_kind.UnitKind.{UnitKind}
use Rattle.crs_shape.specs.declared.unit_kind.UnitKind.TheVariants as kinds
use Rattle.crs_shape.specs.inner.Prelude.{is_keyword, class_named}
use Rattle.crs_value.specs.inner.Prelude.{IsUnitClass, ReadsUnit}
use Rattle.crs_value.specs.declared.values.level.Level.{Level}
use Rattle.crs_same.specs.inner.Prelude.{kind_as}
use Rattle.crs_normal.specs.inner.Prelude.{unit_class, item_unit, norm_unit}
use Rattle.crs_normal.proofs.normal.FormLemmas.{Form}
use Rattle.crs_normal.proofs.normal.LeafLemmas.{PlainIsOne}
use Rattle.crs_normal.proofs.normal.UnitLemmas.{in-angle, in-length, in-plain, in-scale, unit-form}
use Rattle.crs_normal.proofs.made.IdentLemmas.{IsKindIn}

pub kind-in : (kind : UnitKind) → IsKindIn (unit_class kind) (kind_as kinds.Plain kind)
kind-in kinds.Length = refl
kind-in other = refl

pub names-id : (kind : UnitKind) → class_named (unit_class kind) (codes "ID") ≡ Some class.Identifier
unfolding class_named is_keyword
names-id kinds.Length = refl
names-id other = refl

pub is-unit_class : (kind : UnitKind) → IsUnitClass (unit_class kind)
is-unit_class kinds.Length = tt
is-unit_class other = tt

-- a normal one of the class of its kind is the one form of its value
pub own-unit : PlainIsOne → (level : Level) (kind : UnitKind) →
    Form level (unit_class kind) (unit_class kind) (ReadsUnit (unit_class kind)) (λ u. item_unit (norm_unit level kinds.Plain u))
own-unit law level kinds.Length = unit-form law level class.LengthUnit class.LengthUnit kinds.Plain refl (in-length kinds.Plain) (λ raw h. h)
own-unit law level kinds.Angle = unit-form law level class.AngleUnit class.AngleUnit kinds.Plain refl (in-angle kinds.Plain) (λ raw h. h)
own-unit law level kinds.Scale = unit-form law level class.ScaleUnit class.ScaleUnit kinds.Plain refl (in-scale kinds.Plain) (λ raw h. h)
own-unit law level kinds.Plain = unit-form law level class.PlainUnit class.PlainUnit kinds.Plain refl in-plain (λ raw h. h)
