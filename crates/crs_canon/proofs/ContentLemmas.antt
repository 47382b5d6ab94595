-- Units where a kind is asked, as units by themselves.
use Rattle.std.proofs.Common.{◌≡◌, ◌∙◌, ℕ, List, refl, sym, ap}
use Rattle.crs_shape.specs.declared.unit_kind.UnitKind.{UnitKind}
use Rattle.crs_shape.specs.declared.unit_kind.UnitKind.TheVariants as kinds
use Rattle.crs_shape.specs.inner.Prelude.{kind_as}
use Rattle.crs_value.specs.inner.Prelude.{ReadsUnit, IsUnit, UnitParts}
use Rattle.crs_value.specs.declared.values.level.Level.{Level}
use Rattle.crs_same.specs.inner.Prelude.{SameUnit}
use Rattle.crs_normal.specs.inner.Prelude.{IsSpelledUnit, unit_class, IsSpelledAs, norm_unit}

-- a unit where this kind is asked, by itself: `UNIT` is of that kind
abbrev pub as_asked : UnitKind → UnitParts → UnitParts
as_asked asked unit =
    record { kind = kind_as asked unit.kind; name = unit.name; factor = unit.factor; identifiers = unit.identifiers }

alone : (kind : UnitKind) → kind_as kinds.Plain kind ≡ kind
alone kinds.Length = refl
alone kinds.Angle = refl
alone kinds.Scale = refl
alone kinds.Plain = refl

asked-itself : (asked : UnitKind) → kind_as asked asked ≡ asked
asked-itself kinds.Length = refl
asked-itself kinds.Angle = refl
asked-itself kinds.Scale = refl
asked-itself kinds.Plain = refl

asked-again : (asked kind : UnitKind) → kind_as asked (kind_as asked kind) ≡ kind_as asked kind
asked-again asked kinds.Length = refl
asked-again asked kinds.Angle = refl
asked-again asked kinds.Scale = refl
asked-again asked kinds.Plain = asked-itself asked

-- where it is asked, a unit has the form that it has by itself with the asked kind
pub asked-alone : (level : Level) (asked : UnitKind) (unit : UnitParts) →
    norm_unit level kinds.Plain (as_asked asked unit) ≡ norm_unit level asked unit
asked-alone level asked unit =
    ap (λ (kind : UnitKind). record (norm_unit level asked unit) { kind = kind }) (alone (kind_as asked unit.kind))

pub asked-is : (asked : UnitKind) (unit : UnitParts) → IsUnit unit → IsUnit (as_asked asked unit)
asked-is asked unit is = record { name = is.name; factor = is.factor; above_zero = is.above_zero; identifiers = is.identifiers }

same-asked : (asked : UnitKind) (level : Level) (unit read : UnitParts) → SameUnit kinds.Plain level (as_asked asked unit) read →
    SameUnit asked level unit read
same-asked asked level unit read s = record {
  kind =
      sym (asked-again asked unit.kind)
      ∙ ap (kind_as asked) (sym (alone (kind_as asked unit.kind)) ∙ s.kind ∙ alone read.kind);
  name = s.name;
  factor = s.factor;
  identifiers = s.identifiers;
}

-- the spelling by itself, with the asked kind, is that where the kind is asked
pub spelled-asked : (level : Level) (asked : UnitKind) (unit : UnitParts) (bytes : List ℕ) →
    IsSpelledUnit level (as_asked asked unit) bytes →
    IsSpelledAs level (unit_class (kind_as asked unit.kind)) ReadsUnit (SameUnit asked level) unit bytes
spelled-asked level asked unit bytes s = record {
  item = s.item;
  spells = s.spells;
  written = s.written;
  shaped = s.shaped;
  unbroken = s.unbroken;
  normal = s.normal;
  read = s.read;
  reads = s.reads;
  same = same-asked asked level unit s.read s.same;
}
