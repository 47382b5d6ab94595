-- A bridge: the first arguments of some classes, as one walk over a node finds them.
use Rattle.std.specs.Prelude.{◌≡◌, ◌+◌, ℕ, length, Bool, true, false, List, [], ◌∷◌, map, Option, Some}
use Rattle.std.specs.Option.{option_or}
use Rattle.crs_text.specs.Items.{Item, Siblings}
use Rattle.crs_shape.specs.declared.class.Class.{Class}
use Rattle.crs_shape.specs.declared.class.Class.TheVariants as class
use Rattle.crs_shape.specs.inner.Counts.{one_if}
use Rattle.crs_value.specs.declared.reading.firsts.Firsts.{Firsts}
use Rattle.crs_value.specs.Reading.{is_same, those}
use Rattle.crs_value.specs.inner.Arguments.{IsFound}

-- the first one of a class, with one argument more, which is of the class or not
abbrev pub first_with : Bool → Option ℕ → ℕ → Option ℕ
first_with false old id = old
first_with true old id = option_or old (Some id)

-- the classes that are asked for, each with the first of it
abbrev pub fields : Firsts → List (Class × Option ℕ)
fields firsts =
    (class.CoordinateSystem, firsts.system) ∷ (class.Axis, firsts.axis) ∷ (class.AxisUnit, firsts.unit)
    ∷ (class.Scope, firsts.scope) ∷ (class.Area, firsts.area) ∷ (class.BoundingBox, firsts.bbox)
    ∷ (class.VerticalExtent, firsts.extent) ∷ (class.Remark, firsts.remark) ∷ (class.Usage, firsts.usage)
    ∷ (class.Identifier, firsts.identifier) ∷ (class.Dynamic, firsts.dynamic) ∷ []

-- one argument more, of class d
abbrev pub AreNoted : Firsts → Firsts → Class → ℕ → Type 0
AreNoted old new d id =
    (fields new ≡ map (λ f. (f.0, first_with (is_same f.0 d) f.1 id)) (fields old))
    × (new.axes ≡ old.axes + one_if (is_same class.Axis d))

-- the first one of a class among these arguments; none where there is none
abbrev pub IsFirstOf : Item → Class → Siblings → Class → Option ℕ → Type 0
IsFirstOf tree parent items c found = IsFound tree parent c (those parent c items) found

-- each is the first of its class among these arguments, and so many axes are among them
pub record AreFirsts (tree : Item) (parent : Class) (items : Siblings)
    (firsts : Firsts) : Type 0 where
  pub system : IsFirstOf tree parent items class.CoordinateSystem firsts.system
  pub axis : IsFirstOf tree parent items class.Axis firsts.axis
  pub axes : firsts.axes ≡ length (those parent class.Axis items)
  pub unit : IsFirstOf tree parent items class.AxisUnit firsts.unit
  pub scope : IsFirstOf tree parent items class.Scope firsts.scope
  pub area : IsFirstOf tree parent items class.Area firsts.area
  pub bbox : IsFirstOf tree parent items class.BoundingBox firsts.bbox
  pub extent : IsFirstOf tree parent items class.VerticalExtent firsts.extent
  pub remark : IsFirstOf tree parent items class.Remark firsts.remark
  pub usage : IsFirstOf tree parent items class.Usage firsts.usage
  pub identifier : IsFirstOf tree parent items class.Identifier firsts.identifier
  pub dynamic : IsFirstOf tree parent items class.Dynamic firsts.dynamic
