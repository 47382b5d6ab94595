-- The nodes of statements: each has a class and a name, and a unit its factor.
use Rattle.std.specs.Prelude.{◌≡◌, ℕ, List, [], ◌∷◌, Option, Some, None, find, if◌then◌else◌}
use Rattle.crs_decimal.specs.Numbers.{Value, zero}
use Rattle.crs_text.specs.Items.{Item, Siblings, End, More, arguments, keyword_in, kind_of_item, raw_of, IsNumberOf}
use Rattle.crs_text.specs.declared.items.ItemKind.TheVariants.{Text}
use Rattle.crs_text.specs.declared.keyword.Keyword.{Keyword}
use Rattle.crs_shape.specs.Keywords.{has_keyword}
use Rattle.crs_shape.specs.declared.class.Class.{Class}
use Rattle.crs_shape.specs.declared.class.Class.TheVariants as class
use Rattle.crs_shape.specs.declared.unit_kind.UnitKind.{UnitKind}
use Rattle.crs_shape.specs.declared.unit_kind.UnitKind.TheVariants as kind
use Rattle.crs_value.specs.Checks.{IsAboveZero}
use Rattle.crs_value.specs.Reading.{is_same}

-- the classes of nodes that may count as one; a keyword counts for the first class here that has it
abbrev pub subjects : List Class
subjects =
    class.GeodeticFrame ∷ class.VerticalFrame ∷ class.Member ∷ class.Ellipsoid
    ∷ class.PrimeMeridian ∷ class.Method ∷ class.Parameter ∷ class.GeoidModel
    ∷ class.DeformationModel ∷ class.Axis ∷ class.PlainUnit ∷ class.LengthUnit ∷ class.AngleUnit
    ∷ class.ScaleUnit ∷ []

-- the class that a keyword is of
abbrev pub subject_of : Option Keyword → Option Class
subject_of None = None
subject_of (Some k) = find (λ c. has_keyword c k) subjects

-- the kind of units of a class; none where its nodes are no units
abbrev pub kind_of : Class → Option UnitKind
kind_of c =
    if is_same c class.PlainUnit then Some kind.Plain
    else (if is_same c class.LengthUnit then Some kind.Length
    else (if is_same c class.AngleUnit then Some kind.Angle
    else (if is_same c class.ScaleUnit then Some kind.Scale else None)))

-- what a node of a `SAME` says: its class, its name and, if it is a unit, the factor; else zero
pub record MemberParts : Type 0 where
  pub class : Class
  pub name : List ℕ
  pub factor : Value

-- what follows the name: nothing, but in a unit its factor, which is above zero
abbrev pub SaysFactor : Option UnitKind → Siblings → Value → Type 0
SaysFactor None items factor = (items ≡ End) × (factor ≡ zero)
SaysFactor (Some k) End factor = ⊥
SaysFactor (Some k) (More item items) factor = (items ≡ End) × IsNumberOf item (Some factor) × IsAboveZero factor

-- the arguments of a node: the name, and what follows it
abbrev pub SaysName : Siblings → MemberParts → Type 0
SaysName End m = ⊥
SaysName (More item items) m =
    (kind_of_item item ≡ Text) × (m.name ≡ raw_of item)
    × SaysFactor (kind_of m.class) items m.factor

-- a node says this
abbrev pub Says : Item → MemberParts → Type 0
Says item m = (subject_of (keyword_in item) ≡ Some m.class) × SaysName (arguments item) m
