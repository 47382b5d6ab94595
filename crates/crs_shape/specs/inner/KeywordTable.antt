-- A bridge: the table of keywords: the classes that have each keyword.
use Rattle.std.specs.Prelude.{◌≡◌, Bool, true, Option, Some, None, List, [], ◌∷◌, filter}
use Rattle.std.specs.List.{find, list_any, flat_map}
use denote.Enum.Bare.{sameb}
use Rattle.crs_text.specs.declared.keyword.Keyword.{Keyword}
use Rattle.crs_shape.specs.contracts.class.Class.{the_type}
use Rattle.crs_shape.specs.declared.class.Class.{Class}
use Rattle.crs_shape.specs.declared.class.Class.TheVariants as class
use Rattle.crs_shape.specs.Keywords.{every_class, has_keyword, root_classes}
use Rattle.crs_shape.specs.Shape.{slots_of, takes}

-- the classes that have a keyword, in the order of all classes
abbrev pub classes_of : Keyword → List Class
classes_of k = filter (λ c. has_keyword c k) every_class

-- the classes that have a keyword, none where there is no keyword
abbrev pub classes_by : Option Keyword → List Class
classes_by None = []
classes_by (Some k) = classes_of k

-- whether it is one of these classes
abbrev pub is_among : Class → List Class → Bool
is_among c classes = list_any (λ d. sameb the_type d c) classes

-- whether arguments of a class are allowed in a parent
abbrev pub is_part : Class → Class → Bool
is_part parent c = list_any (λ s. takes s c) (slots_of parent)

-- the classes of the arguments that are allowed in a parent
abbrev pub argument_classes : Class → List Class
argument_classes parent = flat_map (λ s. s.classes) (slots_of parent)

-- whether it is a class of a whole text
abbrev pub is_root : Class → Bool
is_root c = is_among c root_classes

-- the classes that go before a class where it shares a keyword with them
abbrev pub rivals_of : Class → List Class
rivals_of class.VerticalEnsemble = class.GeodeticEnsemble ∷ []
rivals_of class.LengthUnit = class.PlainUnit ∷ []
rivals_of class.AngleUnit = class.PlainUnit ∷ class.LengthUnit ∷ []
rivals_of class.AxisUnit = class.PlainUnit ∷ class.LengthUnit ∷ class.AngleUnit ∷ []
rivals_of other = []

-- each keyword of a class names it in a parent: it is allowed there, and none that goes before it
abbrev pub IsClear : Class → Class → Type 0
IsClear parent c = (is_part parent c ≡ true) × (find (is_part parent) (rivals_of c) ≡ None)
