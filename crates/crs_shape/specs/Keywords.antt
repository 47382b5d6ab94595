-- Keywords: a node begins with a keyword of its class. A class's first keyword is the one that is
-- written, but a geodetic CRS with an ellipsoidal system is written as a geographic one, and a unit
-- on an axis by its kind. All are read without regard to case.
use Rattle.std.specs.Prelude.{ℕ, Bool, Option, Some, None, List, [], ◌∷◌, if◌then◌else◌}
use Rattle.std.specs.List.{list_any}
use Rattle.std.specs.Str.{str_eq_ignore_ascii_case}
use denote.Enum.Bare.{sameb}
use Rattle.crs_text.specs.contracts.keyword.Keyword.{the_type}
use Rattle.crs_text.specs.declared.keyword.Keyword.{Keyword}
use Rattle.crs_text.specs.declared.keyword.Keyword.TheVariants as keyword
use Rattle.crs_text.specs.Keywords.{spelling_of}
use Rattle.crs_shape.specs.declared.class.Class.{Class}
use Rattle.crs_shape.specs.declared.class.Class.TheVariants as class

-- the keywords of each class; an item that isn't a node has none
abbrev pub keywords_of : Class → List Keyword
keywords_of class.Number = []
keywords_of class.Text = []
keywords_of class.Word = []
keywords_of class.GeodeticCrs = keyword.GeodCrs ∷ keyword.GeodeticCrs ∷ []
keywords_of class.GeographicCrs = keyword.GeogCrs ∷ keyword.GeographicCrs ∷ []
keywords_of class.ProjectedCrs = keyword.ProjCrs ∷ keyword.ProjectedCrs ∷ []
keywords_of class.VerticalCrs = keyword.VertCrs ∷ keyword.VerticalCrs ∷ []
keywords_of class.CompoundCrs = keyword.CompoundCrs ∷ []
keywords_of class.BaseCrs = keyword.BaseGeogCrs ∷ keyword.BaseGeodCrs ∷ []
keywords_of class.Dynamic = keyword.Dynamic ∷ []
keywords_of class.FrameEpoch = keyword.FrameEpoch ∷ []
keywords_of class.DeformationModel = keyword.Model ∷ keyword.VelocityGrid ∷ []
keywords_of class.GeodeticFrame = keyword.Datum ∷ keyword.Trf ∷ keyword.GeodeticDatum ∷ []
keywords_of class.VerticalFrame = keyword.VDatum ∷ keyword.Vrf ∷ keyword.VerticalDatum ∷ []
keywords_of class.GeodeticEnsemble = keyword.Ensemble ∷ []
keywords_of class.VerticalEnsemble = keyword.Ensemble ∷ []
keywords_of class.Member = keyword.Member ∷ []
keywords_of class.EnsembleAccuracy = keyword.EnsembleAccuracy ∷ []
keywords_of class.Anchor = keyword.Anchor ∷ []
keywords_of class.AnchorEpoch = keyword.AnchorEpoch ∷ []
keywords_of class.Ellipsoid = keyword.Ellipsoid ∷ keyword.Spheroid ∷ []
keywords_of class.PrimeMeridian = keyword.PrimeM ∷ keyword.PrimeMeridian ∷ []
keywords_of class.PlainUnit = keyword.PlainUnit ∷ []
keywords_of class.LengthUnit = keyword.LengthUnit ∷ keyword.PlainUnit ∷ []
keywords_of class.AngleUnit = keyword.AngleUnit ∷ keyword.PlainUnit ∷ []
keywords_of class.ScaleUnit = keyword.ScaleUnit ∷ []
keywords_of class.AxisUnit = keyword.LengthUnit ∷ keyword.AngleUnit ∷ keyword.PlainUnit ∷ []
keywords_of class.CoordinateSystem = keyword.Cs ∷ []
keywords_of class.Axis = keyword.Axis ∷ []
keywords_of class.AxisMeridian = keyword.Meridian ∷ []
keywords_of class.Order = keyword.Order ∷ []
keywords_of class.Conversion = keyword.Conversion ∷ []
keywords_of class.Method = keyword.Method ∷ keyword.Projection ∷ []
keywords_of class.Parameter = keyword.Parameter ∷ []
keywords_of class.GeoidModel = keyword.GeoidModel ∷ []
keywords_of class.Usage = keyword.Usage ∷ []
keywords_of class.Scope = keyword.Scope ∷ []
keywords_of class.Area = keyword.Area ∷ []
keywords_of class.BoundingBox = keyword.BBox ∷ []
keywords_of class.VerticalExtent = keyword.VerticalExtent ∷ []
keywords_of class.Identifier = keyword.Id ∷ []
keywords_of class.Citation = keyword.Citation ∷ []
keywords_of class.Uri = keyword.Uri ∷ []
keywords_of class.Remark = keyword.Remark ∷ []

-- whether a keyword is one of the class
abbrev pub has_keyword : Class → Keyword → Bool
has_keyword c k = list_any (λ j. sameb the_type j k) (keywords_of c)

-- All classes. Where several of those that have a keyword are allowed in one parent, it names the
-- first there: so a unit that doesn't say its kind goes before those that do.
abbrev pub every_class : List Class
every_class =
    class.Number ∷ class.Text ∷ class.Word ∷ class.GeodeticCrs ∷ class.GeographicCrs ∷
    class.ProjectedCrs ∷ class.VerticalCrs ∷ class.CompoundCrs ∷ class.BaseCrs ∷ class.Dynamic ∷
    class.FrameEpoch ∷ class.DeformationModel ∷ class.GeodeticFrame ∷ class.VerticalFrame ∷
    class.GeodeticEnsemble ∷ class.VerticalEnsemble ∷ class.Member ∷ class.EnsembleAccuracy ∷
    class.Anchor ∷ class.AnchorEpoch ∷ class.Ellipsoid ∷ class.PrimeMeridian ∷ class.PlainUnit ∷
    class.LengthUnit ∷ class.AngleUnit ∷ class.ScaleUnit ∷ class.AxisUnit ∷ class.CoordinateSystem ∷
    class.Axis ∷ class.AxisMeridian ∷ class.Order ∷ class.Conversion ∷ class.Method ∷
    class.Parameter ∷ class.GeoidModel ∷ class.Usage ∷ class.Scope ∷ class.Area ∷ class.BoundingBox
    ∷ class.VerticalExtent ∷ class.Identifier ∷ class.Citation ∷ class.Uri ∷ class.Remark ∷ []

-- the classes of a whole text
abbrev pub root_classes : List Class
root_classes =
    class.GeodeticCrs ∷ class.GeographicCrs ∷ class.ProjectedCrs ∷ class.VerticalCrs
    ∷ class.CompoundCrs ∷ []

-- whether a word is one of these keywords
abbrev pub is_one_of : List Keyword → List ℕ → Bool
is_one_of keywords word = list_any (λ k. str_eq_ignore_ascii_case (spelling_of k) word) keywords

-- whether a word is a keyword of the class
unfoldable pub is_keyword : Class → List ℕ → Bool
is_keyword c word = is_one_of (keywords_of c) word

-- the first of these classes that has the word among its keywords
abbrev pub first_named : List Class → List ℕ → Option Class
first_named [] word = None
first_named (c ∷ cs) word = if is_keyword c word then Some c else first_named cs word

-- whether a word is a keyword of any class
unfoldable pub is_known : List ℕ → Bool
is_known word = list_any (λ c. is_keyword c word) every_class

-- the class that a word names at the root of a text
unfoldable pub root_named : List ℕ → Option Class
root_named word = first_named root_classes word
