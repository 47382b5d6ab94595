-- Keywords: the words that the grammar gives a meaning, each under its name, and how they are
-- written. Letter case doesn't count.
use Rattle.std.specs.Prelude.{◌≡◌, ◌↔◌, IsTrue, ℕ, Option, Some, None, List, [], ◌∷◌, codes, if◌then◌else◌}
use Rattle.std.specs.Str.{str_eq_ignore_ascii_case}
use Rattle.crs_text.specs.declared.keyword.Keyword.{Keyword}
use Rattle.crs_text.specs.declared.keyword.Keyword.TheVariants as keyword

-- how a keyword is spelled
abbrev pub spelling_of : Keyword → List ℕ
spelling_of keyword.Id = codes "ID"
spelling_of keyword.Cs = codes "CS"
spelling_of keyword.Trf = codes "TRF"
spelling_of keyword.Vrf = codes "VRF"
spelling_of keyword.Uri = codes "URI"
spelling_of keyword.Axis = codes "AXIS"
spelling_of keyword.BBox = codes "BBOX"
spelling_of keyword.Area = codes "AREA"
spelling_of keyword.PlainUnit = codes "UNIT"
spelling_of keyword.Order = codes "ORDER"
spelling_of keyword.Scope = codes "SCOPE"
spelling_of keyword.Usage = codes "USAGE"
spelling_of keyword.Datum = codes "DATUM"
spelling_of keyword.Model = codes "MODEL"
spelling_of keyword.Member = codes "MEMBER"
spelling_of keyword.PrimeM = codes "PRIMEM"
spelling_of keyword.Method = codes "METHOD"
spelling_of keyword.VDatum = codes "VDATUM"
spelling_of keyword.Remark = codes "REMARK"
spelling_of keyword.Anchor = codes "ANCHOR"
spelling_of keyword.GeogCrs = codes "GEOGCRS"
spelling_of keyword.ProjCrs = codes "PROJCRS"
spelling_of keyword.GeodCrs = codes "GEODCRS"
spelling_of keyword.VertCrs = codes "VERTCRS"
spelling_of keyword.Dynamic = codes "DYNAMIC"
spelling_of keyword.Ensemble = codes "ENSEMBLE"
spelling_of keyword.Meridian = codes "MERIDIAN"
spelling_of keyword.Spheroid = codes "SPHEROID"
spelling_of keyword.Citation = codes "CITATION"
spelling_of keyword.AngleUnit = codes "ANGLEUNIT"
spelling_of keyword.Parameter = codes "PARAMETER"
spelling_of keyword.Ellipsoid = codes "ELLIPSOID"
spelling_of keyword.ScaleUnit = codes "SCALEUNIT"
spelling_of keyword.LengthUnit = codes "LENGTHUNIT"
spelling_of keyword.Conversion = codes "CONVERSION"
spelling_of keyword.Projection = codes "PROJECTION"
spelling_of keyword.GeoidModel = codes "GEOIDMODEL"
spelling_of keyword.FrameEpoch = codes "FRAMEEPOCH"
spelling_of keyword.BaseGeogCrs = codes "BASEGEOGCRS"
spelling_of keyword.BaseGeodCrs = codes "BASEGEODCRS"
spelling_of keyword.CompoundCrs = codes "COMPOUNDCRS"
spelling_of keyword.GeodeticCrs = codes "GEODETICCRS"
spelling_of keyword.VerticalCrs = codes "VERTICALCRS"
spelling_of keyword.AnchorEpoch = codes "ANCHOREPOCH"
spelling_of keyword.ProjectedCrs = codes "PROJECTEDCRS"
spelling_of keyword.VelocityGrid = codes "VELOCITYGRID"
spelling_of keyword.PrimeMeridian = codes "PRIMEMERIDIAN"
spelling_of keyword.GeodeticDatum = codes "GEODETICDATUM"
spelling_of keyword.VerticalDatum = codes "VERTICALDATUM"
spelling_of keyword.GeographicCrs = codes "GEOGRAPHICCRS"
spelling_of keyword.VerticalExtent = codes "VERTICALEXTENT"
spelling_of keyword.EnsembleAccuracy = codes "ENSEMBLEACCURACY"

-- all keywords, the shorter ones first
abbrev pub every_keyword : List Keyword
every_keyword =
    keyword.Id ∷ keyword.Cs ∷ keyword.Trf ∷ keyword.Vrf ∷ keyword.Uri ∷ keyword.Axis ∷ keyword.BBox
    ∷ keyword.Area ∷ keyword.PlainUnit ∷ keyword.Order ∷ keyword.Scope ∷ keyword.Usage
    ∷ keyword.Datum ∷ keyword.Model ∷ keyword.Member ∷ keyword.PrimeM ∷ keyword.Method
    ∷ keyword.VDatum ∷ keyword.Remark ∷ keyword.Anchor ∷ keyword.GeogCrs ∷ keyword.ProjCrs
    ∷ keyword.GeodCrs ∷ keyword.VertCrs ∷ keyword.Dynamic ∷ keyword.Ensemble ∷ keyword.Meridian
    ∷ keyword.Spheroid ∷ keyword.Citation ∷ keyword.AngleUnit ∷ keyword.Parameter
    ∷ keyword.Ellipsoid ∷ keyword.ScaleUnit ∷ keyword.LengthUnit ∷ keyword.Conversion
    ∷ keyword.Projection ∷ keyword.GeoidModel ∷ keyword.FrameEpoch ∷ keyword.BaseGeogCrs
    ∷ keyword.BaseGeodCrs ∷ keyword.CompoundCrs ∷ keyword.GeodeticCrs ∷ keyword.VerticalCrs
    ∷ keyword.AnchorEpoch ∷ keyword.ProjectedCrs ∷ keyword.VelocityGrid ∷ keyword.PrimeMeridian
    ∷ keyword.GeodeticDatum ∷ keyword.VerticalDatum ∷ keyword.GeographicCrs ∷ keyword.VerticalExtent
    ∷ keyword.EnsembleAccuracy ∷ []

-- the first of these keywords whose spelling the word is, letter case aside
abbrev pub first_spelled : List Keyword → List ℕ → Option Keyword
first_spelled [] word = None
first_spelled (k ∷ ks) word = if str_eq_ignore_ascii_case (spelling_of k) word then Some k else first_spelled ks word

-- the keyword that a word is; none where it is no keyword's spelling
unfoldable pub keyword_of : List ℕ → Option Keyword
keyword_of word = first_spelled every_keyword word

-- a word is a keyword exactly where it is that one's spelling, letter case aside
abbrev pub AreSpelled : Type 0
AreSpelled =
    (k : Keyword) (word : List ℕ) →
    IsTrue (str_eq_ignore_ascii_case (spelling_of k) word) ↔ (keyword_of word ≡ Some k)
