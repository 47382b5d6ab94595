-- Texts that are normal, and texts that differ from one of these in one point each and aren't.
use Rattle.std.specs.Prelude.{◌≡◌, ℕ, List, ◌++◌, codes}
use Rattle.crs_text.specs.Items.{Item}
use Rattle.crs_text.specs.TextFault.{SpellsNode}
use Rattle.crs_text.specs.Written.{item_text}
use Rattle.crs_value.specs.Spells.{Spells}
use Rattle.crs_value.specs.declared.values.crs.Crs.{Crs}
use Rattle.crs_value.specs.declared.values.level.Level.{Level}
use Rattle.crs_value.specs.declared.values.level.Level.TheVariants as levels
use Rattle.crs_normal.specs.Normal.{IsNormalText}

-- the text is normal where everything counts
abbrev pub IsNormalAtFull : List ℕ → Type 0
IsNormalAtFull text = IsNormalText levels.Full text

-- the text is normal by definition
abbrev pub IsNormalByDefinition : List ℕ → Type 0
IsNormalByDefinition text = IsNormalText levels.Definition text

-- the text is a node without white space and in square delimiters, and isn't normal at the level
pub record IsOtherwiseAt (level : Level) (text : List ℕ) : Type 0 where
  pub item : Item
  pub spells : SpellsNode text item
  pub written : text ≡ item_text item
  pub otherwise : ¬ (IsNormalText level text)

-- it isn't normal where everything counts
abbrev pub IsWrittenOtherwise : List ℕ → Type 0
IsWrittenOtherwise text = IsOtherwiseAt levels.Full text

-- the text is normal where everything counts, and has what the definition leaves out
abbrev pub SaysMore : List ℕ → Type 0
SaysMore text = IsNormalAtFull text × IsOtherwiseAt levels.Definition text

-- ---- normal texts

-- a height
abbrev pub height : List ℕ
height =
    codes "VERTCRS[\"H\",VDATUM[\"D\"],CS[vertical,1],"
    ++ codes "AXIS[\"h\",up,ORDER[1],LENGTHUNIT[\"metre\",1]]]"

-- latitude and longitude on a sphere
abbrev pub geographic : List ℕ
geographic =
    codes "GEOGCRS[\"A\",DATUM[\"D\",ELLIPSOID[\"E\",6378137,0,LENGTHUNIT[\"metre\",1]]],"
    ++ codes "PRIMEM[\"Greenwich\",0],CS[ellipsoidal,2],"
    ++ codes "AXIS[\"lat\",north,ORDER[1],ANGLEUNIT[\"degree\",0.0174532925199433]],"
    ++ codes "AXIS[\"lon\",east,ORDER[2],ANGLEUNIT[\"degree\",0.0174532925199433]]]"

-- WGS 84 with its ensemble
abbrev pub wgs_84 : List ℕ
wgs_84 =
    codes "GEOGCRS[\"WGS 84\",ENSEMBLE[\"World Geodetic System 1984 ensemble\","
    ++ codes "MEMBER[\"World Geodetic System 1984 (G1150)\"],"
    ++ codes "MEMBER[\"World Geodetic System 1984 (G1674)\"],"
    ++ codes "MEMBER[\"World Geodetic System 1984 (G1762)\"],"
    ++ codes "MEMBER[\"World Geodetic System 1984 (G2139)\"],"
    ++ codes "MEMBER[\"World Geodetic System 1984 (G730)\"],"
    ++ codes "MEMBER[\"World Geodetic System 1984 (G873)\"],"
    ++ codes "MEMBER[\"World Geodetic System 1984 (Transit)\"],"
    ++ codes "ELLIPSOID[\"WGS 84\",6378137,298.257223563,LENGTHUNIT[\"metre\",1]],"
    ++ codes "ENSEMBLEACCURACY[2]],"
    ++ codes "PRIMEM[\"Greenwich\",0],CS[ellipsoidal,2],"
    ++ codes "AXIS[\"Geodetic latitude (Lat)\",north,"
    ++ codes "ORDER[1],ANGLEUNIT[\"degree\",0.0174532925199433]],"
    ++ codes "AXIS[\"Geodetic longitude (Lon)\",east,"
    ++ codes "ORDER[2],ANGLEUNIT[\"degree\",0.0174532925199433]],"
    ++ codes "USAGE[SCOPE[\"Horizontal component of 3D system.\"],AREA[\"World.\"],"
    ++ codes "BBOX[-90,-180,90,180]],ID[\"EPSG\",4326]]"

-- a zone of UTM
abbrev pub utm_zone : List ℕ
utm_zone =
    codes "PROJCRS[\"ETRS89 / UTM zone 32N\",BASEGEOGCRS[\"ETRS89\","
    ++ codes "DATUM[\"European Terrestrial Reference System 1989\","
    ++ codes "ELLIPSOID[\"GRS 1980\",6378137,298.257222101,LENGTHUNIT[\"metre\",1]]],"
    ++ codes "PRIMEM[\"Greenwich\",0],ID[\"EPSG\",4258]],"
    ++ codes "CONVERSION[\"UTM zone 32N\",METHOD[\"Transverse Mercator\",ID[\"EPSG\",9807]],"
    ++ codes "PARAMETER[\"False easting\",500000,LENGTHUNIT[\"metre\",1]],"
    ++ codes "PARAMETER[\"False northing\",0,LENGTHUNIT[\"metre\",1]],"
    ++ codes "PARAMETER[\"Latitude of natural origin\",0,ANGLEUNIT[\"degree\",0.0174532925199433]],"
    ++ codes "PARAMETER[\"Longitude of natural origin\",9,"
    ++ codes "ANGLEUNIT[\"degree\",0.0174532925199433]],"
    ++ codes "PARAMETER[\"Scale factor at natural origin\",0.9996,SCALEUNIT[\"unity\",1]]],"
    ++ codes "CS[Cartesian,2],AXIS[\"Easting (E)\",east,ORDER[1],LENGTHUNIT[\"metre\",1]],"
    ++ codes "AXIS[\"Northing (N)\",north,ORDER[2],LENGTHUNIT[\"metre\",1]],ID[\"EPSG\",25832]]"

-- latitude and longitude with a height
abbrev pub with_height : List ℕ
with_height =
    codes "COMPOUNDCRS[\"ETRS89 + DHHN2016 height\",GEOGCRS[\"ETRS89\","
    ++ codes "DATUM[\"European Terrestrial Reference System 1989\","
    ++ codes "ELLIPSOID[\"GRS 1980\",6378137,298.257222101,LENGTHUNIT[\"metre\",1]]],"
    ++ codes "PRIMEM[\"Greenwich\",0],CS[ellipsoidal,2],"
    ++ codes "AXIS[\"Geodetic latitude (Lat)\",north,"
    ++ codes "ORDER[1],ANGLEUNIT[\"degree\",0.0174532925199433]],"
    ++ codes "AXIS[\"Geodetic longitude (Lon)\",east,"
    ++ codes "ORDER[2],ANGLEUNIT[\"degree\",0.0174532925199433]]],"
    ++ codes "VERTCRS[\"DHHN2016 height\",VDATUM[\"Deutsches Haupthoehennetz 2016\"],"
    ++ codes "CS[vertical,1],"
    ++ codes "AXIS[\"Gravity-related height (H)\",up,ORDER[1],LENGTHUNIT[\"metre\",1]]],"
    ++ codes "REMARK[\"Heights are normal heights.\"]]"

-- a height in a dynamic reference frame, whose anchor has an epoch
abbrev pub dynamic_height : List ℕ
dynamic_height =
    codes "VERTCRS[\"H\",DYNAMIC[FRAMEEPOCH[2010],MODEL[\"g\"]],"
    ++ codes "VDATUM[\"D\",ANCHOR[\"a\"],ANCHOREPOCH[1989.5]],CS[vertical,1],"
    ++ codes "AXIS[\"h\",up,ORDER[1],LENGTHUNIT[\"metre\",1]]]"

-- latitude and longitude in a dynamic reference frame, whose deformation model has an identifier
abbrev pub dynamic_geographic : List ℕ
dynamic_geographic =
    codes "GEOGCRS[\"A\",DYNAMIC[FRAMEEPOCH[2010],MODEL[\"g\",ID[\"X\",1]]],"
    ++ codes "DATUM[\"D\",ELLIPSOID[\"E\",6378137,0,LENGTHUNIT[\"metre\",1]],"
    ++ codes "ANCHOR[\"a\"],ANCHOREPOCH[1989.5]],PRIMEM[\"Greenwich\",0],CS[ellipsoidal,2],"
    ++ codes "AXIS[\"lat\",north,ORDER[1],ANGLEUNIT[\"degree\",0.0174532925199433]],"
    ++ codes "AXIS[\"lon\",east,ORDER[2],ANGLEUNIT[\"degree\",0.0174532925199433]]]"

-- these are normal
abbrev pub AreNormal : Type 0
AreNormal =
    IsNormalAtFull height
    × IsNormalAtFull geographic
    × IsNormalAtFull wgs_84
    × IsNormalAtFull utm_zone
    × IsNormalAtFull with_height
    × IsNormalAtFull dynamic_height
    × IsNormalAtFull dynamic_geographic

-- a vertical CRS with its name alone
abbrev pub name_alone : List ℕ
name_alone = codes "VERTCRS[\"H\"]"

-- it is normal, and spells no CRS: acceptance is another condition
abbrev pub NameAloneIsNormal : Type 0
NameAloneIsNormal = IsNormalAtFull name_alone × ((crs : Crs) → ¬ (Spells name_alone crs))

-- ---- by definition

-- WGS 84 without identifiers and usage
abbrev pub wgs_84_alone : List ℕ
wgs_84_alone =
    codes "GEOGCRS[\"WGS 84\",ENSEMBLE[\"World Geodetic System 1984 ensemble\","
    ++ codes "MEMBER[\"World Geodetic System 1984 (G1150)\"],"
    ++ codes "MEMBER[\"World Geodetic System 1984 (G1674)\"],"
    ++ codes "MEMBER[\"World Geodetic System 1984 (G1762)\"],"
    ++ codes "MEMBER[\"World Geodetic System 1984 (G2139)\"],"
    ++ codes "MEMBER[\"World Geodetic System 1984 (G730)\"],"
    ++ codes "MEMBER[\"World Geodetic System 1984 (G873)\"],"
    ++ codes "MEMBER[\"World Geodetic System 1984 (Transit)\"],"
    ++ codes "ELLIPSOID[\"WGS 84\",6378137,298.257223563,LENGTHUNIT[\"metre\",1]],"
    ++ codes "ENSEMBLEACCURACY[2]],"
    ++ codes "PRIMEM[\"Greenwich\",0],CS[ellipsoidal,2],"
    ++ codes "AXIS[\"Geodetic latitude (Lat)\",north,"
    ++ codes "ORDER[1],ANGLEUNIT[\"degree\",0.0174532925199433]],"
    ++ codes "AXIS[\"Geodetic longitude (Lon)\",east,"
    ++ codes "ORDER[2],ANGLEUNIT[\"degree\",0.0174532925199433]]]"

-- these are normal by definition
abbrev pub AreNormalByDefinition : Type 0
AreNormalByDefinition =
    IsNormalByDefinition height
    × IsNormalByDefinition geographic
    × IsNormalByDefinition wgs_84_alone
    × IsNormalByDefinition dynamic_height

-- an identifier of a unit
abbrev pub unit_with_identifier : List ℕ
unit_with_identifier =
    codes "VERTCRS[\"H\",VDATUM[\"D\"],CS[vertical,1],"
    ++ codes "AXIS[\"h\",up,ORDER[1],LENGTHUNIT[\"metre\",1,ID[\"EPSG\",9001]]]]"

-- an identifier at the end
abbrev pub with_identifier : List ℕ
with_identifier =
    codes "VERTCRS[\"H\",VDATUM[\"D\"],CS[vertical,1],"
    ++ codes "AXIS[\"h\",up,ORDER[1],LENGTHUNIT[\"metre\",1]],ID[\"A\",1]]"

-- a usage
abbrev pub with_usage : List ℕ
with_usage =
    codes "VERTCRS[\"H\",VDATUM[\"D\"],CS[vertical,1],"
    ++ codes "AXIS[\"h\",up,ORDER[1],LENGTHUNIT[\"metre\",1]],USAGE[SCOPE[\"s\"]]]"

-- a remark
abbrev pub with_remark : List ℕ
with_remark =
    codes "VERTCRS[\"H\",VDATUM[\"D\"],CS[vertical,1],"
    ++ codes "AXIS[\"h\",up,ORDER[1],LENGTHUNIT[\"metre\",1]],REMARK[\"r\"]]"

-- these are normal where everything counts, and not by definition: what is at the end, and identifiers anywhere
abbrev pub AreNormalAtFullAlone : Type 0
AreNormalAtFullAlone =
    SaysMore unit_with_identifier
    × SaysMore with_identifier
    × SaysMore with_usage
    × SaysMore with_remark
    × SaysMore dynamic_geographic

-- ---- texts that differ from the height above in one point each

-- the second keyword of a vertical CRS
abbrev pub second_keyword : List ℕ
second_keyword =
    codes "VERTICALCRS[\"H\",VDATUM[\"D\"],CS[vertical,1],"
    ++ codes "AXIS[\"h\",up,ORDER[1],LENGTHUNIT[\"metre\",1]]]"

-- an axis without its order
abbrev pub no_order : List ℕ
no_order =
    codes "VERTCRS[\"H\",VDATUM[\"D\"],CS[vertical,1],"
    ++ codes "AXIS[\"h\",up,LENGTHUNIT[\"metre\",1]]]"

-- the keyword of a unit that doesn't say its kind
abbrev pub unit_of_no_kind : List ℕ
unit_of_no_kind =
    codes "VERTCRS[\"H\",VDATUM[\"D\"],CS[vertical,1],"
    ++ codes "AXIS[\"h\",up,ORDER[1],UNIT[\"metre\",1]]]"

-- a unit after the axes
abbrev pub shared_unit : List ℕ
shared_unit =
    codes "VERTCRS[\"H\",VDATUM[\"D\"],CS[vertical,1],"
    ++ codes "AXIS[\"h\",up,ORDER[1]],LENGTHUNIT[\"metre\",1]]"

-- a factor that isn't plain
abbrev pub factor_with_zero : List ℕ
factor_with_zero =
    codes "VERTCRS[\"H\",VDATUM[\"D\"],CS[vertical,1],"
    ++ codes "AXIS[\"h\",up,ORDER[1],LENGTHUNIT[\"metre\",1.0]]]"

-- a direction in capitals
abbrev pub capital_direction : List ℕ
capital_direction =
    codes "VERTCRS[\"H\",VDATUM[\"D\"],CS[vertical,1],"
    ++ codes "AXIS[\"h\",UP,ORDER[1],LENGTHUNIT[\"metre\",1]]]"

-- a short code in quotes
abbrev pub quoted_code : List ℕ
quoted_code =
    codes "VERTCRS[\"H\",VDATUM[\"D\"],CS[vertical,1],"
    ++ codes "AXIS[\"h\",up,ORDER[1],LENGTHUNIT[\"metre\",1]],ID[\"A\",\"1\"]]"

-- 19 digits without quotes as a code
abbrev pub long_code : List ℕ
long_code =
    codes "VERTCRS[\"H\",VDATUM[\"D\"],CS[vertical,1],"
    ++ codes "AXIS[\"h\",up,ORDER[1],LENGTHUNIT[\"metre\",1]],ID[\"A\",1234567890123456789]]"

-- two identifiers in the wrong order
abbrev pub identifiers_fall : List ℕ
identifiers_fall =
    codes "VERTCRS[\"H\",VDATUM[\"D\"],CS[vertical,1],"
    ++ codes "AXIS[\"h\",up,ORDER[1],LENGTHUNIT[\"metre\",1]],ID[\"A\",2],ID[\"A\",1]]"

-- one identifier twice
abbrev pub identifier_twice : List ℕ
identifier_twice =
    codes "VERTCRS[\"H\",VDATUM[\"D\"],CS[vertical,1],"
    ++ codes "AXIS[\"h\",up,ORDER[1],LENGTHUNIT[\"metre\",1]],ID[\"A\",1],ID[\"A\",1]]"

-- a part of a usage outside of one
abbrev pub bare_scope : List ℕ
bare_scope =
    codes "VERTCRS[\"H\",VDATUM[\"D\"],CS[vertical,1],"
    ++ codes "AXIS[\"h\",up,ORDER[1],LENGTHUNIT[\"metre\",1]],SCOPE[\"s\"]]"

-- two usages in the wrong order
abbrev pub usages_fall : List ℕ
usages_fall =
    codes "VERTCRS[\"H\",VDATUM[\"D\"],CS[vertical,1],"
    ++ codes "AXIS[\"h\",up,ORDER[1],LENGTHUNIT[\"metre\",1]],"
    ++ codes "USAGE[SCOPE[\"t\"]],USAGE[SCOPE[\"s\"]]]"

-- one usage twice
abbrev pub usage_twice : List ℕ
usage_twice =
    codes "VERTCRS[\"H\",VDATUM[\"D\"],CS[vertical,1],"
    ++ codes "AXIS[\"h\",up,ORDER[1],LENGTHUNIT[\"metre\",1]],"
    ++ codes "USAGE[SCOPE[\"s\"]],USAGE[SCOPE[\"s\"]]]"

-- a remark before an identifier
abbrev pub remark_first : List ℕ
remark_first =
    codes "VERTCRS[\"H\",VDATUM[\"D\"],CS[vertical,1],"
    ++ codes "AXIS[\"h\",up,ORDER[1],LENGTHUNIT[\"metre\",1]],REMARK[\"r\"],ID[\"A\",1]]"

-- each of these spells a node, and none is normal
abbrev pub HeightsWrittenOtherwise : Type 0
HeightsWrittenOtherwise =
    IsWrittenOtherwise second_keyword
    × IsWrittenOtherwise no_order
    × IsWrittenOtherwise unit_of_no_kind
    × IsWrittenOtherwise shared_unit
    × IsWrittenOtherwise factor_with_zero
    × IsWrittenOtherwise capital_direction
    × IsWrittenOtherwise quoted_code
    × IsWrittenOtherwise long_code
    × IsWrittenOtherwise identifiers_fall
    × IsWrittenOtherwise identifier_twice
    × IsWrittenOtherwise bare_scope
    × IsWrittenOtherwise usages_fall
    × IsWrittenOtherwise usage_twice
    × IsWrittenOtherwise remark_first

-- ---- texts that differ from the geographic CRS above in one point each

-- a prime meridian at longitude 0 with a unit
abbrev pub meridian_with_unit : List ℕ
meridian_with_unit =
    codes "GEOGCRS[\"A\",DATUM[\"D\",ELLIPSOID[\"E\",6378137,0,LENGTHUNIT[\"metre\",1]]],"
    ++ codes "PRIMEM[\"Greenwich\",0,ANGLEUNIT[\"degree\",0.0174532925199433]],CS[ellipsoidal,2],"
    ++ codes "AXIS[\"lat\",north,ORDER[1],ANGLEUNIT[\"degree\",0.0174532925199433]],"
    ++ codes "AXIS[\"lon\",east,ORDER[2],ANGLEUNIT[\"degree\",0.0174532925199433]]]"

-- no prime meridian
abbrev pub no_meridian : List ℕ
no_meridian =
    codes "GEOGCRS[\"A\",DATUM[\"D\",ELLIPSOID[\"E\",6378137,0,LENGTHUNIT[\"metre\",1]]],"
    ++ codes "CS[ellipsoidal,2],"
    ++ codes "AXIS[\"lat\",north,ORDER[1],ANGLEUNIT[\"degree\",0.0174532925199433]],"
    ++ codes "AXIS[\"lon\",east,ORDER[2],ANGLEUNIT[\"degree\",0.0174532925199433]]]"

-- the keyword of a geodetic CRS for a geographic one
abbrev pub geodetic_for_geographic : List ℕ
geodetic_for_geographic =
    codes "GEODCRS[\"A\",DATUM[\"D\",ELLIPSOID[\"E\",6378137,0,LENGTHUNIT[\"metre\",1]]],"
    ++ codes "PRIMEM[\"Greenwich\",0],CS[ellipsoidal,2],"
    ++ codes "AXIS[\"lat\",north,ORDER[1],ANGLEUNIT[\"degree\",0.0174532925199433]],"
    ++ codes "AXIS[\"lon\",east,ORDER[2],ANGLEUNIT[\"degree\",0.0174532925199433]]]"

-- an ellipsoid without its unit
abbrev pub no_unit_of_ellipsoid : List ℕ
no_unit_of_ellipsoid =
    codes "GEOGCRS[\"A\",DATUM[\"D\",ELLIPSOID[\"E\",6378137,0]],"
    ++ codes "PRIMEM[\"Greenwich\",0],CS[ellipsoidal,2],"
    ++ codes "AXIS[\"lat\",north,ORDER[1],ANGLEUNIT[\"degree\",0.0174532925199433]],"
    ++ codes "AXIS[\"lon\",east,ORDER[2],ANGLEUNIT[\"degree\",0.0174532925199433]]]"

-- the second axis before the first
abbrev pub orders_fall : List ℕ
orders_fall =
    codes "GEOGCRS[\"A\",DATUM[\"D\",ELLIPSOID[\"E\",6378137,0,LENGTHUNIT[\"metre\",1]]],"
    ++ codes "PRIMEM[\"Greenwich\",0],CS[ellipsoidal,2],"
    ++ codes "AXIS[\"lon\",east,ORDER[2],ANGLEUNIT[\"degree\",0.0174532925199433]],"
    ++ codes "AXIS[\"lat\",north,ORDER[1],ANGLEUNIT[\"degree\",0.0174532925199433]]]"

-- each of these spells a node, and none is normal
abbrev pub GeographicsWrittenOtherwise : Type 0
GeographicsWrittenOtherwise =
    IsWrittenOtherwise meridian_with_unit
    × IsWrittenOtherwise no_meridian
    × IsWrittenOtherwise geodetic_for_geographic
    × IsWrittenOtherwise no_unit_of_ellipsoid
    × IsWrittenOtherwise orders_fall

-- ---- texts that differ from the height in a dynamic reference frame above in one point each

-- the second keyword of a deformation model
abbrev pub velocity_grid : List ℕ
velocity_grid =
    codes "VERTCRS[\"H\",DYNAMIC[FRAMEEPOCH[2010],VELOCITYGRID[\"g\"]],"
    ++ codes "VDATUM[\"D\",ANCHOR[\"a\"],ANCHOREPOCH[1989.5]],CS[vertical,1],"
    ++ codes "AXIS[\"h\",up,ORDER[1],LENGTHUNIT[\"metre\",1]]]"

-- an epoch of the frame that isn't plain
abbrev pub frame_epoch_with_fraction : List ℕ
frame_epoch_with_fraction =
    codes "VERTCRS[\"H\",DYNAMIC[FRAMEEPOCH[1.0],MODEL[\"g\"]],"
    ++ codes "VDATUM[\"D\",ANCHOR[\"a\"],ANCHOREPOCH[1989.5]],CS[vertical,1],"
    ++ codes "AXIS[\"h\",up,ORDER[1],LENGTHUNIT[\"metre\",1]]]"

-- an epoch of the anchor that isn't plain
abbrev pub anchor_epoch_with_fraction : List ℕ
anchor_epoch_with_fraction =
    codes "VERTCRS[\"H\",DYNAMIC[FRAMEEPOCH[2010],MODEL[\"g\"]],"
    ++ codes "VDATUM[\"D\",ANCHOR[\"a\"],ANCHOREPOCH[1.0]],CS[vertical,1],"
    ++ codes "AXIS[\"h\",up,ORDER[1],LENGTHUNIT[\"metre\",1]]]"

-- the epoch of the anchor before the anchor
abbrev pub anchor_epoch_first : List ℕ
anchor_epoch_first =
    codes "VERTCRS[\"H\",DYNAMIC[FRAMEEPOCH[2010],MODEL[\"g\"]],"
    ++ codes "VDATUM[\"D\",ANCHOREPOCH[1989.5],ANCHOR[\"a\"]],CS[vertical,1],"
    ++ codes "AXIS[\"h\",up,ORDER[1],LENGTHUNIT[\"metre\",1]]]"

-- each of these spells a node, and none is normal
abbrev pub DynamicsWrittenOtherwise : Type 0
DynamicsWrittenOtherwise =
    IsWrittenOtherwise velocity_grid
    × IsWrittenOtherwise frame_epoch_with_fraction
    × IsWrittenOtherwise anchor_epoch_with_fraction
    × IsWrittenOtherwise anchor_epoch_first
