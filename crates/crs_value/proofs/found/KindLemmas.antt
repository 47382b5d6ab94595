-- The kind of a CRS, from its class and the type of its system.
use Rattle.std.proofs.Common.{◌≡◌, List, [], ◌∷◌, ap, subst}
use Rattle.crs_text.specs.inner.Prelude.{Item, arguments}
use Rattle.crs_shape.specs.declared.class.Class.{Class}
use Rattle.crs_shape.specs.declared.class.Class.TheVariants as class
use Rattle.crs_shape.specs.declared.system_type.SystemType.{SystemType}
use Rattle.crs_value.specs.declared.values.crs.Crs.{Crs}
use Rattle.crs_value.specs.declared.values.crs.Crs.TheVariants as crs
use Rattle.crs_value.specs.Reading.{those, ReadsFirst}
use Rattle.crs_value.specs.Reads.{HasType, ReadsHead}
use Rattle.crs_value.specs.ReadsCrs.{IsGeodeticClass, ReadsCrs, kind_by, kind_of}
use Rattle.crs_value.specs.Values.{SystemParts}
use Rattle.crs_value.proofs.checked.CheckLemmas.{type-is-one}

-- the type that the first node `CS` has is that of the system
type-of-system : (heads : List Item) (found : SystemType) (system : SystemParts) → ReadsFirst HasType heads found → ReadsFirst ReadsHead heads system → found ≡ system.system_type
type-of-system [] found system has reads = absurd has
type-of-system (cs ∷ heads) found system has reads = type-is-one cs found system.system_type has reads.system_type

pub geodetic-kind : (c : Class) (item : Item) (found : SystemType) → IsGeodeticClass c → ReadsFirst HasType (those c class.CoordinateSystem (arguments item)) found →
    (value : Crs) → ReadsCrs c item value → kind_by found ≡ kind_of value
geodetic-kind c item found is has (crs.Geodetic geodetic) reads =
    ap kind_by (type-of-system (those c class.CoordinateSystem (arguments item)) found geodetic.system has reads.1.system.head)
geodetic-kind c item found is has other reads = absurd (subst IsGeodeticClass reads.0 is)
