-- The checks of a node's own, by its class.
use Rattle.std.proofs.Common.{◌≡◌, inl, inr, ◌⊎◌, Option, sym, subst}
use Rattle.crs_text.specs.inner.Prelude.{Item, arguments, RefusedAt}
use Rattle.crs_shape.specs.declared.class.Class.{Class}
use Rattle.crs_shape.specs.declared.class.Class.TheVariants as class
use Rattle.crs_shape.specs.inner.Prelude.{dimensions_of}
use Rattle.crs_value.specs.Checks.{BadDynamic, RepeatsAny, UnknownType, UnknownDirection, AnyOf, IsLeast, anchors, OfCrs, OfCompound, OfUnit, Own, BreaksAmong}
use Rattle.crs_value.specs.inner.ReadOnce.{HasSystem}
use Rattle.crs_value.proofs.checked.LeastLemmas.{least-beside}
use Rattle.crs_value.specs.Reading.{those}

-- a CRS with a coordinate system breaks by itself what such a CRS breaks
pub own-of-crs : (c : Class) (item : Item) (fault : RefusedAt) → HasSystem c → OfCrs (dimensions_of c) c item fault → Own c item fault
unfolding Own
own-of-crs class.GeodeticCrs item fault is h = h
own-of-crs class.GeographicCrs item fault is h = h
own-of-crs class.ProjectedCrs item fault is h = h
own-of-crs class.VerticalCrs item fault is h = h
own-of-crs other item fault is h = absurd is

pub crs-of-own : (c : Class) (item : Item) (fault : RefusedAt) → HasSystem c → Own c item fault → OfCrs (dimensions_of c) c item fault
unfolding Own
crs-of-own class.GeodeticCrs item fault is h = h
crs-of-own class.GeographicCrs item fault is h = h
crs-of-own class.ProjectedCrs item fault is h = h
crs-of-own class.VerticalCrs item fault is h = h
crs-of-own other item fault is h = absurd is

pub own-crs : (c : Class) (item : Item) (o : Option RefusedAt) → HasSystem c → IsLeast (λ f. BreaksAmong c (arguments item) f ⊎ OfCrs (dimensions_of c) c item f) o →
    IsLeast (λ f. BreaksAmong c (arguments item) f ⊎ Own c item f) o
own-crs c item o is h =
    least-beside (BreaksAmong c (arguments item)) (OfCrs (dimensions_of c) c item) (Own c item) o (λ f k. own-of-crs c item f is k) (λ f k. crs-of-own c item f is k) h

-- what such a class breaks by itself, the same class by another name does
own-as : (Broken : Class → RefusedAt → Type 0) (c d : Class) (item : Item) (o : Option RefusedAt) → c ≡ d → (IsLeast (Broken d) o → IsLeast (Own d item) o) → IsLeast (Broken c) o →
    IsLeast (Own c item) o
own-as Broken c d item o e to = let P : Class → Type 0 = λ x. IsLeast (Broken x) o → IsLeast (Own x item) o in subst P (sym e) to

pub own-compound : (c : Class) (item : Item) (o : Option RefusedAt) → c ≡ class.CompoundCrs → IsLeast (OfCompound (arguments item)) o → IsLeast (Own c item) o
unfolding Own
own-compound c item o e h = own-as (λ x. OfCompound (arguments item)) c class.CompoundCrs item o e (λ k. k) h

pub own-unit : (c : Class) (item : Item) (o : Option RefusedAt) → IsLeast (OfUnit c item) o →
    (c ≡ class.LengthUnit) ⊎ ((c ≡ class.AngleUnit) ⊎ ((c ≡ class.ScaleUnit) ⊎ ((c ≡ class.PlainUnit) ⊎ (c ≡ class.AxisUnit)))) → IsLeast (Own c item) o
unfolding Own
own-unit c item o h (inl e) = own-as (λ x. OfUnit x item) c class.LengthUnit item o e (λ k. k) h
own-unit c item o h (inr (inl e)) = own-as (λ x. OfUnit x item) c class.AngleUnit item o e (λ k. k) h
own-unit c item o h (inr (inr (inl e))) = own-as (λ x. OfUnit x item) c class.ScaleUnit item o e (λ k. k) h
own-unit c item o h (inr (inr (inr (inl e)))) = own-as (λ x. OfUnit x item) c class.PlainUnit item o e (λ k. k) h
own-unit c item o h (inr (inr (inr (inr e)))) = own-as (λ x. OfUnit x item) c class.AxisUnit item o e (λ k. k) h

pub own-system : (c : Class) (item : Item) (o : Option RefusedAt) → c ≡ class.CoordinateSystem → IsLeast (AnyOf UnknownType (those c class.Word (arguments item))) o → IsLeast (Own c item) o
unfolding Own
own-system c item o e h = own-as (λ x. AnyOf UnknownType (those x class.Word (arguments item))) c class.CoordinateSystem item o e (λ k. k) h

pub own-axis : (c : Class) (item : Item) (o : Option RefusedAt) → c ≡ class.Axis → IsLeast (AnyOf UnknownDirection (those c class.Word (arguments item))) o → IsLeast (Own c item) o
unfolding Own
own-axis c item o e h = own-as (λ x. AnyOf UnknownDirection (those x class.Word (arguments item))) c class.Axis item o e (λ k. k) h

pub own-base : (c : Class) (item : Item) (o : Option RefusedAt) → c ≡ class.BaseCrs → IsLeast (BadDynamic c item) o → IsLeast (Own c item) o
unfolding Own
own-base c item o e h = own-as (λ x. BadDynamic x item) c class.BaseCrs item o e (λ k. k) h

pub own-frame : (c : Class) (item : Item) (o : Option RefusedAt) → (c ≡ class.GeodeticFrame) ⊎ (c ≡ class.VerticalFrame) → IsLeast (RepeatsAny c (arguments item) anchors) o → IsLeast (Own c item) o
unfolding Own
own-frame c item o (inl e) h = own-as (λ x. RepeatsAny x (arguments item) anchors) c class.GeodeticFrame item o e (λ k. k) h
own-frame c item o (inr e) h = own-as (λ x. RepeatsAny x (arguments item) anchors) c class.VerticalFrame item o e (λ k. k) h
