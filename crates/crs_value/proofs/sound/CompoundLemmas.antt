-- What a sound compound CRS says is sound, and so what any sound text says.
use Rattle.std.proofs.Common.{◌≡◌, inl, inr, List, [], ◌∷◌, refl}
use Rattle.crs_text.specs.inner.Prelude.{Item, arguments, RefusedAt, AreFormed}
use Rattle.crs_shape.specs.declared.class.Class.{Class}
use Rattle.crs_shape.specs.declared.class.Class.TheVariants as class
use Rattle.crs_shape.specs.declared.system_type.SystemType.TheVariants as types
use Rattle.crs_value.specs.declared.values.compound.Horizontal.{Horizontal}
use Rattle.crs_value.specs.declared.values.compound.Horizontal.TheVariants as horizontal
use Rattle.crs_value.specs.declared.values.crs.Crs.{Crs}
use Rattle.crs_value.specs.declared.values.crs.Crs.TheVariants as crs
use Rattle.crs_value.specs.Checks.{IsNotEllipsoidal, IsNotPlane, IsNotHorizontal, BadComponent, BadComponents, at, AnyOf, FirstIs, horizontal_classes, Own}
use Rattle.crs_value.specs.inner.ReadOnce.{IsSound}
use Rattle.crs_value.specs.Reading.{Each, those, ReadsFirst}
use Rattle.crs_value.specs.Reads.{ReadsHead}
use Rattle.crs_value.specs.ReadsCrs.{IsGeodeticClass, ReadsVertical, ReadsProjected, ReadsAsHorizontal, ReadsCompound, ReadsCrs}
use Rattle.crs_value.specs.SoundCompound.{IsPlane, IsHorizontal, IsCompound}
use Rattle.crs_value.specs.SoundCrs.{IsCrs}
use Rattle.crs_value.specs.SoundSingle.{IsProjected, IsVertical}
use Rattle.crs_value.specs.Spells.{SpellsCrs}
use Rattle.crs_value.specs.Values.{SystemParts}
use Rattle.crs_value.proofs.found.ArgumentLemmas.{SlotsBound, SlotsCount, arguments-sound}
use Rattle.crs_value.proofs.some.DecisionLemmas.{stable, decided-same, whether-ellipsoidal}
use Rattle.crs_value.proofs.sound.CrsLemmas.{geodetic-tells, projected-tells, vertical-tells, tail-tells}
use Rattle.crs_value.proofs.sound.KnownWordLemmas.{own-free}
use Rattle.crs_value.proofs.sound.PartLemmas.{Tells, tells-as, each-free, first-of, else-of, first-tells, text-of-tells}
use Rattle.crs_value.proofs.one.RootLemmas.{NoFaultIsShape, root-shaped}

-- ---- the horizontal part's system

not-plane : (d : Class) (cs : Item) → IsNotPlane cs → IsNotHorizontal d cs
not-plane class.GeodeticCrs cs bad = inr bad
not-plane class.GeographicCrs cs bad = inr bad
not-plane other cs bad = bad

not-ellipsoidal : (d : Class) (cs : Item) → IsGeodeticClass d → IsNotEllipsoidal cs → IsNotHorizontal d cs
not-ellipsoidal class.GeodeticCrs cs is bad = inl bad
not-ellipsoidal class.GeographicCrs cs is bad = inl bad
not-ellipsoidal other cs is bad = absurd is

plane : (d : Class) (systems : List Item) (system : SystemParts) → ¬ (FirstIs (IsNotHorizontal d) systems) → ReadsFirst ReadsHead systems system → IsPlane system
plane d [] system free reads = absurd reads
plane d (cs ∷ more) system free reads = stable (decided-same _ _) (λ never. free (not-plane d cs (system.dimension, (reads.dimension, never))))

ellipsoidal : (d : Class) → IsGeodeticClass d → (systems : List Item) (system : SystemParts) → ¬ (FirstIs (IsNotHorizontal d) systems) → ReadsFirst ReadsHead systems system →
    system.system_type ≡ types.Ellipsoidal
ellipsoidal d is [] system free reads = absurd reads
ellipsoidal d is (cs ∷ more) system free reads =
    stable (whether-ellipsoidal system.system_type) (λ never. free (not-ellipsoidal d cs is (system.system_type, (reads.system_type, never))))

each-both : (P Q : Item → Type 0) (items : List Item) → Each P items → Each Q items → Each (λ item. P item × Q item) items
each-both P Q [] h k = tt
each-both P Q (item ∷ items) h k = ((h.0, k.0), each-both P Q items h.1 k.1)

module _ (law : SlotsCount) (bound : SlotsBound) where
  -- ---- the horizontal part

  -- a sound part of this class that breaks no check of the compound's
  abbrev IsPart : Class → Item → Type 0
  IsPart d part = IsSound d part × ((fault : RefusedAt) → ¬ (BadComponent d part fault))

  part-tells : (d : Class) (part : Item) (value : Horizontal) → IsPart d part → ReadsAsHorizontal d part value → IsHorizontal value
  part-tells d part (horizontal.Geodetic value) is reads =
      let systems = those d class.CoordinateSystem (arguments part) in
      let free : ¬ (FirstIs (IsNotHorizontal d) systems) = λ bad. is.1 (at 24 part) (refl, bad) in (
        geodetic-tells law bound d reads.0 part value is.0 reads.1,
        ellipsoidal d reads.0 systems value.system free reads.1.system.head,
        plane d systems value.system free reads.1.system.head,
      )
  part-tells d part (horizontal.Projected value) is reads = (
    tells-as ReadsProjected IsProjected d class.ProjectedCrs reads.0 (projected-tells law bound) part value is.0 reads.1,
    plane d (those d class.CoordinateSystem (arguments part)) value.system (λ bad. is.1 (at 24 part) (refl, bad)) reads.1.system.head,
  )

  -- ---- compound CRSs

  pub compound-tells : Tells class.CompoundCrs (ReadsCompound class.CompoundCrs) IsCompound
  unfolding Own
  compound-tells item value sound reads =
      let parts : Class → List Item = λ d. those class.CompoundCrs d (arguments item) in
      let free : (fault : RefusedAt) → ¬ (BadComponents horizontal_classes (arguments item) fault) = λ fault bad. own-free class.CompoundCrs item fault sound (inr bad) in
      let each : (d : Class) → ((fault : RefusedAt) → ¬ (AnyOf (BadComponent d) (parts d) fault)) → Each (IsPart d) (parts d)
      = λ d free. each-both (IsSound d) (λ part. (fault : RefusedAt) → ¬ (BadComponent d part fault)) (parts d) (arguments-sound class.CompoundCrs d item sound)
      (each-free (BadComponent d) (parts d) free) in
      record {
        name = text-of-tells class.CompoundCrs item value.name sound reads.name;
        horizontal =
            else-of (ReadsAsHorizontal class.GeodeticCrs) (IsPart class.GeodeticCrs) IsHorizontal (part-tells class.GeodeticCrs) _ (parts class.GeodeticCrs) value.horizontal
            (else-of (ReadsAsHorizontal class.GeographicCrs) (IsPart class.GeographicCrs) IsHorizontal (part-tells class.GeographicCrs) _ (parts class.GeographicCrs) value.horizontal
            (first-of (ReadsAsHorizontal class.ProjectedCrs) (IsPart class.ProjectedCrs) IsHorizontal (part-tells class.ProjectedCrs) (parts class.ProjectedCrs) value.horizontal
            (each class.ProjectedCrs (λ fault bad. free fault (inr (inr (inl bad))))))
            (each class.GeographicCrs (λ fault bad. free fault (inr (inl bad)))))
            (each class.GeodeticCrs (λ fault bad. free fault (inl bad))) reads.horizontal;
        vertical = first-tells (ReadsVertical class.VerticalCrs) IsVertical class.CompoundCrs class.VerticalCrs (vertical-tells law bound) item value.vertical sound reads.vertical;
        tail = tail-tells bound class.CompoundCrs item value.tail sound reads.tail;
      }

  -- ---- whole texts

  crs-tells : (c : Class) → Tells c (ReadsCrs c) IsCrs
  crs-tells c item (crs.Geodetic value) sound reads = geodetic-tells law bound c reads.0 item value sound reads.1
  crs-tells c item (crs.Projected value) sound reads = tells-as ReadsProjected IsProjected c class.ProjectedCrs reads.0 (projected-tells law bound) item value sound reads.1
  crs-tells c item (crs.Vertical value) sound reads = tells-as ReadsVertical IsVertical c class.VerticalCrs reads.0 (vertical-tells law bound) item value sound reads.1
  crs-tells c item (crs.Compound value) sound reads = tells-as ReadsCompound IsCompound c class.CompoundCrs reads.0 compound-tells item value sound reads.1

  pub spelled-sound : NoFaultIsShape → (item : Item) (value : Crs) → AreFormed item → SpellsCrs item value → IsCrs value
  spelled-sound shape item value formed spells =
      crs-tells spells.class_read item value
      (record { formed = formed; shaped = root-shaped shape item item spells.class_read refl spells.root spells.shaped; unbroken = spells.unbroken }) spells.reads
