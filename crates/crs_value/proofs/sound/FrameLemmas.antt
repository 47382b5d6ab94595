-- What sound ellipsoids, prime meridians, reference frames and ensembles say is sound.
use Rattle.std.proofs.Common.{◌≡◌, false, inl, inr, take, drop, List, [], ◌∷◌, refl}
use Rattle.std.proofs.lemmas.Bool.{false_from_ne_true}
use Rattle.crs_decimal.specs.inner.Prelude.{Value, IsNormal}
use Rattle.crs_text.specs.inner.Prelude.{Item, arguments, RefusedAt}
use Rattle.crs_shape.specs.declared.class.Class.{Class}
use Rattle.crs_shape.specs.declared.class.Class.TheVariants as class
use Rattle.crs_shape.specs.declared.unit_kind.UnitKind.TheVariants as kinds
use Rattle.crs_value.specs.Checks.{IsAboveZero, NotAbove, IsNegative, at, AnyOf, Own}
use Rattle.crs_value.specs.Reading.{those, ReadsFirst, ReadsEach, ReadsNamed}
use Rattle.crs_value.specs.inner.Arguments.{Requires}
use Rattle.crs_value.specs.Reads.{ReadsNumber, ReadsNumberOf, ReadsUnit, ReadsEllipsoid, ReadsMeridian, ReadsDatum, ReadsEnsemble}
use Rattle.crs_value.specs.Sound.{IsNamed, IsUnitOf}
use Rattle.crs_value.specs.SoundParts.{IsEllipsoid, IsMeridian, IsDatum, IsEnsemble}
use Rattle.crs_value.proofs.found.ArgumentLemmas.{SlotsCount, not-none}
use Rattle.crs_value.proofs.some.DecisionLemmas.{decided-above, stable}
use Rattle.crs_value.proofs.sound.KnownWordLemmas.{own-free}
use Rattle.crs_value.proofs.sound.PartLemmas.{Tells, tells-as, first-tells, optional-tells, each-tells, text-of-tells, optional-text-tells, number-first, number-of-tells, identifiers-tell, named-tells, length-tells, angle-tells}

-- ---- ellipsoids

above-take : (items : List Item) (value : Value) → ((fault : RefusedAt) → AnyOf NotAbove (take 1 items) fault → ⊥) → ReadsFirst ReadsNumber (drop 0 items) value → IsAboveZero value
above-take [] value free reads = absurd reads
above-take (item ∷ items) value free reads = stable (decided-above value) (λ no. free (at 28 item) (inl (refl, (value, (reads, no)))))

below-first : (items : List Item) (value : Value) → ((fault : RefusedAt) → AnyOf IsNegative items fault → ⊥) → ReadsFirst ReadsNumber items value → value.negative ≡ false
below-first [] value free reads = absurd reads
below-first (item ∷ items) value free reads = false_from_ne_true value.negative (λ e. free (at 28 item) (inl (refl, (value, (reads, e)))))

pub ellipsoid-tells : (c : Class) → c ≡ class.Ellipsoid → Tells c (ReadsEllipsoid c) IsEllipsoid
unfolding Own
ellipsoid-tells c same = tells-as ReadsEllipsoid IsEllipsoid c class.Ellipsoid same named
  where
    named : Tells class.Ellipsoid (ReadsEllipsoid class.Ellipsoid) IsEllipsoid
    named item value sound reads =
        let numbers = those class.Ellipsoid class.Number (arguments item) in
        record {
          name = text-of-tells class.Ellipsoid item value.name sound reads.name;
          semi_major_axis = number-first (drop 0 numbers) value.semi_major_axis reads.semi_major_axis;
          above_zero = above-take numbers value.semi_major_axis (λ fault bad. own-free class.Ellipsoid item fault sound (inl bad)) reads.semi_major_axis;
          inverse_flattening = number-first (drop 1 numbers) value.inverse_flattening reads.inverse_flattening;
          not_negative = below-first (drop 1 numbers) value.inverse_flattening (λ fault bad. own-free class.Ellipsoid item fault sound (inr bad)) reads.inverse_flattening;
          unit = optional-tells (ReadsUnit class.LengthUnit) (IsUnitOf kinds.Length) class.Ellipsoid class.LengthUnit length-tells item value.unit sound reads.unit;
          identifiers = identifiers-tell class.Ellipsoid item value.identifiers sound reads.identifiers;
        }

-- ---- prime meridians and members

pub meridian-tells : (c : Class) → Tells c (ReadsMeridian c) IsMeridian
meridian-tells c item value sound reads = record {
  name = text-of-tells c item value.name sound reads.name;
  longitude = number-of-tells c item value.longitude sound reads.longitude;
  unit = optional-tells (ReadsUnit class.AngleUnit) (IsUnitOf kinds.Angle) c class.AngleUnit angle-tells item value.unit sound reads.unit;
  identifiers = identifiers-tell c item value.identifiers sound reads.identifiers;
}

-- ---- frames

pub datum-tells : (c : Class) → Tells c (ReadsDatum c) IsDatum
datum-tells c item value sound reads = record {
  name = text-of-tells c item value.name sound reads.name;
  ellipsoid = optional-tells (ReadsEllipsoid class.Ellipsoid) IsEllipsoid c class.Ellipsoid (ellipsoid-tells class.Ellipsoid refl) item value.ellipsoid sound reads.ellipsoid;
  anchor = optional-text-tells c class.Anchor item value.anchor sound reads.anchor;
  anchor_epoch = optional-tells (ReadsNumberOf class.AnchorEpoch) IsNormal c class.AnchorEpoch (number-of-tells class.AnchorEpoch) item value.anchor_epoch sound reads.anchor_epoch;
  identifiers = identifiers-tell c item value.identifiers sound reads.identifiers;
}

pub none-read : {V : Type 0} (R : Item → V → Type 0) (items : List Item) (values : List V) → ReadsEach R items values → values ≡ [] → items ≡ []
none-read R [] values reads e = refl
none-read R (item ∷ items) [] reads e = absurd reads
none-read R (item ∷ items) (value ∷ values) reads e = cc

pub ensemble-tells : SlotsCount → (c : Class) → Requires c class.Member 0 → Tells c (ReadsEnsemble c) IsEnsemble
ensemble-tells law c enough item value sound reads = record {
  name = text-of-tells c item value.name sound reads.name;
  some = λ none.
      not-none law c class.Member item sound.shaped enough (none-read (ReadsNamed class.Member) (those c class.Member (arguments item)) value.members reads.members none);
  members = each-tells (ReadsNamed class.Member) IsNamed c class.Member (named-tells class.Member) item value.members sound reads.members;
  ellipsoid = optional-tells (ReadsEllipsoid class.Ellipsoid) IsEllipsoid c class.Ellipsoid (ellipsoid-tells class.Ellipsoid refl) item value.ellipsoid sound reads.ellipsoid;
  accuracy = first-tells (ReadsNumberOf class.EnsembleAccuracy) IsNormal c class.EnsembleAccuracy (number-of-tells class.EnsembleAccuracy) item value.accuracy sound reads.accuracy;
  identifiers = identifiers-tell c item value.identifiers sound reads.identifiers;
}
