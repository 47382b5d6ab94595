-- All parts of two values are the same exactly where the values agree, field by field.
use Rattle.std.proofs.Common.{◌≡◌, ◌⊎◌, ◌↔◌, ◌≤◌, ◌==◌, ⊎_elim, inl, inr, Bool, true, false, if◌then◌else◌, ℕ, zero, suc, max, Option, Some, None, List, [], length, refl, sym, subst, arith}
use Rattle.std.specs.Prelude.{⊤}
use Rattle.std.proofs.lemmas.Bool.{false≢true}
use Rattle.crs_shape.specs.declared.unit_kind.UnitKind.{UnitKind}
use Rattle.crs_shape.specs.declared.unit_kind.UnitKind.TheVariants as kinds
use Rattle.crs_shape.specs.inner.Prelude.{asked_kind}
use Rattle.crs_value.specs.declared.values.compound.Horizontal.{Horizontal}
use Rattle.crs_value.specs.declared.values.compound.Horizontal.TheVariants as horizontal
use Rattle.crs_value.specs.declared.values.crs.Crs.{Crs}
use Rattle.crs_value.specs.declared.values.crs.Crs.TheVariants as crs
use Rattle.crs_value.specs.declared.values.frame.Frame.{Frame}
use Rattle.crs_value.specs.declared.values.frame.Frame.TheVariants as frame
use Rattle.crs_value.specs.declared.values.level.Level.{Level}
use Rattle.crs_value.specs.inner.Prelude.{CompoundParts, MethodParts, ConversionParts, GeodeticParts, BaseParts, ProjectedParts, VerticalParts, DynamicParts, AxisParts, EllipsoidParts, MeridianParts, DatumParts, EnsembleParts, SystemParts, TailParts, IsCompound, IsHorizontal, IsCrs, IsGeodetic, IsProjected, IsVertical, IsSystem}
use Rattle.crs_same.specs.declared.step.Step.{Step}
use Rattle.crs_same.specs.declared.step.Step.TheVariants as step
use Rattle.crs_same.specs.Parts.{◌▸◌, AllSame, AreSame}
use Rattle.crs_same.specs.Parts.{parts_of_method, parts_of_conversion, parts_of_dynamic, parts_of_tail, parts_of_geodetic, parts_of_base, parts_of_projected, parts_of_vertical, parts_of_horizontal, parts_of_compound, parts_of_crs}
use Rattle.crs_same.specs.Parts.{parts_of_ellipsoid, parts_of_ellipsoids, parts_of_given, unit_of, or_greenwich, parts_of_meridian, parts_of_datum, parts_of_ensemble, parts_of_frame, parts_of_axis, parts_at, parts_of_axes, parts_of_system}
use Rattle.crs_same.specs.inner.Agreement.{AgreeWhereSame, AgreeMethod, AgreeConversion, AgreeGeodetic, AgreeBase, AgreeProjected, AgreeVertical, AgreeHorizontal, AgreeCompound, AgreeCrs, AgreeDynamic, AgreeEllipsoid, AgreeGiven, AgreeMeridian, AgreeDatum, AgreeEnsemble, AgreeFrame, AgreeAxis, AgreeAt, AgreeAxes, AgreeSystem, AgreeTail}
use Rattle.crs_same.specs.inner.Prelude.{IsZero, BothOrNeither, HasAt, own_or, SameUnitAsked, SameUnit, SameValue}
use Rattle.crs_same.specs.SameCrs.{SameCrs, SameDynamic, IsHorizontalPart}
use Rattle.crs_same.proofs.AxisLemmas.{at-both, which-both}
use Rattle.crs_same.proofs.NumberLemmas.{zero-in-both, zero-is}

-- axes of one direction ask one kind, where their systems are of one type
pub one-asked : (a b : SystemParts) (x y : AxisParts) → a.system_type ≡ b.system_type → x.direction ≡ y.direction →
    asked_kind a.system_type x.direction ≡ asked_kind b.system_type y.direction
one-asked a b x y type direction = λ i. asked_kind (type i) (direction i)

-- what is asked of the horizontal part of a compound CRS is asked of it by itself
pub horizontal-part : (a : Horizontal) → IsHorizontal a → IsHorizontalPart a
horizontal-part (horizontal.Geodetic a) sound = sound.0
horizontal-part (horizontal.Projected a) sound = sound.0

module _ (level : Level) where
  same : {Same : Type 0} → Same ↔ Same
  same = (λ s. s, λ s. s)

  -- ---- dynamic parts

  pub dynamic : (at : List Step) (a b : Option DynamicParts) → AllSame (parts_of_dynamic at level a b) ↔ BothOrNeither (AgreeDynamic level) a b
  unfolding parts_of_dynamic
  dynamic at None None = (λ s. tt, λ s. (tt, tt))
  dynamic at (Some a) (Some b) = assumption
  dynamic at a b = (λ s. absurd s.0, λ s. absurd s)

  -- ---- frames

  pub ellipsoid : (at : List Step) (a b : EllipsoidParts) → AllSame (parts_of_ellipsoid at level a b) ↔ AgreeEllipsoid level a b
  ellipsoid at a b = assumption

  pub ellipsoids : (at : List Step) (a b : Option EllipsoidParts) → AllSame (parts_of_ellipsoids at level a b) ↔ BothOrNeither (AgreeEllipsoid level) a b
  ellipsoids at None None = same
  ellipsoids at (Some a) (Some b) = ellipsoid at a b
  ellipsoids at a b = same

  pub datum : (at : List Step) (a b : DatumParts) → AllSame (parts_of_datum at level a b) ↔ AgreeDatum level a b
  datum at a b = simp (ellipsoids (at ▸ step.Ellipsoid) a.ellipsoid b.ellipsoid) assumption

  pub ensemble : (at : List Step) (a b : EnsembleParts) → AllSame (parts_of_ensemble at level a b) ↔ AgreeEnsemble level a b
  ensemble at a b = simp ellipsoids assumption

  pub frame-of : (at : List Step) (a b : Frame) → AllSame (parts_of_frame at level a b) ↔ AgreeFrame level a b
  unfolding parts_of_frame
  frame-of at (frame.Datum a) (frame.Datum b) = datum at a b
  frame-of at (frame.Ensemble a) (frame.Ensemble b) = ensemble at a b
  frame-of at a b = (λ s. absurd s.0, λ s. absurd s)

  -- ---- conversions

  pub method : (at : List Step) (a b : MethodParts) → AllSame (parts_of_method at level a b) ↔ AgreeMethod level a b
  unfolding parts_of_method
  method at a b = assumption

  pub conversion : (at : List Step) (a b : ConversionParts) → AllSame (parts_of_conversion at level a b) ↔ AgreeConversion level a b
  unfolding parts_of_conversion
  conversion at a b = simp method assumption

  tail : (at : List Step) (a b : TailParts) → AllSame (parts_of_tail at level a b) ↔ AgreeTail level a b
  unfolding parts_of_tail
  tail at a b = assumption

  -- ---- coordinate systems

  -- the axes of two systems of one type
  axis : (at : List Step) (a b : SystemParts) (x y : AxisParts) → a.system_type ≡ b.system_type →
      AllSame (parts_of_axis at level a b x y) ↔ AgreeAxis level a b x y
  unfolding parts_of_axis AgreeAxis
  axis at a b x y type =
      (λ s. assumption (of_kind _ _ (sym (one-asked a b x y type s.1.0)) s.1.1.1.0), λ s. assumption (of_kind _ _ (one-asked a b x y type s.direction) s.unit))
    where
      of_kind : (other wanted : UnitKind) → other ≡ wanted →
          BothOrNeither (SameUnitAsked (asked_kind a.system_type x.direction) other level) (own_or x.unit a.unit) (own_or y.unit b.unit) →
          BothOrNeither (SameUnitAsked (asked_kind a.system_type x.direction) wanted level) (own_or x.unit a.unit) (own_or y.unit b.unit)
      of_kind other wanted is =
          subst (λ k. BothOrNeither (SameUnitAsked (asked_kind a.system_type x.direction) k level) (own_or x.unit a.unit) (own_or y.unit b.unit)) is

  -- at longitude 0 the unit doesn't count
  counted : {V : Type 0} (Same : V → V → Type 0) (Zero : Type 0) (p q : Bool) (x y : Option V) → ((p ≡ true) ↔ Zero) → p ≡ q →
      BothOrNeither Same (if p then None else x) (if q then None else y) ↔ (Zero ⊎ BothOrNeither Same x y)
  counted Same Zero true true x y is e = (λ s. inl (is.0 refl), λ s. tt)
  counted Same Zero false false x y is e = (inr, ⊎_elim (λ zero. absurd (false≢true (is.1 zero))) (λ s. s))
  counted Same Zero p q x y is e = absurd (cc)

  pub given : (at : List Step) (a b : MeridianParts) → AllSame (parts_of_given at level a b) ↔ AgreeGiven level a b
  given at a b = (λ s. assumption ((unit s.1.0).0 s.1.1.0), λ s. assumption ((unit s.longitude).1 s.unit))
    where
      unit : SameValue a.longitude b.longitude → BothOrNeither (SameUnit kinds.Angle level) (unit_of a) (unit_of b)
          ↔ (IsZero a.longitude ⊎ BothOrNeither (SameUnit kinds.Angle level) a.unit b.unit)
      unit same_value =
          counted (SameUnit kinds.Angle level) (IsZero a.longitude) (a.longitude.digits == 0) (b.longitude.digits == 0) a.unit b.unit
          (zero-is a.longitude) (zero-in-both a.longitude b.longitude same_value)

  meridian : (at : List Step) (a b : Option MeridianParts) → AllSame (parts_of_meridian at level a b) ↔ AgreeMeridian level a b
  unfolding parts_of_meridian
  meridian at a b = given at (or_greenwich a) (or_greenwich b)

  pub base : (at : List Step) (a b : BaseParts) → AllSame (parts_of_base at level a b) ↔ AgreeBase level a b
  unfolding parts_of_base
  base at a b = simp (dynamic, frame-of, meridian) assumption

  -- systems of one dimension have as many axes, and each position of a system has one
  module _
      (as_many : (a b : SystemParts) → IsSystem a → IsSystem b → SameValue a.dimension b.dimension → length a.axes ≡ length b.axes)
      (some : (system : SystemParts) → IsSystem system → (position : ℕ) → 1 ≤ position → position ≤ length system.axes →
      HasAt position (λ axis. ⊤) 1 system.axes) where
    of-at : (at : List Step) (a b : SystemParts) → a.system_type ≡ b.system_type → IsSystem a → (position : ℕ) → 1 ≤ position → position ≤ length a.axes →
        AllSame (parts_at at level a b position) → AgreeAt level a b position
    of-at at a b type sound position low high (None, here, rest) = absurd (here (some a sound position low high))
    of-at at a b type sound position low high (Some x, here, (None, there, bad)) = absurd bad
    of-at at a b type sound position low high (Some x, here, (Some y, there, all)) =
        at-both (λ x y. AgreeAxis level a b x y) position a.axes b.axes x y here there ((axis at a b x y type).0 all)

    last : (k n : ℕ) → k ≤ suc n → (k ≤ n) ⊎ (k ≡ suc n)
    last k n low = grind arith

    of-axes : (at : List Step) (a b : SystemParts) → a.system_type ≡ b.system_type → IsSystem a → (count : ℕ) → AllSame (parts_of_axes at level a b count) →
        (position : ℕ) → 1 ≤ position → position ≤ count → position ≤ length a.axes → AgreeAt level a b position
    of-axes at a b type sound zero all position low high in-a = absurd (omega (arith, low, high))
    of-axes at a b type sound (suc count) all position low high in-a = elim (last position count high) [
      | inl below ↦ of-axes at a b type sound count all.0 position low below in-a
      | inr is ↦ of-at (at ▸ step.Axis position) a b type sound position low in-a
          (subst (λ k. AllSame (parts_at (at ▸ step.Axis k) level a b k)) (sym is) all.1)
    ]

    to-at : (at : List Step) (a b : SystemParts) → a.system_type ≡ b.system_type → (position : ℕ) → AgreeAt level a b position → AllSame (parts_at at level a b position)
    to-at at a b type position same_at =
        let (x, y, r, here, there) = which-both (λ x y. AgreeAxis level a b x y) position a.axes b.axes same_at in
        (Some x, here, (Some y, there, (axis at a b x y type).1 r))

    to-axes : (at : List Step) (a b : SystemParts) → a.system_type ≡ b.system_type → AgreeAxes level a b → (count : ℕ) → count ≤ length a.axes →
        AllSame (parts_of_axes at level a b count)
    to-axes at a b type axes zero in-a = tt
    to-axes at a b type axes (suc count) in-a = (
      to-axes at a b type axes count (omega (arith, in-a)),
      to-at (at ▸ step.Axis (suc count)) a b type (suc count) (axes (suc count) (omega arith) in-a),
    )

    pub system : (at : List Step) (a b : SystemParts) → IsSystem a → IsSystem b → AllSame (parts_of_system at level a b) ↔ AgreeSystem level a b
    unfolding parts_of_system
    system at a b sound-a sound-b = (
      λ s.
          let axes : AgreeAxes level a b = λ position low high. of-axes at a b s.0 sound-a (max (length a.axes) (length b.axes)) s.1.1.1 position low (omega (arith, high)) high in
          assumption axes,
      λ s.
          let many = as_many a b sound-a sound-b s.dimension in
          assumption (to-axes at a b s.system_type s.axes (max (length a.axes) (length b.axes)) (omega (arith, many))),
    )

    -- ---- CRSs

    pub geodetic : (at : List Step) (a b : GeodeticParts) → IsGeodetic a → IsGeodetic b → AllSame (parts_of_geodetic at level a b) ↔ AgreeGeodetic level a b
    unfolding parts_of_geodetic
    geodetic at a b sound-a sound-b =
        simp (dynamic, frame-of, meridian, system (at ▸ step.System) a.system b.system sound-a.system sound-b.system, tail) assumption

    pub projected : (at : List Step) (a b : ProjectedParts) → IsProjected a → IsProjected b → AllSame (parts_of_projected at level a b) ↔ AgreeProjected level a b
    unfolding parts_of_projected
    projected at a b sound-a sound-b =
        simp (base, conversion, system (at ▸ step.System) a.system b.system sound-a.system sound-b.system, tail) assumption

    pub vertical : (at : List Step) (a b : VerticalParts) → IsVertical a → IsVertical b → AllSame (parts_of_vertical at level a b) ↔ AgreeVertical level a b
    unfolding parts_of_vertical
    vertical at a b sound-a sound-b =
        simp (dynamic, frame-of, system (at ▸ step.System) a.system b.system sound-a.system sound-b.system, tail) assumption

    pub horizontal-of : (at : List Step) (a b : Horizontal) → IsHorizontalPart a → IsHorizontalPart b →
        AllSame (parts_of_horizontal at level a b) ↔ AgreeHorizontal level a b
    unfolding parts_of_horizontal
    horizontal-of at (horizontal.Geodetic a) (horizontal.Geodetic b) sound-a sound-b = geodetic at a b sound-a sound-b
    horizontal-of at (horizontal.Projected a) (horizontal.Projected b) sound-a sound-b = projected at a b sound-a sound-b
    horizontal-of at a b sound-a sound-b = same

    pub compound : (at : List Step) (a b : CompoundParts) → IsCompound a → IsCompound b → AllSame (parts_of_compound at level a b) ↔ AgreeCompound level a b
    unfolding parts_of_compound
    compound at a b sound-a sound-b =
        let h =
        horizontal-of (at ▸ step.Horizontal) a.horizontal b.horizontal (horizontal-part a.horizontal sound-a.horizontal) (horizontal-part b.horizontal sound-b.horizontal) in
        simp (h, vertical (at ▸ step.Vertical) a.vertical b.vertical sound-a.vertical sound-b.vertical, tail) assumption

    pub crs-of : (a b : Crs) → IsCrs a → IsCrs b → AllSame (parts_of_crs level a b) ↔ AgreeCrs level a b
    crs-of (crs.Geodetic a) (crs.Geodetic b) sound-a sound-b = simp (geodetic [] a b sound-a sound-b) assumption
    crs-of (crs.Projected a) (crs.Projected b) sound-a sound-b = simp (projected [] a b sound-a sound-b) assumption
    crs-of (crs.Vertical a) (crs.Vertical b) sound-a sound-b = simp (vertical [] a b sound-a sound-b) assumption
    crs-of (crs.Compound a) (crs.Compound b) sound-a sound-b = simp (compound [] a b sound-a sound-b) assumption
    crs-of a b sound-a sound-b = (λ s. absurd s, λ s. absurd s.parts)

    -- ---- of each kind

    pub agree-where-same : AgreeWhereSame level
    unfolding AreSame SameDynamic SameCrs
    agree-where-same = record {
      method = method [];
      conversion = conversion [];
      dynamic = λ a b. dynamic [] (Some a) (Some b);
      ellipsoid = ellipsoid [];
      given = given [];
      meridian = meridian [];
      datum = datum [];
      ensemble = ensemble [];
      frame = frame-of [];
      tail = tail [];
      base = base [];
      system = system [];
      geodetic = geodetic [];
      projected = projected [];
      vertical = vertical [];
      horizontal = horizontal-of [];
      compound = compound [];
      crs = crs-of;
    }
