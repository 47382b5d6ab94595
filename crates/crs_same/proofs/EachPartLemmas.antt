-- What holds of the parts of two values, since it holds of each part, of parts in turn and of those at a position.
use Rattle.std.proofs.Common.{◌≡◌, ℕ, zero, suc, ◌⊎◌, inl, inr, Option, Some, None, List, [], refl, sym, subst}
use Rattle.crs_value.specs.declared.values.compound.Horizontal.{Horizontal}
use Rattle.crs_value.specs.declared.values.compound.Horizontal.TheVariants as horizontal
use Rattle.crs_value.specs.declared.values.crs.Crs.{Crs}
use Rattle.crs_value.specs.declared.values.crs.Crs.TheVariants as crs
use Rattle.crs_value.specs.declared.values.frame.Frame.{Frame}
use Rattle.crs_value.specs.declared.values.frame.Frame.TheVariants as frame
use Rattle.crs_value.specs.declared.values.level.Level.{Level}
use Rattle.crs_value.specs.declared.values.level.Level.TheVariants as levels
use Rattle.crs_value.specs.inner.Prelude.{CompoundParts, MethodParts, ConversionParts, GeodeticParts, BaseParts, ProjectedParts, VerticalParts, DynamicParts, kept, kept_one, AxisParts, EllipsoidParts, MeridianParts, DatumParts, EnsembleParts, SystemParts, TailParts}
use Rattle.crs_value.specs.Values.{IdentParts}
use Rattle.crs_same.specs.declared.content.Content.{Content}
use Rattle.crs_same.specs.declared.content.Content.TheVariants as content
use Rattle.crs_same.specs.declared.step.Step.{Step}
use Rattle.crs_same.specs.declared.step.Step.TheVariants as step
use Rattle.crs_same.specs.Parts.{given as what-stands, ◌▸◌, Parts, none, part, ◌⨾◌, within}
use Rattle.crs_same.specs.Definition.{IsOfDefinition}
use Rattle.crs_same.specs.Parts.{parts_of_method, parts_of_conversion, parts_of_dynamic, parts_of_tail, parts_of_geodetic, parts_of_base, parts_of_projected, parts_of_vertical, parts_of_horizontal, parts_of_compound, parts_of_crs}
use Rattle.crs_same.specs.Parts.{parts_of_ellipsoid, parts_of_ellipsoids, parts_of_given, or_greenwich, parts_of_meridian, parts_of_datum, parts_of_ensemble, parts_of_frame, parts_of_axis, parts_at, parts_of_axes, parts_of_system, nodes}
use Rattle.crs_same.specs.inner.Prelude.{StandsAt, SameIdents, usages_of, SameUsages, SameRemark}

-- such a part is the same by definition
abbrev pub IsLeftOut : Level → Type 0 → Type 0
IsLeftOut level Same = level ≡ levels.Definition → Same

-- What holds of parts goes from part to part: `Is` holds of the path to each node, and `Sound` of each coordinate system.
pub record Spreads (level : Level) (Holds : Parts → Type 0) (Is : List Step → Type 0) (Sound : SystemParts → Type 0) : Type 1 where
  pub nothing : Holds none
  pub both : (these others : Parts) → Holds these → Holds others → Holds (these ⨾ others)
  pub on : (at : List Step) (s : Step) → IsOfDefinition s → Is at → Is (at ▸ s)
  pub each : (at : List Step) (s : Step) (Same : Type 0) (first second : Content) → IsOfDefinition s ⊎ IsLeftOut level Same → Is at →
      Holds (part (at ▸ s) Same first second)
  pub placed : (a b : SystemParts) → Sound a → Sound b → (position : ℕ) (parts : Option AxisParts → Option AxisParts → Parts) →
      ((x y : Option AxisParts) → Holds (parts x y)) → Holds (within (StandsAt position a.axes) (λ x. within (StandsAt position b.axes) (λ y. parts x y)))

-- what is asked of the coordinate systems of a CRS
abbrev pub system_in : Horizontal → SystemParts
system_in (horizontal.Geodetic geodetic) = geodetic.system
system_in (horizontal.Projected projected) = projected.system

abbrev pub AreSound : (SystemParts → Type 0) → CompoundParts → Type 0
AreSound Sound compound = Sound (system_in compound.horizontal) × Sound compound.vertical.system

abbrev pub SoundIn : (SystemParts → Type 0) → Crs → Type 0
SoundIn Sound (crs.Geodetic geodetic) = Sound geodetic.system
SoundIn Sound (crs.Projected projected) = Sound projected.system
SoundIn Sound (crs.Vertical vertical) = Sound vertical.system
SoundIn Sound (crs.Compound compound) = AreSound Sound compound

module _ {level : Level} {Holds : Parts → Type 0} {Is : List Step → Type 0} {Sound : SystemParts → Type 0} (rules : Spreads level Holds Is Sound) where
  infixr 10 ◌⨟◌
  ◌⨟◌ : {these others : Parts} → Holds these → Holds others → Holds (these ⨾ others)
  ◌⨟◌ {these} {others} f g = rules.both these others f g

  one : {Same : Type 0} {first second : Content} (at : List Step) (s : Step) → IsOfDefinition s → Is at → Holds (part (at ▸ s) Same first second)
  one {Same} {first} {second} at s counts is = rules.each at s Same first second (inl counts) is

  idents : {first second : Content} (at : List Step) (xs ys : List IdentParts) → Is at → Holds (part (at ▸ step.Id) (SameIdents level xs ys) first second)
  idents {first} {second} at xs ys is =
      rules.each at step.Id (SameIdents level xs ys) first second (inr (λ e. subst (λ l. SameIdents l xs ys) (sym e) (tt, tt))) is

  either : {V : Type 0} (at : List Step) (name_of : V → List ℕ) (parts : V → V → Parts) → ((a b : V) → Holds (parts a b)) →
      (a b : Option V) → Is at → Holds (nodes at name_of parts a b)
  either at name_of parts each-of None None is = rules.nothing
  either at name_of parts each-of (Some a) (Some b) is = each-of a b
  either at name_of parts each-of a b is = one at step.Name tt is

  -- ---- dynamic parts

  dynamic : (at : List Step) (a b : Option DynamicParts) → Is at → Holds (parts_of_dynamic at level a b)
  unfolding parts_of_dynamic
  dynamic at a b is = search (◌⨟◌, one)

  -- ---- frames

  pub ellipsoid : (at : List Step) (a b : EllipsoidParts) → Is at → Holds (parts_of_ellipsoid at level a b)
  ellipsoid at a b is = search (◌⨟◌, one, idents) depth 7

  ellipsoids : (at : List Step) (a b : Option EllipsoidParts) → Is at → Holds (parts_of_ellipsoids at level a b)
  ellipsoids at a b is = either at (λ e. e.name) (parts_of_ellipsoid at level) (λ x y. ellipsoid at x y is) a b is

  pub given : (at : List Step) (a b : MeridianParts) → Is at → Holds (parts_of_given at level a b)
  given at a b is = search (◌⨟◌, one, idents) depth 7

  meridian : (at : List Step) (a b : Option MeridianParts) → Is at → Holds (parts_of_meridian at level a b)
  unfolding parts_of_meridian
  meridian at a b is = given at (or_greenwich a) (or_greenwich b) is

  pub datum : (at : List Step) (a b : DatumParts) → Is at → Holds (parts_of_datum at level a b)
  datum at a b is = search (◌⨟◌, one, idents, rules.on, ellipsoids) depth 7

  pub ensemble : (at : List Step) (a b : EnsembleParts) → Is at → Holds (parts_of_ensemble at level a b)
  ensemble at a b is = search (◌⨟◌, one, idents, rules.on, ellipsoids) depth 7

  pub frame-of : (at : List Step) (a b : Frame) → Is at → Holds (parts_of_frame at level a b)
  unfolding parts_of_frame
  frame-of at (frame.Datum a) (frame.Datum b) is = datum at a b is
  frame-of at (frame.Ensemble a) (frame.Ensemble b) is = ensemble at a b is
  frame-of at a b is = search (◌⨟◌, one, idents, rules.on, ellipsoids) depth 7

  -- ---- coordinate systems

  axis : (at : List Step) (a b : SystemParts) (x y : AxisParts) → Is at → Holds (parts_of_axis at level a b x y)
  unfolding parts_of_axis
  axis at a b x y is = search (◌⨟◌, one, idents) depth 7

  axes-at : (at : List Step) (a b : SystemParts) (position : ℕ) → Sound a → Sound b → Is at → Holds (parts_at at level a b position)
  axes-at at a b position sound-a sound-b is =
      rules.placed a b sound-a sound-b position (nodes at (λ axis. axis.name) (parts_of_axis at level a b))
      (λ x y. either at (λ axis. axis.name) (parts_of_axis at level a b) (λ v w. axis at a b v w is) x y is)

  axes : (at : List Step) (a b : SystemParts) (count : ℕ) → Sound a → Sound b → Is at → Holds (parts_of_axes at level a b count)
  axes at a b zero sound-a sound-b is = rules.nothing
  axes at a b (suc count) sound-a sound-b is =
      axes at a b count sound-a sound-b is
      ⨟ axes-at (at ▸ step.Axis (suc count)) a b (suc count) sound-a sound-b (rules.on at (step.Axis (suc count)) tt is)

  system : (at : List Step) (a b : SystemParts) → Sound a → Sound b → Is at → Holds (parts_of_system at level a b)
  unfolding parts_of_system
  system at a b sound-a sound-b is = search (◌⨟◌, one, idents, axes) depth 7

  -- ---- conversions

  pub method : (at : List Step) (a b : MethodParts) → Is at → Holds (parts_of_method at level a b)
  unfolding parts_of_method
  method at a b is = search (◌⨟◌, one, idents) depth 7

  pub conversion : (at : List Step) (a b : ConversionParts) → Is at → Holds (parts_of_conversion at level a b)
  unfolding parts_of_conversion
  conversion at a b is = search (◌⨟◌, one, idents, rules.on, method) depth 7

  -- ---- CRSs

  tail : (at : List Step) (a b : TailParts) → Is at → Holds (parts_of_tail at level a b)
  unfolding parts_of_tail
  tail at a b is =
      rules.each at step.Usage (SameUsages level a b) (content.Usages (kept level (usages_of a)) (kept level (usages_of b)))
      (content.Usages (kept level (usages_of b)) (kept level (usages_of a))) (inr (λ e. subst (λ l. SameUsages l a b) (sym e) (tt, tt))) is
      ⨟ idents at a.identifiers b.identifiers is
      ⨟ rules.each at step.Remark (SameRemark level a b) (what-stands content.Text (kept_one level a.remark))
      (what-stands content.Text (kept_one level b.remark)) (inr (λ e. subst (λ l. SameRemark l a b) (sym e) refl)) is

  pub geodetic : (at : List Step) (a b : GeodeticParts) → Sound a.system → Sound b.system → Is at → Holds (parts_of_geodetic at level a b)
  unfolding parts_of_geodetic
  geodetic at a b sound-a sound-b is = search (◌⨟◌, one, rules.on, dynamic, frame-of, meridian, system, tail) depth 9

  pub base : (at : List Step) (a b : BaseParts) → Is at → Holds (parts_of_base at level a b)
  unfolding parts_of_base
  base at a b is = search (◌⨟◌, one, idents, rules.on, dynamic, frame-of, meridian) depth 8

  pub projected : (at : List Step) (a b : ProjectedParts) → Sound a.system → Sound b.system → Is at → Holds (parts_of_projected at level a b)
  unfolding parts_of_projected
  projected at a b sound-a sound-b is = search (◌⨟◌, one, rules.on, base, conversion, system, tail) depth 8

  pub vertical : (at : List Step) (a b : VerticalParts) → Sound a.system → Sound b.system → Is at → Holds (parts_of_vertical at level a b)
  unfolding parts_of_vertical
  vertical at a b sound-a sound-b is = search (◌⨟◌, one, rules.on, dynamic, frame-of, system, tail) depth 8

  horizontal-of : (at : List Step) (a b : Horizontal) → Sound (system_in a) → Sound (system_in b) → Is at → Holds (parts_of_horizontal at level a b)
  unfolding parts_of_horizontal
  horizontal-of at (horizontal.Geodetic a) (horizontal.Geodetic b) sound-a sound-b is = geodetic at a b sound-a sound-b is
  horizontal-of at (horizontal.Projected a) (horizontal.Projected b) sound-a sound-b is = projected at a b sound-a sound-b is
  horizontal-of at a b sound-a sound-b is = one at step.Kind tt is

  pub compound : (at : List Step) (a b : CompoundParts) → AreSound Sound a → AreSound Sound b → Is at → Holds (parts_of_compound at level a b)
  unfolding parts_of_compound
  compound at a b sound-a sound-b is = search (◌⨟◌, one, rules.on, horizontal-of, vertical, tail, sound-a.0, sound-a.1, sound-b.0, sound-b.1) depth 8

  pub crs-of : (a b : Crs) → SoundIn Sound a → SoundIn Sound b → Is [] → Holds (parts_of_crs level a b)
  crs-of (crs.Geodetic a) (crs.Geodetic b) sound-a sound-b is = geodetic [] a b sound-a sound-b is
  crs-of (crs.Projected a) (crs.Projected b) sound-a sound-b is = projected [] a b sound-a sound-b is
  crs-of (crs.Vertical a) (crs.Vertical b) sound-a sound-b is = vertical [] a b sound-a sound-b is
  crs-of (crs.Compound a) (crs.Compound b) sound-a sound-b is = compound [] a b sound-a sound-b is
  crs-of a b sound-a sound-b is = one [] step.Kind tt is
