-- Two values in the other order differ in the same parts, each with its values exchanged.
use Rattle.std.proofs.Common.{◌≡◌, ℕ, zero, suc, max, Option, Some, None, List, [], ◌∷◌, length, map, sym, subst, ap, ◌∙◌}
use Rattle.std.specs.Option.{option_map, option_and_then}
use Rattle.std.proofs.Math.Nat.{max_comm}
use Rattle.std.proofs.lemmas.List.{map-append}
use Rattle.crs_decimal.specs.inner.Prelude.{Value}
use Rattle.crs_shape.specs.declared.unit_kind.UnitKind.{UnitKind}
use Rattle.crs_shape.specs.declared.unit_kind.UnitKind.TheVariants as kinds
use Rattle.crs_value.specs.declared.values.compound.Horizontal.{Horizontal}
use Rattle.crs_value.specs.declared.values.compound.Horizontal.TheVariants as horizontal
use Rattle.crs_value.specs.declared.values.crs.Crs.{Crs}
use Rattle.crs_value.specs.declared.values.crs.Crs.TheVariants as crs
use Rattle.crs_value.specs.declared.values.frame.Frame.{Frame}
use Rattle.crs_value.specs.declared.values.frame.Frame.TheVariants as frame
use Rattle.crs_value.specs.declared.values.level.Level.{Level}
use Rattle.crs_value.specs.inner.Prelude.{CompoundParts, MethodParts, ConversionParts, GeodeticParts, BaseParts, ProjectedParts, VerticalParts, DynamicParts, NamedParts, AxisMeridianParts, AxisParts, EllipsoidParts, MeridianParts, DatumParts, EnsembleParts, SystemParts, TailParts, UnitParts}
use Rattle.crs_same.specs.declared.content.Content.{Content}
use Rattle.crs_same.specs.declared.content.Content.TheVariants as content
use Rattle.crs_same.specs.declared.step.Step.{Step}
use Rattle.crs_same.specs.declared.step.Step.TheVariants as step
use Rattle.crs_same.specs.Parts.{◌▸◌, Parts, none, part, ◌⨾◌, DifferenceParts, exchanged, Differences}
use Rattle.crs_same.specs.Parts.{parts_of_method, parts_of_conversion, parts_of_dynamic, parts_of_tail, parts_of_geodetic, parts_of_base, parts_of_projected, parts_of_vertical, parts_of_horizontal, parts_of_compound, parts_of_crs}
use Rattle.crs_same.specs.Parts.{parts_of_ellipsoid, parts_of_ellipsoids, parts_of_given, or_greenwich, parts_of_meridian, parts_of_datum, parts_of_ensemble, parts_of_frame, parts_of_axis, parts_at, parts_of_axes, parts_of_system}
use Rattle.crs_same.specs.inner.Prelude.{SameNamed, SameAxisMeridian, SameValue, SameUnitAsked, BothOrNeither}
use Rattle.crs_same.specs.Parts.{numbers, optional, optional_numbers, units, nodes}

-- what differs among these parts does so among those, with its values exchanged
pub record Turns (these those : Parts) : Type 0 where
  pub turned : (found : List DifferenceParts) → Differences these found → Differences those (map exchanged found)

nothing : Turns none none
nothing = record { turned = λ found is. ap (map exchanged) is }

infixr 10 ◌⨟◌
◌⨟◌ : {these those others more : Parts} → Turns these those → Turns others more → Turns (these ⨾ others) (those ⨾ more)
f ⨟ g = record {
  turned = λ found h.
      let (front, back, is, here, there) = h in
      (map exchanged front, map exchanged back, ap (map exchanged) is ∙ map-append exchanged front back, f.turned front here, g.turned back there);
}

-- ---- single parts

one : {path : List Step} {Same Other : Type 0} {first second : Content} → (Same → Other) → (Other → Same) →
    Turns (part path Same first second) (part path Other second first)
one {path} {Same} {Other} {first} {second} there back = record { turned = each }
  where
    each : (found : List DifferenceParts) → Differences (part path Same first second) found →
        Differences (part path Other second first) (map exchanged found)
    each [] same = there same
    each (d ∷ further) (differs, is, last) = (λ other. differs (back other), ap exchanged is, ap (map exchanged) last)

equal : {V : Type 0} {path : List Step} {a b : V} {first second : Content} → Turns (part path (a ≡ b) first second) (part path (b ≡ a) second first)
equal = one sym sym

never : {path : List Step} {first second : Content} → Turns (part path ⊥ first second) (part path ⊥ second first)
never = one (λ s. s) (λ s. s)

-- each way of two that are the same set
set : {There Back : Type 0} {path : List Step} {first second : Content} → Turns (part path (There × Back) first second) (part path (Back × There) second first)
set = one (λ s. (s.1, s.0)) (λ s. (s.1, s.0))

both : {V : Type 0} (Same Other : V → V → Type 0) → ((x y : V) → Same x y → Other y x) → (a b : Option V) → BothOrNeither Same a b →
    BothOrNeither Other b a
both Same Other turn None None s = tt
both Same Other turn (Some x) (Some y) s = turn x y s
both Same Other turn a b s = absurd s

if-any : {V : Type 0} (path : List Step) (Same : V → V → Type 0) (what : V → Content) → ((x y : V) → Same x y → Same y x) →
    (a b : Option V) → Turns (optional path Same what a b) (optional path Same what b a)
if-any path Same what turn a b = one (both Same Same turn a b) (both Same Same turn b a)

named : (level : Level) (a b : NamedParts) → SameNamed level a b → SameNamed level b a
named level a b s = record { name = sym s.name; identifiers = (s.identifiers.1, s.identifiers.0) }

either : {V : Type 0} (at : List Step) (name_of : V → List ℕ) (P Q : V → V → Parts) → ((x y : V) → Turns (P x y) (Q y x)) →
    (a b : Option V) → Turns (nodes at name_of P a b) (nodes at name_of Q b a)
either at name_of P Q turn None None = nothing
either at name_of P Q turn (Some a) (Some b) = turn a b
either at name_of P Q turn a b = never

module _ (level : Level) (same-turned : (a b : Value) → SameValue a b → SameValue b a) where
  number : (path : List Step) (a b : Value) → Turns (numbers path a b) (numbers path b a)
  number path a b = one (same-turned a b) (same-turned b a)

  numbers-if-any : (path : List Step) (a b : Option Value) → Turns (optional_numbers path a b) (optional_numbers path b a)
  numbers-if-any path a b = if-any path SameValue content.Number same-turned a b

  unit : (asked other : UnitKind) (a b : UnitParts) → SameUnitAsked asked other level a b → SameUnitAsked other asked level b a
  unit asked other a b s = record {
    kind = sym s.kind;
    name = sym s.name;
    factor = same-turned a.factor b.factor s.factor;
    identifiers = (s.identifiers.1, s.identifiers.0);
  }

  units-if-any : (path : List Step) (asked other : UnitKind) (a b : Option UnitParts) →
      Turns (units path level asked other a b) (units path level other asked b a)
  units-if-any path asked other a b =
      one (both (SameUnitAsked asked other level) (SameUnitAsked other asked level) (unit asked other) a b)
      (both (SameUnitAsked other asked level) (SameUnitAsked asked other level) (unit other asked) b a)

  axis-meridian : (a b : AxisMeridianParts) → SameAxisMeridian level a b → SameAxisMeridian level b a
  axis-meridian a b s = record {
    longitude = same-turned a.longitude b.longitude s.longitude;
    unit = unit kinds.Angle kinds.Angle a.unit b.unit s.unit;
  }

  -- ---- dynamic parts

  dynamic : (at : List Step) (a b : Option DynamicParts) → Turns (parts_of_dynamic at level a b) (parts_of_dynamic at level b a)
  unfolding parts_of_dynamic
  dynamic at a b =
      numbers-if-any (at ▸ step.Epoch) (option_map (λ d. d.epoch) a) (option_map (λ d. d.epoch) b)
      ⨟ if-any (at ▸ step.Model) (SameNamed level) content.Model (named level) (option_and_then (λ d. d.model) a)
      (option_and_then (λ d. d.model) b)

  -- ---- frames

  ellipsoid : (at : List Step) (a b : EllipsoidParts) → Turns (parts_of_ellipsoid at level a b) (parts_of_ellipsoid at level b a)
  ellipsoid at a b = search (◌⨟◌, equal, number, one, unit, set) depth 8

  ellipsoids : (at : List Step) (a b : Option EllipsoidParts) → Turns (parts_of_ellipsoids at level a b) (parts_of_ellipsoids at level b a)
  ellipsoids at a b = either at (λ e. e.name) (parts_of_ellipsoid at level) (parts_of_ellipsoid at level) (ellipsoid at) a b

  given : (at : List Step) (a b : MeridianParts) → Turns (parts_of_given at level a b) (parts_of_given at level b a)
  given at a b = search (◌⨟◌, equal, number, units-if-any, set) depth 7

  meridian : (at : List Step) (a b : Option MeridianParts) → Turns (parts_of_meridian at level a b) (parts_of_meridian at level b a)
  unfolding parts_of_meridian
  meridian at a b = given at (or_greenwich a) (or_greenwich b)

  datum : (at : List Step) (a b : DatumParts) → Turns (parts_of_datum at level a b) (parts_of_datum at level b a)
  datum at a b = search (◌⨟◌, equal, ellipsoids, numbers-if-any, set) depth 7

  ensemble : (at : List Step) (a b : EnsembleParts) → Turns (parts_of_ensemble at level a b) (parts_of_ensemble at level b a)
  ensemble at a b = search (◌⨟◌, equal, set, ellipsoids, number) depth 7

  frame-of : (at : List Step) (a b : Frame) → Turns (parts_of_frame at level a b) (parts_of_frame at level b a)
  unfolding parts_of_frame
  frame-of at (frame.Datum a) (frame.Datum b) = datum at a b
  frame-of at (frame.Ensemble a) (frame.Ensemble b) = ensemble at a b
  frame-of at a b = search (◌⨟◌, never, equal, ellipsoids, set) depth 7

  -- ---- coordinate systems

  axis : (at : List Step) (a b : SystemParts) (x y : AxisParts) → Turns (parts_of_axis at level a b x y) (parts_of_axis at level b a y x)
  unfolding parts_of_axis
  axis at a b x y = search (◌⨟◌, equal, if-any, axis-meridian, units-if-any, set) depth 8

  axes-at : (at : List Step) (a b : SystemParts) (position : ℕ) → Turns (parts_at at level a b position) (parts_at at level b a position)
  axes-at at a b position = record {
    turned = λ found h.
        let (x, here, (y, there, is)) = h in
        (y, there, (x, here, (either at (λ axis. axis.name) (parts_of_axis at level a b) (parts_of_axis at level b a) (axis at a b) x y).turned found is));
  }

  axes : (at : List Step) (a b : SystemParts) (count : ℕ) → Turns (parts_of_axes at level a b count) (parts_of_axes at level b a count)
  axes at a b zero = nothing
  axes at a b (suc count) = axes at a b count ⨟ axes-at (at ▸ step.Axis (suc count)) a b (suc count)

  system : (at : List Step) (a b : SystemParts) → Turns (parts_of_system at level a b) (parts_of_system at level b a)
  unfolding parts_of_system
  system at a b =
      equal ⨟ number (at ▸ step.Dimension) a.dimension b.dimension ⨟ set
      ⨟ subst (λ count. Turns (parts_of_axes at level a b (max (length a.axes) (length b.axes))) (parts_of_axes at level b a count))
      (max_comm (length a.axes) (length b.axes)) (axes at a b (max (length a.axes) (length b.axes)))

  -- ---- conversions

  method : (at : List Step) (a b : MethodParts) → Turns (parts_of_method at level a b) (parts_of_method at level b a)
  unfolding parts_of_method
  method at a b = equal ⨟ set

  conversion : (at : List Step) (a b : ConversionParts) → Turns (parts_of_conversion at level a b) (parts_of_conversion at level b a)
  unfolding parts_of_conversion
  conversion at a b = search (◌⨟◌, equal, method, set) depth 7

  -- ---- CRSs

  tail : (at : List Step) (a b : TailParts) → Turns (parts_of_tail at level a b) (parts_of_tail at level b a)
  unfolding parts_of_tail
  tail at a b = set ⨟ set ⨟ equal

  geodetic : (at : List Step) (a b : GeodeticParts) → Turns (parts_of_geodetic at level a b) (parts_of_geodetic at level b a)
  unfolding parts_of_geodetic
  geodetic at a b = search (◌⨟◌, equal, dynamic, frame-of, meridian, system, tail) depth 9

  base : (at : List Step) (a b : BaseParts) → Turns (parts_of_base at level a b) (parts_of_base at level b a)
  unfolding parts_of_base
  base at a b = search (◌⨟◌, equal, dynamic, frame-of, meridian, units-if-any, set) depth 8

  projected : (at : List Step) (a b : ProjectedParts) → Turns (parts_of_projected at level a b) (parts_of_projected at level b a)
  unfolding parts_of_projected
  projected at a b = search (◌⨟◌, equal, base, conversion, system, tail) depth 8

  vertical : (at : List Step) (a b : VerticalParts) → Turns (parts_of_vertical at level a b) (parts_of_vertical at level b a)
  unfolding parts_of_vertical
  vertical at a b = search (◌⨟◌, equal, dynamic, frame-of, system, set, tail) depth 8

  horizontal-of : (at : List Step) (a b : Horizontal) → Turns (parts_of_horizontal at level a b) (parts_of_horizontal at level b a)
  unfolding parts_of_horizontal
  horizontal-of at (horizontal.Geodetic a) (horizontal.Geodetic b) = geodetic at a b
  horizontal-of at (horizontal.Projected a) (horizontal.Projected b) = projected at a b
  horizontal-of at a b = never

  compound : (at : List Step) (a b : CompoundParts) → Turns (parts_of_compound at level a b) (parts_of_compound at level b a)
  unfolding parts_of_compound
  compound at a b = search (◌⨟◌, equal, horizontal-of, vertical, tail) depth 8

  pub crs-of : (a b : Crs) → Turns (parts_of_crs level a b) (parts_of_crs level b a)
  crs-of (crs.Geodetic a) (crs.Geodetic b) = geodetic [] a b
  crs-of (crs.Projected a) (crs.Projected b) = projected [] a b
  crs-of (crs.Vertical a) (crs.Vertical b) = vertical [] a b
  crs-of (crs.Compound a) (crs.Compound b) = compound [] a b
  crs-of a b = never
