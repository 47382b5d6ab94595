-- The sameness of axes with their units and of coordinate systems, position by position.
use Rattle.std.proofs.Common.{◌≡◌, ◌∙◌, sym, ap, subst, ℕ, ◌≤◌, length, Option}
use Rattle.std.specs.Prelude.{⊤}
use Rattle.crs_shape.specs.declared.unit_kind.UnitKind.{UnitKind}
use Rattle.crs_shape.specs.inner.Prelude.{asked_kind}
use Rattle.crs_value.specs.declared.values.level.Level.{Level}
use Rattle.crs_value.specs.inner.Prelude.{IsSystem, UnitParts, AxisParts, SystemParts}
use Rattle.crs_same.specs.inner.Prelude.{IsSameness, IsSamenessOf, SameIdents, SameAxisMeridian, own_or, HasAt, SameValue, SameUnit, equal-by, by, ◌⊗◌, in-words, optional}
use Rattle.crs_same.specs.inner.Agreement.{AgreeAxisIn, AgreeAxis, AgreeAxes, AgreeSystem}
use Rattle.crs_same.proofs.AxisLemmas.{which, at-both, which-both}

-- ---- axes

module _ (level : Level) (along : IsSameness (SameAxisMeridian level)) (identifiers : IsSameness (SameIdents level))
    (units : (asked : UnitKind) → IsSameness (SameUnit asked level)) where
  -- the sameness of axes with their units
  axes-in : (asked : UnitKind) →
      IsSameness (λ (x y : AxisParts × Option UnitParts). AgreeAxisIn asked level x.0 y.0 x.1 y.1)
  axes-in asked =
      in-words
      (equal-by (λ x. x.0.name) ⊗ equal-by (λ x. x.0.direction) ⊗ by (λ x. x.0.meridian) (optional along)
      ⊗ by (λ x. x.1) (optional (units asked)) ⊗ by (λ x. x.0.identifiers) identifiers) (assumption) (assumption)

  axis-itself : (a : SystemParts) (x : AxisParts) → AgreeAxis level a a x x
  unfolding AgreeAxis
  axis-itself a x = (axes-in (asked_kind a.system_type x.direction)).reflexive (x, own_or x.unit a.unit)

  axis-swapped : (a b : SystemParts) (x y : AxisParts) → a.system_type ≡ b.system_type → AgreeAxis level a b x y →
      AgreeAxis level b a y x
  unfolding AgreeAxis
  axis-swapped a b x y e s =
      subst (λ asked. AgreeAxisIn asked level y x (own_or y.unit b.unit) (own_or x.unit a.unit))
      (ap (λ t. asked_kind t x.direction) e ∙ ap (asked_kind b.system_type) s.direction)
      ((axes-in (asked_kind a.system_type x.direction)).symmetric (x, own_or x.unit a.unit) (y, own_or y.unit b.unit) s)

  axis-joined : (a b c : SystemParts) (x y z : AxisParts) → a.system_type ≡ b.system_type → AgreeAxis level a b x y →
      AgreeAxis level b c y z → AgreeAxis level a c x z
  unfolding AgreeAxis
  axis-joined a b c x y z e s t =
      (axes-in (asked_kind a.system_type x.direction)).transitive (x, own_or x.unit a.unit) (y, own_or y.unit b.unit)
      (z, own_or z.unit c.unit) s
      (subst (λ asked. AgreeAxisIn asked level y z (own_or y.unit b.unit) (own_or z.unit c.unit))
      (sym (ap (λ t. asked_kind t x.direction) e ∙ ap (asked_kind b.system_type) s.direction)) t)

  -- ---- coordinate systems

  module _ (number : IsSameness SameValue)
      (some : (a : SystemParts) → IsSystem a → (position : ℕ) → 1 ≤ position → position ≤ length a.axes →
      HasAt position (λ axis. ⊤) 1 a.axes)
      (one : (a : SystemParts) → IsSystem a → (position : ℕ) (x y : AxisParts) →
      HasAt position (λ axis. axis ≡ x) 1 a.axes → HasAt position (λ axis. axis ≡ y) 1 a.axes → x ≡ y)
      (as-many : (a b : SystemParts) → IsSystem a → IsSystem b → SameValue a.dimension b.dimension →
      length a.axes ≡ length b.axes) where
    axes-themselves : (a : SystemParts) → IsSystem a → AgreeAxes level a a
    axes-themselves a is position first last =
        let w = which (λ axis. ⊤) position 1 a.axes (some a is position first last) in
        at-both (λ x y. AgreeAxis level a a x y) position a.axes a.axes w.0 w.0 w.2 w.2 (axis-itself a w.0)

    axes-swapped : (a b : SystemParts) → IsSystem a → IsSystem b → AgreeSystem level a b → AgreeAxes level b a
    axes-swapped a b is-a is-b s position first last =
        let equal : length b.axes ≡ length a.axes = sym (as-many a b is-a is-b s.dimension) in
        let within : position ≤ length a.axes = subst (λ n. position ≤ n) equal last in
        let w = which-both (λ x y. AgreeAxis level a b x y) position a.axes b.axes (s.axes position first within) in
        at-both (λ y x. AgreeAxis level b a y x) position b.axes a.axes w.1 w.0 w.4 w.3
        (axis-swapped a b w.0 w.1 s.system_type w.2)

    axes-joined : (a b c : SystemParts) → IsSystem a → IsSystem b → AgreeSystem level a b → AgreeSystem level b c →
        AgreeAxes level a c
    axes-joined a b c is-a is-b s t position first last =
        let within : position ≤ length b.axes = subst (λ n. position ≤ n) (as-many a b is-a is-b s.dimension) last in
        let v = which-both (λ x y. AgreeAxis level a b x y) position a.axes b.axes (s.axes position first last) in
        let w = which-both (λ y z. AgreeAxis level b c y z) position b.axes c.axes (t.axes position first within) in
        let equal : v.1 ≡ w.0 = one b is-b position v.1 w.0 v.4 w.3 in
        let same : AgreeAxis level a b v.0 w.0 = subst (λ y. AgreeAxis level a b v.0 y) equal v.2 in
        at-both (λ x z. AgreeAxis level a c x z) position a.axes c.axes v.0 w.1 v.3 w.4
        (axis-joined a b c v.0 w.0 w.1 s.system_type same w.2)

    fields : IsSameness (λ (a b : SystemParts). (a.system_type ≡ b.system_type) × (SameValue a.dimension b.dimension × SameIdents level a.identifiers b.identifiers))
    fields = equal-by (λ a. a.system_type) ⊗ by (λ a. a.dimension) number ⊗ by (λ a. a.identifiers) identifiers

    pub system : IsSamenessOf IsSystem (AgreeSystem level)
    system = record {
      reflexive = λ a is. assumption (fields.reflexive a, axes-themselves a is);
      symmetric = λ a b is-a is-b s. assumption (fields.symmetric a b (s.system_type, (s.dimension, s.identifiers)), axes-swapped a b is-a is-b s);
      transitive = λ a b c is-a is-b is-c s t.
          assumption (fields.transitive a b c (s.system_type, (s.dimension, s.identifiers)) (t.system_type, (t.dimension, t.identifiers)), axes-joined a b c is-a is-b s t);
    }
