-- Axes have one form exactly where they are the same, and the axis that is found at a position is
-- the axis of that position.
use Rattle.std.proofs.Common.{◌≡◌, ◌↔◌, ◌∙◌, ℕ, ◌+◌, ◌<◌, ◌^◌, inl, inr, true, false, List, [], ◌∷◌, Option, Some, None, refl, sym, subst, arith}
use Rattle.std.proofs.lemmas.Bool.{false≢true}
use Rattle.std.proofs.lemmas.Bool.Decides.{Decides-eqb}
use Rattle.crs_decimal.specs.inner.Prelude.{Value, IsNormal}
use Rattle.crs_shape.specs.declared.unit_kind.UnitKind.TheVariants as kinds
use Rattle.crs_shape.specs.inner.Prelude.{asked_kind}
use Rattle.crs_value.specs.inner.Prelude.{IsAxis, IsAxisMeridian, IsAxisUnit, AxisParts, SystemParts}
use Rattle.crs_value.specs.Sound.{Each}
use Rattle.crs_value.specs.declared.values.level.Level.{Level}
use Rattle.crs_same.specs.inner.Prelude.{AgreeAxis, HasAt, IsPositionOf, SameAxisAlone, SameAxisMeridian, BothOrNeither}
use Rattle.crs_normal.specs.inner.Decides.{FormDecides, SetsDecide}
use Rattle.crs_normal.specs.inner.LowerLaws.{LowerLaws}
use Rattle.crs_normal.specs.inner.PartTexts.{norm_axis_alone}
use Rattle.crs_normal.specs.inner.SpelledCrs.{axis_at, is_at, norm_axis, norm_axis_meridian, norm_axis_meridians}
use Rattle.crs_normal.proofs.same.PartLemmas.{Maybe, options-agree, values-agree}
use Rattle.crs_normal.proofs.same.UnitLemmas.{unit-agrees}

-- ---- two axes

module _ (laws : LowerLaws) (sets : SetsDecide) (level : Level) where
  pub axis-meridian-agrees : FormDecides IsAxisMeridian (norm_axis_meridian level) (SameAxisMeridian level)
  axis-meridian-agrees a b in-a in-b =
      grind (arith, values-agree laws.normal_is_one, unit-agrees laws.normal_is_one sets.idents level kinds.Angle)

  pub axis-meridians-agree : FormDecides (Maybe IsAxisMeridian) (norm_axis_meridians level)
      (BothOrNeither (SameAxisMeridian level))
  axis-meridians-agree = options-agree _ _ _ axis-meridian-agrees _ refl (λ m. refl)

  -- two axes by themselves
  pub axis-alone-agrees : FormDecides IsAxis (norm_axis_alone level) (SameAxisAlone level)
  axis-alone-agrees x y in-x in-y =
      grind (
        arith,
        axis-meridians-agree,
        values-agree laws.normal_is_one,
        unit-agrees laws.normal_is_one sets.idents level kinds.Plain,
        sets.idents level,
      )

  -- at the same position of two systems of one type
  pub axis-agrees : (a b : SystemParts) (k : ℕ) (x y : AxisParts) → a.system_type ≡ b.system_type →
      Maybe IsAxisUnit a.unit → Maybe IsAxisUnit b.unit → IsAxis x → IsAxis y →
      (norm_axis level a k x ≡ norm_axis level b k y) ↔ AgreeAxis level a b x y
  unfolding norm_axis AgreeAxis
  axis-agrees a b k x y type unit-a unit-b in-x in-y =
      grind (
        arith,
        axis-meridians-agree,
        unit-agrees laws.normal_is_one sets.idents level (asked_kind a.system_type x.direction),
        sets.idents level,
      )

-- ---- the axes at a position

has-mapped : (P Q : AxisParts → Type 0) (position place : ℕ) (axes : List AxisParts) →
    ((axis : AxisParts) → P axis → Q axis) →
    HasAt position P place axes → HasAt position Q place axes
has-mapped P Q position place [] on h = absurd h
has-mapped P Q position place (axis ∷ axes) on (inl h) = inl (h.0, on axis h.1)
has-mapped P Q position place (axis ∷ axes) on (inr h) = inr (has-mapped P Q position (place + 1) axes on h)

which : (P : AxisParts → Type 0) (position place : ℕ) (axes : List AxisParts) → HasAt position P place axes →
    (axis : AxisParts) × P axis × HasAt position (λ x. x ≡ axis) place axes
which P position place [] h = absurd h
which P position place (axis ∷ axes) (inl h) = (axis, h.1, inl (h.0, refl))
which P position place (axis ∷ axes) (inr h) = let w = which P position (place + 1) axes h in (w.0, w.1, inr w.2)

abbrev IsOneAt : ℕ → List AxisParts → Type 0
IsOneAt position axes = (x y : AxisParts) → HasAt position (λ axis. axis ≡ x) 1 axes →
    HasAt position (λ axis. axis ≡ y) 1 axes → x ≡ y

-- what holds of the axis at a position holds at that position, and conversely
at-agrees : (P : AxisParts → Type 0) (position : ℕ) (axes : List AxisParts) (axis : AxisParts) → IsOneAt position axes →
    HasAt position (λ x. x ≡ axis) 1 axes → P axis ↔ HasAt position P 1 axes
at-agrees P position axes axis one at = (
  λ p. has-mapped (λ x. x ≡ axis) P position 1 axes (λ x e. subst P (sym e) p) at,
  λ h. let w = which P position 1 axes h in subst P (one w.0 axis w.2 at) w.1,
)

pub both-agree : (R : AxisParts → AxisParts → Type 0) (position : ℕ) (xs ys : List AxisParts) (x y : AxisParts) →
    IsOneAt position xs → IsOneAt position ys →
    HasAt position (λ axis. axis ≡ x) 1 xs → HasAt position (λ axis. axis ≡ y) 1 ys → R x y
    ↔ HasAt position (λ a. HasAt position (λ b. R a b) 1 ys) 1 xs
both-agree R position xs ys x y one-x one-y at-x at-y =
    grind (
      arith,
      at-agrees (λ b. R x b) position ys y one-y at-y,
      at-agrees (λ a. HasAt position (λ b. R a b) 1 ys) position xs x one-x at-x,
    )

pub sound-at : (position place : ℕ) (axes : List AxisParts) (axis : AxisParts) → Each IsAxis axes →
    HasAt position (λ x. x ≡ axis) place axes → IsAxis axis
sound-at position place [] axis sound h = absurd h
sound-at position place (x ∷ axes) axis sound (inl h) = subst IsAxis h.1 sound.0
sound-at position place (x ∷ axes) axis sound (inr h) = sound-at position (place + 1) axes axis sound.1 h

-- ---- the axis that is found

-- the first axis for which the test holds, and it has this position
pub record Found (position place : ℕ) (axes : List AxisParts) : Type 0 where
  pub axis : AxisParts
  pub is : axis_at position place axes ≡ Some axis
  pub at : HasAt position (λ x. x ≡ axis) place axes

place-tested : LowerLaws → (position place : ℕ) (order : Option Value) → position < 10 ^ 18 → Maybe IsNormal order →
    (is_at position place order ≡ true) ↔ IsPositionOf position place order
place-tested laws position place None less normal = Decides-eqb place position
place-tested laws position place (Some order) less normal = laws.tested order position normal (omega (arith, less))

pub found : LowerLaws → (P : AxisParts → Type 0) (position place : ℕ) (axes : List AxisParts) → position < 10 ^ 18 →
    Each IsAxis axes →
    HasAt position P place axes → Found position place axes
found laws P position place [] less sound h = absurd h
found laws P position place (axis ∷ axes) less sound h =
    let tested = place-tested laws position place axis.order less sound.0.order in
    elim (is_at position place axis.order) as (λ t. is_at position place axis.order ≡ t →
    Found position place (axis ∷ axes)) [
      | true ↦ λ e. record { axis = axis; is = rw e; at = inl (tested.0 e, refl) }
      | false ↦ λ e. elim h [
        | inl g ↦ absurd (false≢true (sym e ∙ tested.1 g.0))
        | inr g ↦ let r = found laws P position (place + 1) axes less sound.1 g in
            record { axis = r.axis; is = rw e r.is; at = inr r.at }
      ]
    ] refl
