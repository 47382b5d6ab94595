-- Each position of a coordinate system has one axis.
use Rattle.std.proofs.Common.{◌≡◌, ◌≢◌, ℕ, suc, ◌+◌, ◌≤◌, ◌<◌, ◌↔◌, length, IfSome, Some, None, List, [], ◌∷◌, inl, inr, refl, sym, ap, subst, arith}
use Rattle.crs_decimal.specs.inner.Prelude.{Number, SameNumber, whole_number, Value, IsNormal, exact}
use Rattle.crs_value.specs.inner.Prelude.{IsPosition, IsAxis, AreOrders, AreDistinct, IsSystem, AxisParts, SystemParts}
use Rattle.crs_value.specs.Sound.{Each}
use Rattle.crs_same.specs.inner.Prelude.{IsPositionOf, HasAt, SameValue}
use Rattle.crs_same.proofs.CountLemmas.{Within, Among, Lacks, Apart, among-or-lacks, each-stands}
use Rattle.crs_same.proofs.NumberLemmas.{wholes-same}

-- these are the positions of the axes, the first of which is written at this place
abbrev Stand : ℕ → List AxisParts → List ℕ → Type 0
Stand place [] [] = Unit {0}
Stand place [] (k ∷ ks) = ⊥
Stand place (axis ∷ axes) [] = ⊥
Stand place (axis ∷ axes) (k ∷ ks) = ((j : ℕ) → IsPositionOf j place axis.order ↔ (k ≡ j)) × Stand (place + 1) axes ks

record Positions (place n : ℕ) (axes : List AxisParts) : Type 0 where
  ks : List ℕ
  stand : Stand place axes ks
  within : Within n ks
  apart : Apart ks
  long : length ks ≡ length axes

-- ---- without orders

abbrev places : (place n : ℕ) (axes : List AxisParts) → 1 ≤ place → place + length axes ≤ suc n → Each (λ axis. axis.order ≡ None) axes →
    (p : Positions place n axes) × ((k : ℕ) → k < place → Lacks k p.ks)
places place n [] first last none = (record { ks = []; stand = tt; within = tt; apart = tt; long = refl }, λ k less. tt)
places place n (axis ∷ axes) first last none =
    let r = places (place + 1) n axes (omega (arith, first)) (omega (arith, last)) none.1 in (
      record {
        ks = place ∷ r.0.ks;
        stand = (λ j. subst (λ o. IsPositionOf j place o ↔ (place ≡ j)) (sym none.0) (λ e. e, λ e. e), r.0.stand);
        within = (first, omega (arith, last), r.0.within);
        apart = (r.1 place (omega arith), r.0.apart);
        long = ap suc r.0.long;
      },
      λ k less. (λ e. omega (arith, e, less), r.1 k (omega (arith, less))),
    )

-- ---- with orders

module _ (symmetric : (a b : Number) → SameNumber a b → SameNumber b a)
    (transitive : (a b c : Number) → SameNumber a b → SameNumber b c → SameNumber a c)
    (normal-is-one : (a b : Value) → IsNormal a → IsNormal b → SameNumber (exact a) (exact b) ↔ (a ≡ b)) where
  at-order : (o : Value) (k place j : ℕ) → SameNumber (exact o) (whole_number k) → IsPositionOf j place (Some o) ↔ (k ≡ j)
  at-order o k place j s = (
    λ t. wholes-same k j (transitive (whole_number k) (exact o) (whole_number j) (symmetric (exact o) (whole_number k) s) t),
    λ e. rw e at s,
  )

  other-position : (v o : Value) (j k : ℕ) → IsNormal v → IsNormal o → SameNumber (exact v) (whole_number j) → SameNumber (exact o) (whole_number k) → v ≢ o → j ≢ k
  other-position v o j k nv mo sv so differ e =
      differ ((normal-is-one v o nv mo).0
      (transitive (exact v) (whole_number k) (exact o) (rw e at sv) (symmetric (exact o) (whole_number k) so)))

  -- no axis has a position whose number isn't among the orders
  abbrev Free : List Value → List ℕ → Type 0
  Free os ks = (v : Value) (j : ℕ) → IsNormal v → SameNumber (exact v) (whole_number j) → Each (λ o. v ≢ o) os → Lacks j ks

  ordered : (place n : ℕ) (axes : List AxisParts) (os : List Value) → AreOrders axes os → Each IsAxis axes → Each (IsPosition n) os → AreDistinct os →
      (p : Positions place n axes) × Free os p.ks
  ordered place n [] [] are sound whole apart = (record { ks = []; stand = tt; within = tt; apart = tt; long = refl }, λ v j nv sv each. tt)
  ordered place n [] (o ∷ os) are sound whole apart = cc
  ordered place n (axis ∷ axes) [] are sound whole apart = cc
  ordered place n (axis ∷ axes) (o ∷ os) are sound whole apart =
      let r = ordered (place + 1) n axes os tail sound.1 whole.1 apart.1 in (
        record {
          ks = k ∷ r.0.ks;
          stand = (λ j. subst (λ order. IsPositionOf j place order ↔ (k ≡ j)) (sym head) (at-order o k place j here), r.0.stand);
          within = (whole.0.1.0, whole.0.1.1, r.0.within);
          apart = (r.1 o k normal here apart.0, r.0.apart);
          long = ap suc r.0.long;
        },
        λ v j nv sv each. (other-position v o j k nv normal sv here each.0, r.1 v j nv sv each.1),
      )
    where
      k : ℕ
      k = whole.0.0

      here : SameNumber (exact o) (whole_number k)
      here = whole.0.1.2

      head : axis.order ≡ Some o
      head = cc

      tail : AreOrders axes os
      tail = cc

      normal : IsNormal o
      normal = subst (λ order. IfSome order IsNormal) head sound.0.order

  positions : (system : SystemParts) → IsSystem system → Positions 1 (length system.axes) system.axes
  positions system sound = elim sound.orders [
    | inl none ↦ (places 1 (length system.axes) system.axes (omega arith) (omega arith) none).0
    | inr some ↦ (ordered 1 (length system.axes) system.axes some.0 some.1.0 sound.axes some.1.1.0 some.1.1.1).0
  ]

  pub one-stands : (system : SystemParts) → IsSystem system → (k : ℕ) → 1 ≤ k → k ≤ length system.axes → HasAt k (λ axis. Unit {0}) 1 system.axes
  one-stands system sound k first last =
      let p = positions system sound in
      has 1 system.axes p.ks p.stand (each-stands (length system.axes) p.ks k p.within p.apart p.long first last)
    where
      has : (place : ℕ) (axes : List AxisParts) (ks : List ℕ) → Stand place axes ks → Among k ks → HasAt k (λ axis. Unit {0}) place axes
      has place axes [] stand among = absurd among
      has place [] (j ∷ js) stand among = absurd stand
      has place (axis ∷ axes) (j ∷ js) stand (inl e) = inl ((stand.0 k).1 (sym e), tt)
      has place (axis ∷ axes) (j ∷ js) stand (inr among) = inr (has (place + 1) axes js stand.1 among)

  pub one-alone : (system : SystemParts) → IsSystem system → (P Q : AxisParts → Type 0) (k : ℕ) → HasAt k P 1 system.axes → HasAt k Q 1 system.axes →
      (axis : AxisParts) × P axis × Q axis
  one-alone system sound P Q k p q = let s = positions system sound in alone 1 system.axes s.ks s.stand s.apart p q
    where
      among : (R : AxisParts → Type 0) (place : ℕ) (axes : List AxisParts) (ks : List ℕ) → Stand place axes ks → HasAt k R place axes → Among k ks
      among R place (axis ∷ axes) (j ∷ js) stand (inl h) = inl (sym ((stand.0 k).0 h.0))
      among R place (axis ∷ axes) (j ∷ js) stand (inr h) = inr (among R (place + 1) axes js stand.1 h)
      among R place axes ks stand h = absurd assumption

      no-other : (R : AxisParts → Type 0) (place j : ℕ) (axes : List AxisParts) (js : List ℕ) → k ≡ j → Lacks j js → Stand place axes js → HasAt k R place axes → ⊥
      no-other R place j axes js e lacks stand h = among-or-lacks k js (among R place axes js stand h) (subst (λ n. Lacks n js) (sym e) lacks)

      alone : (place : ℕ) (axes : List AxisParts) (ks : List ℕ) → Stand place axes ks → Apart ks → HasAt k P place axes → HasAt k Q place axes →
          (axis : AxisParts) × P axis × Q axis
      alone place (axis ∷ axes) (j ∷ js) stand apart (inl p) (inl q) = (axis, p.1, q.1)
      alone place (axis ∷ axes) (j ∷ js) stand apart (inl p) (inr q) =
          absurd (no-other Q (place + 1) j axes js (sym ((stand.0 k).0 p.0)) apart.0 stand.1 q)
      alone place (axis ∷ axes) (j ∷ js) stand apart (inr p) (inl q) =
          absurd (no-other P (place + 1) j axes js (sym ((stand.0 k).0 q.0)) apart.0 stand.1 p)
      alone place (axis ∷ axes) (j ∷ js) stand apart (inr p) (inr q) = alone (place + 1) axes js stand.1 apart.1 p q
      alone place axes ks stand apart p q = absurd assumption

pub as-many : ((a b : Number) → SameNumber a b → SameNumber b a) → ((a b c : Number) → SameNumber a b → SameNumber b c → SameNumber a c) →
    (a b : SystemParts) → IsSystem a → IsSystem b → SameValue a.dimension b.dimension → length a.axes ≡ length b.axes
unfolding SameValue
as-many symmetric transitive a b in-a in-b same =
    wholes-same (length a.axes) (length b.axes)
    (transitive (whole_number (length a.axes)) (exact a.dimension) (whole_number (length b.axes))
    (symmetric (exact a.dimension) (whole_number (length a.axes)) in-a.count)
    (transitive (exact a.dimension) (exact b.dimension) (whole_number (length b.axes)) same in-b.count))
