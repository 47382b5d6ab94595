-- Coordinate systems have one form exactly where they are the same.
use Rattle.std.proofs.Common.{◌≡◌, ◌↔◌, ℕ, zero, suc, ◌+◌, ◌<◌, ◌≤◌, ◌^◌, length, refl, arith}
use Rattle.std.specs.Prelude.{⊤}
use Rattle.crs_value.specs.inner.Prelude.{IsSystem, SystemParts}
use Rattle.crs_value.specs.declared.values.level.Level.{Level}
use Rattle.crs_same.specs.inner.Prelude.{SameValue, AgreeAt, AgreeAxes, AgreeAxis, AgreeSystem}
use Rattle.crs_normal.specs.inner.Decides.{FormDecides, SetsDecide}
use Rattle.crs_normal.specs.inner.LowerLaws.{LowerLaws}
use Rattle.crs_normal.specs.inner.SpelledCrs.{axes_from, norm_axis, norm_system}
use Rattle.crs_normal.proofs.same.AxisLemmas.{Found, axis-agrees, both-agree, found, sound-at}
use Rattle.crs_normal.proofs.same.PartLemmas.{values-agree}

-- a system whose number of axes has at most 18 digits
abbrev pub IsNumbered : SystemParts → Type 0
IsNumbered system = IsSystem system × (length system.axes < 10 ^ 18)

module _ (laws : LowerLaws) (sets : SetsDecide) (level : Level) where
  found-at : (system : SystemParts) → IsNumbered system → (k : ℕ) → 1 ≤ k → k ≤ length system.axes →
      Found k 1 system.axes
  found-at system sound k first last =
      found laws (λ axis. ⊤) k 1 system.axes (omega (arith, sound.1)) sound.0.axes
      (laws.some_axis system sound.0 k first last)

  position-agrees : (a b : SystemParts) (k : ℕ) → IsNumbered a → IsNumbered b → a.system_type ≡ b.system_type →
      (x : Found k 1 a.axes) (y : Found k 1 b.axes) →
      (norm_axis level a k x.axis ≡ norm_axis level b k y.axis) ↔ AgreeAt level a b k
  position-agrees a b k in-a in-b type x y =
      grind (
        arith,
        axis-agrees laws sets level a b k x.axis y.axis type in-a.0.unit in-b.0.unit
            (sound-at k 1 a.axes x.axis in-a.0.axes x.at) (sound-at k 1 b.axes y.axis in-b.0.axes y.at),
        both-agree (λ p q. AgreeAxis level a b p q) k a.axes b.axes x.axis y.axis (laws.one_axis a in-a.0 k)
            (laws.one_axis b in-b.0 k) x.at y.at,
      )

  -- the axes at `n` positions from k on
  abbrev SameFrom : SystemParts → SystemParts → ℕ → ℕ → Type 0
  SameFrom a b k n = (p : ℕ) → k ≤ p → p < k + n → AgreeAt level a b p

  from-agrees : (a b : SystemParts) (k n : ℕ) → AgreeAt level a b k × SameFrom a b (k + 1) n ↔ SameFrom a b k (suc n)
  from-agrees a b k n = grind arith

  axes-agree : (a b : SystemParts) → IsNumbered a → IsNumbered b → a.system_type ≡ b.system_type →
      length a.axes ≡ length b.axes →
      (k n : ℕ) → 1 ≤ k → k + n ≤ suc (length a.axes) → (axes_from level a k n ≡ axes_from level b k n)
      ↔ SameFrom a b k n
  axes-agree a b in-a in-b type long k zero first last =
      (λ e p least most. absurd (omega (arith, least, most)), λ s. refl)
  axes-agree a b in-a in-b type long k (suc n) first last =
      let x = found-at a in-a k first (omega (arith, last)) in
      let y = found-at b in-b k first (omega (arith, last, long)) in
      let rest = axes-agree a b in-a in-b type long (k + 1) n (omega arith) (omega (arith, last)) in
      rw (x.is, y.is) (grind (arith, position-agrees a b k in-a in-b type x y, rest, from-agrees a b k n))

  all-agree : (a b : SystemParts) → IsNumbered a → IsNumbered b → a.system_type ≡ b.system_type →
      length a.axes ≡ length b.axes →
      (axes_from level a 1 (length a.axes) ≡ axes_from level b 1 (length b.axes)) ↔ AgreeAxes level a b
  all-agree a b in-a in-b type long =
      let each = axes-agree a b in-a in-b type long 1 (length a.axes) (omega arith) (omega arith) in
      rw (← long) (grind (arith, each))

  pub system-agrees : FormDecides IsNumbered (norm_system level) (AgreeSystem level)
  system-agrees a b in-a in-b =
      let dimension = values-agree laws.normal_is_one a.dimension b.dimension in-a.0.dimension in-b.0.dimension in
      let identifiers = sets.idents level a.identifiers b.identifiers in-a.0.identifiers in-b.0.identifiers in
      let axes = λ (type : a.system_type ≡ b.system_type) (size : SameValue a.dimension b.dimension).
      all-agree a b in-a in-b type (laws.as_many a b in-a.0 in-b.0 size) in
      grind (arith, dimension, identifiers, axes)
