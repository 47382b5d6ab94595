-- The main theorem from its parts.
use Rattle.std.proofs.Common.{◌≡◌, ◌↔◌, ◌⊎◌, ℕ, List, ap, subst, sym, inl, inr}
use Rattle.crs_text.specs.inner.Prelude.{RefusedAt}
use Rattle.crs_value.specs.inner.Prelude.{IsCrs, Spells, Refuses}
use Rattle.crs_value.specs.declared.values.crs.Crs.{Crs}
use Rattle.crs_value.specs.declared.values.level.Level.{Level}
use Rattle.crs_same.specs.inner.Prelude.{SameCrs, IsSamenessOf}
use Rattle.crs_normal.specs.inner.Prelude.{IsNormalText}
use Rattle.crs_writer.specs.inner.Prelude.{CanonicalText, IsCanonicalOf, IsCanonicalText}
use Rattle.crs_canon.specs.MainTheorem.{IsAccepted, IsItsRefusal, MainTheorem, SpellSame}

abbrev EqualWhereSame : Level → Type 0
EqualWhereSame level =
    (a b : Crs) (first second : List ℕ) → IsCrs a → IsCrs b → IsCanonicalText level a first → IsCanonicalText level b second →
    (first ≡ second) ↔ SameCrs level a b

abbrev SpellsOne : Type 0
SpellsOne = (text : List ℕ) (a b : Crs) → Spells text a → Spells text b → a ≡ b

-- a normal text is its own canonical text
pub its-own : (level : Level) (bytes : List ℕ) (crs : Crs) → IsSamenessOf IsCrs (SameCrs level) → IsCrs crs →
    IsNormalText level bytes → Spells bytes crs → IsCanonicalOf level bytes bytes
its-own level bytes crs laws is normal spells =
    (crs, spells, record { normal = normal; value = crs; spells = spells; same = laws.reflexive crs is })

pub main : (level : Level) → ((crs : Crs) → IsCrs crs → (bytes : List ℕ) × IsCanonicalText level crs bytes)
    → EqualWhereSame level → IsSamenessOf IsCrs (SameCrs level)
    → ((text : List ℕ) (crs : Crs) → Spells text crs → IsCrs crs) → SpellsOne
    → ((text : List ℕ) (a b : RefusedAt) → Refuses text a → Refuses text b → a ≡ b)
    → ((text : List ℕ) → IsAccepted text ⊎ ((fault : RefusedAt) × Refuses text fault))
    → MainTheorem level
main level there equal laws sound one refusal either = record {
  there = λ text (crs, spells). let found = there crs (sound text crs spells) in (found.0, (crs, spells, found.1));
  one = λ text a b (x, sx, cx) (y, sy, cy). (equal x y a b (sound text x sx) (sound text y sy) cx cy).1
      (subst (SameCrs level x) (one text x y sx sy) (laws.reflexive x (sound text x sx)));
  equal = λ first second a b x y sx sy (p, sp, cp) (q, sq, cq).
      equal x y a b (sound first x sx) (sound second y sy)
      (subst (λ crs. IsCanonicalText level crs a) (one first p x sp sx) cp)
      (subst (λ crs. IsCanonicalText level crs b) (one second q y sq sy) cq);
  accepted = λ text bytes (crs, spells, canonical). (canonical.value, canonical.spells);
  same = λ text bytes x y (crs, spells, canonical) sx sy.
      subst (λ v. SameCrs level x v) (one bytes canonical.value y canonical.spells sy)
      (subst (λ v. SameCrs level v canonical.value) (one text crs x spells sx) canonical.same);
  own = λ text bytes (crs, spells, c). its-own level bytes c.value laws (sound bytes c.value c.spells) c.normal c.spells;
  refused = λ text none. answer text none (either text);
}
  where
    answer : (text : List ℕ) → ¬ (IsAccepted text) → (IsAccepted text ⊎ ((fault : RefusedAt) × Refuses text fault))
        → (refusal : RefusedAt) × IsItsRefusal text refusal
    answer text none (inl accepted) = absurd (none accepted)
    answer text none (inr (fault, refuses)) =
        (fault, record { refused = refuses; alone = λ other others. refusal text other fault others refuses })

-- ---- what a caller knows of two answers

pub answers-equal : (level : Level) → MainTheorem level → (first second a b : List ℕ) →
    IsCanonicalOf level first a → IsCanonicalOf level second b → (a ≡ b) ↔ SpellSame level first second
answers-equal level main first second a b (x, sx, cx) (y, sy, cy) = (
  λ same. (x, y, sx, sy, (main.equal first second a b x y sx sy (x, sx, cx) (y, sy, cy)).0 same),
  λ (p, q, sp, sq, same). (main.equal first second a b p q sp sq (x, sx, cx) (y, sy, cy)).1 same,
)

pub answer-own : (level : Level) → MainTheorem level → (text bytes again : List ℕ) →
    IsCanonicalOf level text bytes → IsCanonicalOf level bytes again → again ≡ bytes
answer-own level main text bytes again canonical other =
    main.one bytes again bytes other (main.own text bytes canonical)

pub canons-equal : ((level : Level) → MainTheorem level) → (first second : List ℕ) (a b : CanonicalText) →
    IsCanonicalOf a.level first a.bytes → IsCanonicalOf b.level second b.bytes →
    (a ≡ b) ↔ ((a.level ≡ b.level) × SpellSame a.level first second)
canons-equal main first second a b ca cb = (
  λ same.
      let levels : a.level ≡ b.level = ap (λ canon. canon.level) same in
      (levels, (equal levels).0 (ap (λ canon. canon.bytes) same)),
  λ (levels, same). λ i. record { bytes = (equal levels).1 same i; level = levels i },
)
  where
    equal : a.level ≡ b.level → (a.bytes ≡ b.bytes) ↔ SpellSame a.level first second
    equal levels =
        answers-equal a.level (main a.level) first second a.bytes b.bytes ca (subst (λ l. IsCanonicalOf l second b.bytes) (sym levels) cb)
