-- Items at other places: their classes, their texts and their order are the same.
use Rattle.std.proofs.Common.{◌≡◌, ℕ, ◌+◌, Bool, true, false, List, [], ◌∷◌, ◌++◌, length, map, if◌then◌else◌, inl, inr, refl, sym, ap, ap₂, subst, ◌∙◌}
use Rattle.std.specs.Cmp.Lexicographic.{slice_cmp}
use Rattle.std.specs.Ordering.{nat_cmp}
use Rattle.crs_text.specs.inner.Prelude.{Item, leaf, node, Siblings, End, More, at_place, at_places, item_text, others_text, RefusedAt}
use Rattle.crs_shape.specs.declared.class.Class.{Class}
use Rattle.crs_shape.specs.inner.Prelude.{class_in, is_class}
use Rattle.crs_value.specs.inner.Prelude.{AnyOf, those}
use Rattle.crs_normal.specs.Normal.{Ascend}
use Rattle.crs_value.specs.Sound.{Each}
use Rattle.crs_normal.proofs.members.SetLemmas.{IsBelow}

pub class-at : (c : Class) (p : ℕ) (j : Item) → class_in c (at_place p j) ≡ class_in c j
class-at c p (leaf kind place raw) = refl
class-at c p (node place keyword square first others close) = refl

mutual
  pub text-at : (p : ℕ) (j : Item) → item_text (at_place p j) ≡ item_text j
  text-at p (leaf kind place raw) = refl
  text-at p (node place keyword square first others close) =
      let f = text-at (p + length keyword + 1) first in
      let o = texts-at (p + length keyword + 1 + length (item_text first)) others in
      λ i. keyword ++ 91 ∷ (f i ++ (o i ++ 93 ∷ []))

  pub texts-at : (p : ℕ) (js : Siblings) → others_text (at_places p js) ≡ others_text js
  texts-at p End = refl
  texts-at p (More j js) =
      let f = text-at (p + 1) j in
      let o = texts-at (p + 1 + length (item_text j)) js in
      λ i. 44 ∷ (f i ++ o i)

-- a text's item is at the text's places
mutual
  pub placed-twice : (p q : ℕ) (j : Item) → at_place p (at_place q j) ≡ at_place p j
  placed-twice p q (leaf kind place raw) = refl
  placed-twice p q (node place keyword square first others close) =
      let s : ℕ = q + length keyword + 1 in
      let t : ℕ = s + length (item_text first) in
      rw (text-at s first) (rw (texts-at t others) (rw (placed-twice (p + length keyword + 1) s first)
      (rw (placed-all (p + length keyword + 1 + length (item_text first)) t others) refl)))

  placed-all : (p q : ℕ) (js : Siblings) → at_places p (at_places q js) ≡ at_places p js
  placed-all p q End = refl
  placed-all p q (More j js) =
      rw (text-at (q + 1) j) (rw (placed-twice (p + 1) (q + 1) j)
      (rw (placed-all (p + 1 + length (item_text j)) (q + 1 + length (item_text j)) js) refl))

-- these items are those, each at some place
abbrev pub ArePlaced : List Item → List Item → Type 0
ArePlaced [] [] = Unit {0}
ArePlaced [] (j ∷ js) = ⊥
ArePlaced (x ∷ xs) [] = ⊥
ArePlaced (x ∷ xs) (j ∷ js) = ((p : ℕ) × (x ≡ at_place p j)) × ArePlaced xs js

-- where none of those breaks a check, at any place, none of these does
pub none-of : (Breaks : Item → RefusedAt → Type 0) (items js : List Item) (fault : RefusedAt) → ArePlaced items js →
    Each (λ j. (p : ℕ) → ¬ (Breaks (at_place p j) fault)) js → ¬ (AnyOf Breaks items fault)
none-of Breaks [] [] fault h n b = b
none-of Breaks [] (j ∷ js) fault h n b = h
none-of Breaks (x ∷ items) [] fault h n b = h
none-of Breaks (x ∷ items) (j ∷ js) fault h n (inl b) = n.0 h.0.0 (subst (λ i. Breaks i fault) h.0.1 b)
none-of Breaks (x ∷ items) (j ∷ js) fault h n (inr b) = none-of Breaks items js fault h.1 n.1 b

-- what doesn't depend on places is the same of these as of those
pub same-of : {A : Type 0} (f : Item → A) (items js : List Item) → ArePlaced items js →
    Each (λ j. (p : ℕ) → f (at_place p j) ≡ f j) js → map f items ≡ map f js
same-of f [] [] h s = refl
same-of f [] (j ∷ js) h s = absurd h
same-of f (x ∷ items) [] h s = absurd h
same-of f (x ∷ items) (j ∷ js) h s = ap₂ (λ y ys. y ∷ ys) (ap f h.0.1 ∙ s.0 h.0.0) (same-of f items js h.1 s.1)

if-placed : (b : Bool) (p : ℕ) (j : Item) (xs js : List Item) → ArePlaced xs js →
    ArePlaced (if b then at_place p j ∷ xs else xs) (if b then j ∷ js else js)
if-placed true p j xs js h = ((p, refl), h)
if-placed false p j xs js h = h

pub those-placed : (c e : Class) (s : ℕ) (js : Siblings) → ArePlaced (those c e (at_places s js)) (those c e js)
those-placed c e s End = tt
those-placed c e s (More j js) =
    rw (class-at c (s + 1) j) (if-placed (is_class e (class_in c j)) (s + 1) j
    (those c e (at_places (s + 1 + length (item_text j)) js)) (those c e js)
    (those-placed c e (s + 1 + length (item_text j)) js))

placed-below : (p : ℕ) (j : Item) (xs js : List Item) → ArePlaced xs js → Each (IsBelow item_text j) js →
    Each (IsBelow item_text (at_place p j)) xs
placed-below p j [] [] h b = tt
placed-below p j [] (k ∷ ks) h b = tt
placed-below p j (x ∷ xs) [] h b = absurd h
placed-below p j (x ∷ xs) (k ∷ ks) h b =
    (ap₂ (slice_cmp nat_cmp) (text-at p j) (ap item_text h.0.1 ∙ text-at h.0.0 k) ∙ b.0, placed-below p j xs ks h.1 b.1)

pub placed-ascend : (xs js : List Item) → ArePlaced xs js → Ascend js → Ascend xs
placed-ascend [] [] h a = tt
placed-ascend [] (j ∷ js) h a = tt
placed-ascend (x ∷ xs) [] h a = absurd h
placed-ascend (x ∷ xs) (j ∷ js) h a =
    subst (λ y. Each (IsBelow item_text y) xs × Ascend xs) (sym h.0.1) (
      placed-below h.0.0 j xs js h.1 a.0,
      placed-ascend xs js h.1 a.1,
    )
