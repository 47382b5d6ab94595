-- Arguments of a node that breaks no check break none.
use Rattle.std.proofs.Common.{◌≡◌, ℕ, ◌≤◌, length, drop, true, false, inl, inr, Option, List, [], ◌∷◌, if◌then◌else◌, refl, sym, ◌∙◌, ap, subst, arith}
use Rattle.crs_text.specs.inner.Prelude.{Item, End, RefusedAt, arguments}
use Rattle.crs_shape.specs.declared.class.Class.{Class}
use Rattle.crs_shape.specs.inner.Prelude.{SlotParts, slots_of}
use Rattle.crs_value.specs.inner.Prelude.{AnyOf, AtClass, Breaks, BreaksAmong, Own, is_a, those, ReadsElse, ReadsFirst, IsRepeated}
use Rattle.crs_value.specs.Sound.{Each}
use Rattle.crs_value.specs.declared.values.level.Level.{Level}
use Rattle.crs_normal.proofs.WithoutPlaces.{without_places}
use Rattle.crs_normal.proofs.members.MemberLemmas.{Alone}
use Rattle.crs_normal.proofs.normal.FormLemmas.{Form, Looked, Opened, by-slots, found-in}
use Rattle.crs_normal.proofs.read.ViewLemmas.{onto, those-at}

abbrev pub IsUnbroken : Class → Item → Type 0
IsUnbroken c item = (fault : RefusedAt) → ¬ (Breaks c item fault)

-- the item breaks no check, and this is read from it
abbrev pub Checked : {V : Type 0} → Class → (Item → V → Type 0) → Item → V → Type 0
Checked c R item value = IsUnbroken c item × R item value

pub first-checked : {V : Type 0} (d : Class) (R : Item → V → Type 0) (items : List Item) (value : V) →
    Each (IsUnbroken d) items → ReadsFirst R items value →
    ReadsFirst (Checked d R) items value
first-checked d R items value free reads = grind (arith, free, reads)

-- a node that breaks no check breaks none by itself and none in its arguments
pub unbroken-by-slots : {V : Type 0} {level : Level} {parent c : Class} {slot : SlotParts} {slots : List SlotParts}
    {R : Item → V → Type 0} {spell : V → Item} → slots_of c ≡ slot ∷ slots →
    ((item : Item) (keyword : List ℕ) (x : V) → Opened level c (slot ∷ slots) item keyword →
    ((fault : RefusedAt) → ¬ (Own c item fault)) → ((fault : RefusedAt) → ¬ (BreaksAmong c (arguments item) fault)) →
    R item x → without_places item ≡ spell x) → Form level parent c (Checked c R) spell
unbroken-by-slots are_slots by =
    by-slots are_slots (λ item keyword x o checked. by item keyword x o
    (λ fault b. checked.0 fault (o.breaks fault (inl b))) (λ fault b. checked.0 fault (o.breaks fault (inr b))) checked.1)

-- what may not be repeated
pub once-only : (found : List Item) {front : List Item} → found ≡ front →
    ((fault : RefusedAt) → ¬ (AnyOf IsRepeated (drop 1 found) fault)) → length front ≤ 1
once-only found e free = subst (λ (xs : List Item). length xs ≤ 1) e (few found free)
  where
    few : (xs : List Item) → ((fault : RefusedAt) → ¬ (AnyOf IsRepeated (drop 1 xs) fault)) → length xs ≤ 1
    few [] free = omega arith
    few (item ∷ []) free = omega arith
    few (item ∷ other ∷ others) free = absurd (free _ (inl refl))

pub unbroken-in : {level : Level} {c : Class} {slots : List SlotParts} {item : Item} {keyword : List ℕ}
    (o : Opened level c slots item keyword) (d : Class) →
    ((fault : RefusedAt) → ¬ (BreaksAmong c (arguments item) fault)) →
    Each (IsUnbroken d) (those c d (arguments item))
unbroken-in {c = c} {item = item} o d =
    those-at c d IsUnbroken (λ items. (fault : RefusedAt) → ¬ (BreaksAmong c items fault))
    (λ i items e named shaped free. (
      λ fault b. free fault (inl (subst (λ (o : Option Class). AtClass o (λ x. Breaks x i fault)) (sym named) b)),
      λ fault b. free fault (inr b),
    )) o.kept.classes (arguments item) o.kept.shaped

-- ---- an item of one of several classes

-- from an item that is of this class the value is read, and else as the rest says
pub by-class : {V P : Type 0} {level : Level} {c : Class} {slots : List SlotParts} {item : Item} {keyword : List ℕ}
    (o : Opened level c slots item keyword) (R : Item → V → Type 0) (otherwise : V → Type 0) (d : Class)
    {front : List Item} (p : Alone front) {value : V} → Looked o d (those c d (onto front End)) →
    ReadsElse R (those c d (arguments item)) otherwise value →
    (((Good : Item → Type 0) → Each Good (those c d (arguments item)) → Good p.0) → R p.0 value → P) →
    (is_a c d p.0 ≡ false → otherwise value → P) → P
by-class {P = P} {c = c} o R otherwise d p {value = value} same reads this other =
    let found = found-in o d same ∙ ap (λ xs. those c d (onto xs End)) p.1 in
    elim (is_a c d p.0) as (λ b. is_a c d p.0 ≡ b → P) [
      | true ↦ λ is.
          let e = found ∙ ap (λ b. if b then p.0 ∷ [] else []) is in
          this (λ Good good. (subst (Each Good) e good).0)
          (subst (λ (xs : List Item). ReadsElse R xs otherwise value) e reads)
      | false ↦ λ is.
          other is (subst (λ (xs : List Item). ReadsElse R xs otherwise value) (found
          ∙ ap (λ b. if b then p.0 ∷ [] else []) is) reads)
    ] refl

pub first-or-none : {V : Type 0} (R : Item → V → Type 0) (found : List Item) (value : V) → ReadsFirst R found value →
    ReadsElse R found (λ v. ⊥) value
first-or-none R found value reads = grind (arith, reads)
