-- From a root without a fault of shape to its shape.
use Rattle.std.proofs.Common.{◌≡◌, ◌↔◌, ℕ, true, false, inl, inr, Some, List, [], ◌∷◌, if◌then◌else◌, sym, ◌∙◌, subst}
use Rattle.std.proofs.lemmas.Option.{same_Some}
use Rattle.crs_text.specs.inner.Prelude.{Item, leaf, node, RefusedAt, AreFormed}
use Rattle.crs_shape.specs.declared.class.Class.{Class}
use Rattle.crs_shape.specs.inner.Prelude.{is_keyword, first_named, root_classes, root_named, Shaped, IsFree, Inside, AtRoot, class_of_root}
use Rattle.crs_value.specs.declared.values.crs.Crs.{Crs}
use Rattle.crs_value.specs.Checks.{IsLeast, Breaks}
use Rattle.crs_value.specs.inner.ReadOnce.{IsSound}
use Rattle.crs_value.specs.inner.Arguments.{IsAmong}
use Rattle.crs_value.specs.ReadsCrs.{ReadsCrs}
use Rattle.crs_value.specs.Spells.{SpellsCrs, BreaksFirst, RefusesCrs}
use Rattle.crs_value.proofs.checked.CheckLemmas.{DenotesOne}
use Rattle.crs_value.proofs.one.CrsLemmas.{crs-one}
use Rattle.crs_value.proofs.one.ValueLemmas.{least-one-only}

abbrev pub NoFaultIsShape : Type 0
NoFaultIsShape = (c : Class) (item : Item) → IsFree (Inside c item) ↔ Shaped c item

pub root-shaped : NoFaultIsShape → (item other : Item) (c : Class) → other ≡ item → class_of_root item ≡ Some c → IsFree (AtRoot item) → Shaped c other
root-shaped law item other c same e free =
    let P : Item → Type 0 = λ i. Shaped c i in
    subst P (sym same) ((law c item).0 (λ fault inside. free fault (inr (c, (e, inside)))))

-- a whole text's class is one of five
first-among : (cs : List Class) (word : List ℕ) (c : Class) → first_named cs word ≡ Some c → IsAmong cs c
first-among [] word c e = cc
first-among (d ∷ ds) word c e =
    elim (is_keyword d word) as (λ b. (if b then Some d else first_named ds word) ≡ Some c → IsAmong (d ∷ ds) c) [
      | true ↦ λ h. inl (sym (same_Some d c h))
      | false ↦ λ h. inr (first-among ds word c h)
    ] e

pub root-among : (item : Item) (c : Class) → class_of_root item ≡ Some c → IsAmong root_classes c
unfolding root_named
root-among (leaf kind place raw) c e = cc
root-among (node place keyword square first others close) c e = first-among root_classes keyword c e

class-one : (item : Item) (c d : Class) → class_of_root item ≡ Some c → class_of_root item ≡ Some d → c ≡ d
class-one item c d e f = let h : Some c ≡ Some d = sym e ∙ f in cc

-- the root of items that spell a value breaks nothing
pub spelled-sound : NoFaultIsShape → (item other : Item) (c : Class) {value : Crs} → other ≡ item → class_of_root item ≡ Some c → AreFormed other → SpellsCrs item value → IsSound c other
spelled-sound law item other c same e formed spells =
    let P : Class → Type 0 = λ d. (fault : RefusedAt) → Breaks d item fault → ⊥ in
    let unbroken = subst P (class-one item spells.class_read c spells.root e) spells.unbroken in
    let Q : Item → Type 0 = λ i. (fault : RefusedAt) → Breaks c i fault → ⊥ in
    record { formed = formed; shaped = root-shaped law item other c same e spells.shaped; unbroken = subst Q (sym same) unbroken }

pub spelled-one : DenotesOne → (item : Item) (a b : Crs) → SpellsCrs item a → SpellsCrs item b → a ≡ b
spelled-one law item a b p q =
    let same : q.class_read ≡ p.class_read = class-one item q.class_read p.class_read q.root p.root in
    let P : Class → Type 0 = λ c. ReadsCrs c item b in
    crs-one law p.class_read item a b p.reads (subst P same q.reads)

pub spelled-not-refused : (item : Item) (value : Crs) (fault : RefusedAt) → SpellsCrs item value → RefusesCrs item fault → ⊥
spelled-not-refused item value fault p (inl h) = p.shaped fault h
spelled-not-refused item value fault p (inr h) =
    let same : h.class_read ≡ p.class_read = class-one item h.class_read p.class_read h.root p.root in
    let P : Class → Type 0 = λ c. Breaks c item fault in
    p.unbroken fault (subst P same h.first.0)

pub refused-one : (item : Item) (a b : RefusedAt) → BreaksFirst item a → BreaksFirst item b → a ≡ b
refused-one item a b p q =
    let same : q.class_read ≡ p.class_read = class-one item q.class_read p.class_read q.root p.root in
    let P : Class → Type 0 = λ c. IsLeast (Breaks c item) (Some b) in
    least-one-only (Breaks p.class_read item) a b p.first (subst P same q.first)
