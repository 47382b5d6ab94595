-- Each text is spelled or refused, with a number of a refusal at a place within it.
use Rattle.std.proofs.Common.{◌≡◌, ℕ, ◌<◌, ◌≤◌, length, ◌⊎◌, ⊎_elim, inl, inr, Option, Some, None, List, refl, subst, arith}
use Rattle.crs_text.specs.inner.Prelude.{Item, RefusedAt, SpellsNode, RefusesText, AreFormed}
use Rattle.crs_shape.specs.declared.class.Class.{Class}
use Rattle.crs_shape.specs.inner.Prelude.{IsFree, AtRoot, IsPlaceIn, IsShapeNumber, class_of_root, misplaced}
use Rattle.crs_value.specs.declared.values.crs.Crs.{Crs}
use Rattle.crs_value.specs.Checks.{IsLeast, Breaks}
use Rattle.crs_value.specs.ReadsCrs.{ReadsCrs}
use Rattle.crs_value.specs.Spells.{SpellsCrs, Spells, IsRefusalNumber, Refuses}
use Rattle.crs_value.proofs.found.ArgumentLemmas.{SlotsCount}
use Rattle.crs_value.proofs.checked.CheckLemmas.{DenotesOne}
use Rattle.crs_value.proofs.checked.PlaceLemmas.{node-within}
use Rattle.crs_value.proofs.some.FormedLemmas.{Numbers}
use Rattle.crs_value.proofs.some.LeastLemmas.{HasLeast, breaks-least}
use Rattle.crs_value.proofs.some.CrsLemmas.{crs-some}
use Rattle.crs_value.proofs.one.RootLemmas.{NoFaultIsShape, root-shaped, root-among}

abbrev pub NodeOrRefusal : Type 0
NodeOrRefusal = (bytes : List ℕ) → ((item : Item) × SpellsNode bytes item) ⊎ ((n place : ℕ) × RefusesText bytes n place)

abbrev pub FreeOrFault : Type 0
FreeOrFault = (item : Item) → IsFree (AtRoot item) ⊎ ((fault : RefusedAt) × AtRoot item fault)

abbrev pub NodeIsFormed : Type 0
NodeIsFormed = (bytes : List ℕ) (item : Item) → SpellsNode bytes item → AreFormed item

abbrev pub TextAnswer : List ℕ → Type 0
TextAnswer text = ((value : Crs) × Spells text value) ⊎ ((fault : RefusedAt) × Refuses text fault)

-- a root of its shape that breaks nothing spells a value
pub judged-spells : Numbers → SlotsCount → NoFaultIsShape → (item other : Item) (c : Class) → other ≡ item → class_of_root item ≡ Some c → IsFree (AtRoot item) → AreFormed other → ((fault : RefusedAt) → Breaks c other fault → ⊥)
    → (value : Crs) × SpellsCrs item value
judged-spells numbers slots law item other c same e free formed unbroken =
    let P : Item → Type 0 = λ i. (fault : RefusedAt) → Breaks c i fault → ⊥ in
    let value = crs-some numbers slots other c (root-among item c e) (record { formed = formed; shaped = root-shaped law item other c same e free; unbroken = unbroken }) in
    let R : Item → Type 0 = λ i. ReadsCrs c i value.0 in
    (value.0, record { class_read = c; root = e; shaped = free; unbroken = subst P same unbroken; reads = subst R same value.1 })

abbrev pub TextWithin : Type 0
TextWithin = (bytes : List ℕ) (n place : ℕ) → RefusesText bytes n place → (1 ≤ n) × (n ≤ 8) × (place ≤ length bytes)

abbrev pub ShapeWithin : Type 0
ShapeWithin = (item : Item) (fault : RefusedAt) → AtRoot item fault →
    IsShapeNumber fault.number × IsPlaceIn item fault.place

abbrev pub PlacesBelow : Type 0
PlacesBelow = (bytes : List ℕ) (item : Item) (place : ℕ) → SpellsNode bytes item → IsPlaceIn item place →
    place < length bytes

module _ (numbers : Numbers) (one : DenotesOne) (slots : SlotsCount) (shape : NoFaultIsShape) (formed : NodeIsFormed) where
  broken : (text : List ℕ) (item : Item) (c : Class) → SpellsNode text item → class_of_root item ≡ Some c → IsFree (AtRoot item) → HasLeast (length text) (Breaks c item)
  broken text item c spells e free =
      breaks-least (length text) numbers one c item
      (record { shaped = root-shaped shape item item c refl e free; formed = formed text item spells; within = node-within text item spells })

  pub refused-within : TextWithin → ShapeWithin → PlacesBelow → (text : List ℕ) (fault : RefusedAt) → Refuses text fault → IsRefusalNumber fault.number × (fault.place ≤ length text)
  refused-within law within below text fault (inl x) = let h = law text fault.number fault.place x in (inl (h.0, h.1), h.2)
  refused-within law within below text fault (inr (item, (spells, inl x))) =
      let h = within item fault x in
      let under = below text item fault.place spells h.1 in
      (inr (inl (omega (arith, h.0))), omega (arith, under))
  refused-within law within below text fault (inr (item, (spells, inr x))) =
      let h = (broken text item x.class_read spells x.root x.shaped).0 fault x.first.0 in (inr (inr h.0), h.1)

  checked : (text : List ℕ) (item : Item) (c : Class) → SpellsNode text item → class_of_root item ≡ Some c → IsFree (AtRoot item) → (o : Option RefusedAt) → IsLeast (Breaks c item) o → TextAnswer text
  checked text item c spells e free (Some fault) least = inr (fault, inr (item, (spells, inr (record { class_read = c; root = e; shaped = free; first = least }))))
  checked text item c spells e free None unbroken =
      let value = judged-spells numbers slots shape item item c refl e free (formed text item spells) unbroken in inl (value.0, (item, (spells, value.1)))

  free-answer : (text : List ℕ) (item : Item) → SpellsNode text item → IsFree (AtRoot item) → TextAnswer text
  free-answer text item spells free =
      elim (class_of_root item) as (λ o. class_of_root item ≡ o → TextAnswer text) [
        | None ↦ λ e. absurd (free (misplaced item) (inl (e, refl)))
        | Some c ↦ λ e. let least = (broken text item c spells e free).1 in checked text item c spells e free least.0 least.1
      ] refl

  pub text-answer : NodeOrRefusal → FreeOrFault → (text : List ℕ) → TextAnswer text
  text-answer nodes decided text = ⊎_elim of-node (λ refused. inr (record { number = refused.0; place = refused.1 }, inl refused.2)) (nodes text)
    where
      of-node : (item : Item) × SpellsNode text item → TextAnswer text
      of-node (item, spells) = ⊎_elim (free-answer text item spells) (λ found. inr (found.0, inr (item, (spells, inl found.1)))) (decided item)
