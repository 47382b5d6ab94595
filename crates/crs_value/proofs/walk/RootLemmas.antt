-- The judge of a whole text: what it answers of the root.
use Rattle.std.proofs.Common.{◌≡◌, Bool, true, false, inl, inr, Option, Some, None, refl, sym, ◌∙◌, subst}
use Rattle.std.proofs.lemmas.Option.{same_Some}
use Rattle.crs_text.specs.inner.Prelude.{Item, RefusedAt}
use Rattle.crs_shape.specs.declared.class.Class.{Class}
use Rattle.crs_shape.specs.inner.Prelude.{first_inside, Shaped, class_of_root, misplaced, AtRoot, Inside, IsFree, IsOnly}
use Rattle.crs_value.specs.Checks.{IsLeast, Breaks}
use Rattle.crs_value.specs.inner.Judged.{Gives, Judged}
use Rattle.crs_value.specs.Spells.{RefusesCrs}
use Rattle.crs_value.proofs.walk.JudgedLemmas.{fresh-least}
use Rattle.crs_value.proofs.one.RootLemmas.{NoFaultIsShape}

abbrev NoneIsShape : Type 0
NoneIsShape = (c : Class) (item : Item) → first_inside c item ≡ None → Shaped c item

pub root-free : NoFaultIsShape → (item : Item) (c : Class) → class_of_root item ≡ Some c → Shaped c item → IsFree (AtRoot item)
root-free law item c e shaped fault (inl h) = let k : None ≡ Some c = sym h.0 ∙ e in cc
root-free law item c e shaped fault (inr (d, h)) =
    let P : Class → Type 0 = λ x. Inside x item fault in
    (law c item).1 shaped fault (subst P (same_Some d c (sym h.0 ∙ e)) h.1)

pub root-misplaced : (tree item : Item) (refusal : RefusedAt) → item ≡ tree → class_of_root item ≡ None → refusal ≡ misplaced item → RefusesCrs tree refusal
root-misplaced tree item refusal same none is = let P : Item → Type 0 = λ i. RefusesCrs i refusal in subst P same (inl (inl (none, is)))

pub root-unbroken : NoneIsShape → NoFaultIsShape → (tree item : Item) (c : Class) (ok : Bool) → item ≡ tree → class_of_root tree ≡ Some c → Judged c item None ok None →
    IsFree (AtRoot tree) × ((f : RefusedAt) → Breaks c item f → ⊥)
root-unbroken law shape tree item c ok same root judged = by (first_inside c item) refl ok judged
  where
    by : (w : Option RefusedAt) → first_inside c item ≡ w → (b : Bool) → Gives w None (Breaks c item) b None → IsFree (AtRoot tree) × ((f : RefusedAt) → Breaks c item f → ⊥)
    by None e true h = (root-free shape tree c root (subst (Shaped c) same (law c item e)), λ f k. h f (inr k))
    by None e false h = absurd h
    by (Some fault) e true h = absurd h
    by (Some fault) e false h = cc

pub root-broken : NoneIsShape → ((c : Class) (item : Item) (fault : RefusedAt) → first_inside c item ≡ Some fault → IsOnly (Inside c item) fault) → NoFaultIsShape → (tree item : Item) (c : Class)
    (ok : Bool) (refusal : RefusedAt) → item ≡ tree → class_of_root tree ≡ Some c → Judged c item None ok (Some refusal) → RefusesCrs tree refusal
root-broken law only shape tree item c ok refusal same root judged = by (first_inside c item) refl ok judged
  where
    by : (w : Option RefusedAt) → first_inside c item ≡ w → (b : Bool) → Gives w None (Breaks c item) b (Some refusal) → RefusesCrs tree refusal
    by None e true h =
        let P : Item → Type 0 = λ i. IsLeast (Breaks c i) (Some refusal) in
        inr (record {
          class_read = c;
          root = root;
          shaped = root-free shape tree c root (subst (Shaped c) same (law c item e));
          first = subst P same (fresh-least (Breaks c item) (Some refusal) h);
        })
    by None e false h = absurd h
    by (Some fault) e true h = absurd h
    by (Some fault) e false h =
        let P : Item → Type 0 = λ i. Inside c i refusal in
        inl (inr (c, (root, subst P same (subst (Inside c item) (sym (same_Some refusal fault h)) (only c item fault e).0))))
