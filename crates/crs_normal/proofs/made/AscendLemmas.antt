-- Lists in order ascend, and have no other members.
use Rattle.std.proofs.Common.{◌≢◌, List, [], ◌∷◌, map, ◌++◌, refl, sym, subst, inl}
use Rattle.std.proofs.lemmas.List.{append-nil}
use Rattle.crs_text.specs.inner.Prelude.{Item, item_text}
use Rattle.crs_value.specs.Sound.{Each}
use Rattle.crs_normal.specs.inner.Prelude.{IsIn, Ascends, Below, in_order}
use Rattle.crs_normal.specs.Normal.{Ascend}
use Rattle.crs_normal.proofs.members.SetLemmas.{in_order-ascends, all-old}
use Rattle.crs_normal.proofs.texts.SegmentLemmas.{each-map, set-kept}

-- ---- as items

items-ascend : {A : Type 0} (spell : A → Item) (xs : List A) → Ascends (λ x. item_text (spell x)) xs →
    Ascend (map spell xs)
items-ascend spell [] h = tt
items-ascend spell (x ∷ xs) h =
    (each-map spell (λ other. Below (item_text (spell x)) (item_text other)) xs h.0, items-ascend spell xs h.1)

-- each member of a set of normal values is normal, as an item
pub set-each : {V A : Type 0} (norm : V → A) (spell : A → Item) (P : V → Type 0) (Q : Item → Type 0) (xs : List V) →
    Each P xs →
    ((x : V) → P x → Q (spell (norm x))) → Each Q (map spell (in_order (λ a. item_text (spell a)) (map norm xs)))
set-each norm spell P Q xs h f =
    each-map spell Q (in_order (λ a. item_text (spell a)) (map norm xs))
    (set-kept norm (λ a. item_text (spell a)) P (λ a. Q (spell a)) f xs h)

-- after which none of them comes
pub set-ascends : {A : Type 0} (spell : A → Item) (xs : List A) →
    Ascend (map spell (in_order (λ a. item_text (spell a)) xs) ++ [])
set-ascends spell xs =
    subst Ascend (sym (append-nil (map spell (in_order (λ a. item_text (spell a)) xs))))
    (items-ascend spell (in_order (λ a. item_text (spell a)) xs) (in_order-ascends (λ a. item_text (spell a)) xs))

-- ---- a set of some members has some

pub set-some : {V A : Type 0} (norm : V → A) (spell : A → Item) (xs : List V) → xs ≢ [] →
    map spell (in_order (λ a. item_text (spell a)) (map norm xs)) ≢ []
set-some norm spell [] h = absurd (h refl)
set-some {A = A} norm spell (x ∷ xs) h =
    by (in_order (λ a. item_text (spell a)) (map norm (x ∷ xs)))
    (all-old (λ a. item_text (spell a)) (norm x) (norm x ∷ []) (map norm xs) (inl refl))
  where
    by : (ys : List A) → IsIn (norm x) ys → map spell ys ≢ []
    by [] p e = p
    by (y ∷ ys) p e = cc
