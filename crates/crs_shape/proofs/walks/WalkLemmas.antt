-- A walk over a row of slots, step by step.
use Rattle.std.proofs.Common.{◌≡◌, ℕ, suc, ◌+◌, ◌<◌, ◌≤◌, Bool, true, false, not, ◌&&◌, if◌then◌else◌, inl, inr, Some, None, List, [], ◌∷◌, length, drop, map, get_or, refl, sym, ◌∙◌, ap, add-one}
use Rattle.std.proofs.Math.Bool.{and-true, and-false}
use Rattle.std.proofs.Math.Seq.{drop-cons}
use Rattle.std.proofs.lemmas.Bool.{cases_Bool}
use Rattle.std.proofs.lemmas.List.{drop-map, drop_all}
use Rattle.crs_shape.specs.declared.class.Class.{Class}
use Rattle.crs_shape.specs.declared.slot.Slot.{Slot}
use Rattle.crs_shape.specs.declared.fitting.Walk.{Walk}
use Rattle.crs_shape.specs.Shape.{SlotParts, shown, takes}
use Rattle.crs_shape.specs.inner.Walk.{again, left, after, may_end, left_of}

pub row_at : (row : List Slot) (i : ℕ) (d : Slot) → i < length row → drop i (map shown row) ≡ shown (get_or row i d) ∷ drop (i + 1) (map shown row)
row_at row i d h =
    drop-map shown i row ∙ ap (map shown) (drop-cons row i d h) ∙ ap (λ r. shown (get_or row i d) ∷ r) (sym (drop-map shown (suc i) row))
    ∙ ap (λ n. shown (get_or row i d) ∷ drop n (map shown row)) (sym (add-one i))

pub row_end : (row : List Slot) (i : ℕ) → length row ≤ i → drop i (map shown row) ≡ []
row_end row i h = drop-map shown i row ∙ ap (map shown) (drop_all i row h)

-- a slot that has an argument already isn't required any more
left-front : (f : Bool) (s : SlotParts) (ss : List SlotParts) → left f (s ∷ ss) ≡ record { classes = s.classes; required = s.required && not f; many = s.many } ∷ ss
left-front true s ss = rw (and-false s.required) refl
left-front false s ss = rw (and-true s.required) refl

left-none : (f : Bool) → left f [] ≡ []
left-none false = refl
left-none true = refl

-- one step of a walk at a place of a row

step_at : (row : List Slot) (at : ℕ) (d : Slot) (f : Bool) (c : Class) → at < length row → after (left f (drop at (map shown row))) c
    ≡ (if takes (shown (get_or row at d)) c
    then Some (if (get_or row at d).many then again (shown (get_or row at d)) ∷ drop (at + 1) (map shown row) else drop (at + 1) (map shown row))
    else (if (get_or row at d).required && not f then None else after (drop (at + 1) (map shown row)) c))
step_at row at d f c h =
    ap (λ ss. after (left f ss) c) (row_at row at d h) ∙ ap (λ ss. after ss c) (left-front f (shown (get_or row at d)) (drop (at + 1) (map shown row)))

end_at : (row : List Slot) (at : ℕ) (d : Slot) (f : Bool) → at < length row →
    may_end (left f (drop at (map shown row))) ≡ (not ((get_or row at d).required && not f) && may_end (drop (at + 1) (map shown row)))
end_at row at d f h = ap (λ ss. may_end (left f ss)) (row_at row at d h) ∙ ap may_end (left-front f (shown (get_or row at d)) (drop (at + 1) (map shown row)))

pub stands_here : (row : List Slot) (at : ℕ) (d : Slot) (f taken : Bool) (c : Class) (w : Walk) → at < length row →
    taken ≡ takes (shown (get_or row at d)) c → taken ≡ true →
    ((get_or row at d).many ≡ true → w ≡ record { at = at; filled = true }) →
    ((get_or row at d).many ≡ false → w ≡ record { at = at + 1; filled = false }) →
    Some (left_of row w) ≡ after (left f (drop at (map shown row))) c
stands_here row at d f taken c w h e t many few = elim (cases_Bool (get_or row at d).many) [
  | inl m ↦
      ap (λ x. Some (left_of row x)) (many m) ∙ ap (λ ss. Some (left true ss)) (row_at row at d h)
      ∙ sym (step_at row at d f c h ∙ rw (sym e ∙ t, m) refl)
  | inr m ↦ ap (λ x. Some (left_of row x)) (few m) ∙ sym (step_at row at d f c h ∙ rw (sym e ∙ t, m) refl)
]

-- past a slot that doesn't take it, unless that one waits
pub passes_by : (row : List Slot) (at : ℕ) (d : Slot) (f taken waits : Bool) (c : Class) → at < length row →
    taken ≡ takes (shown (get_or row at d)) c → taken ≡ false → waits ≡ ((get_or row at d).required && not f) →
    (if waits then None else after (drop (at + 1) (map shown row)) c) ≡ after (left f (drop at (map shown row))) c
passes_by row at d f taken waits c h e t g = sym (step_at row at d f c h ∙ rw (sym e ∙ t, sym g) refl)

pub goes_nowhere : (row : List Slot) (at : ℕ) (f : Bool) (c : Class) → length row ≤ at → None ≡ after (left f (drop at (map shown row))) c
goes_nowhere row at f c h = sym (ap (λ x. after (left f x) c) (row_end row at h) ∙ ap (λ x. after x c) (left-none f))

pub ends_by : (row : List Slot) (at : ℕ) (d : Slot) (f waits : Bool) → at < length row → waits ≡ ((get_or row at d).required && not f) →
    (not waits && may_end (drop (at + 1) (map shown row))) ≡ may_end (left f (drop at (map shown row)))
ends_by row at d f waits h g = sym (end_at row at d f h ∙ rw (sym g) refl)

pub ends_here : (row : List Slot) (at : ℕ) (f : Bool) → length row ≤ at → true ≡ may_end (left f (drop at (map shown row)))
ends_here row at f h = sym (ap (λ x. may_end (left f x)) (row_end row at h) ∙ ap may_end (left-none f))
