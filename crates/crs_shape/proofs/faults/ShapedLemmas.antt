-- An item has no fault of shape exactly where it is shaped.
use Rattle.std.proofs.Common.{◌≡◌, ℕ, Bool, true, false, inl, inr, Option, Some, None, List, [], ◌∷◌, ◌++◌, if◌then◌else◌, refl, sym, ◌∙◌, subst}
use Rattle.std.proofs.lemmas.Bool.{true≢false}
use Rattle.std.proofs.lemmas.List.{append-nil}
use Rattle.crs_text.specs.inner.Prelude.{Item, leaf, node, Siblings, End, More, RefusedAt}
use Rattle.crs_shape.specs.declared.class.Class.{Class}
use Rattle.crs_shape.specs.Keywords.{is_keyword}
use Rattle.crs_shape.specs.Shape.{SlotParts, slots_of, Allowed}
use Rattle.crs_shape.specs.ShapeFault.{Shaped, AreShaped, class_in, missing, IsFree, Stands, Inside, Among}
use Rattle.crs_shape.specs.inner.Walk.{after, may_end, or_later, step_to, step_as, fault_by, fault_from, first_inside, first_in_arguments}
use Rattle.crs_shape.proofs.walks.TableLemmas.{apart_tables}
use Rattle.crs_shape.proofs.walks.SlotLemmas.{end-allowed}
use Rattle.crs_shape.proofs.faults.FaultLemmas.{IsExact, Reached, reached-start, reached-more, one-more, one-less, exact-free, exact_inside}

-- what shaped arguments are, as a pair that the walk gives back
abbrev Left : Class → List Class → Siblings → Type 0
Left c before items = (ds : List Class) × (AreShaped c ds items × Allowed (slots_of c) (before ++ ds))

-- from the fault by a step, if there is none
by-step : (item : Item) (Goal : Type 0) (within : Class → Option RefusedAt) (later : List SlotParts → Option RefusedAt) (slots : List SlotParts) (o : Option Class) →
    ((d : Class) (next : List SlotParts) → o ≡ Some d → after slots d ≡ Some next → within d ≡ None → later next ≡ None → Goal) →
    fault_by item within later (step_as slots o) ≡ None → Goal
by-step item Goal within later slots None go e = cc
by-step item Goal within later slots (Some d) go e =
    elim (after slots d) as (λ n. after slots d ≡ n → fault_by item within later (step_to d n) ≡ None → Goal) [
      | None ↦ λ f h. cc
      | Some next ↦ λ f h. both (within d) refl next f h
    ] refl e
  where
    both : (w : Option RefusedAt) → within d ≡ w → (next : List SlotParts) → after slots d ≡ Some next → or_later w (later next) ≡ None → Goal
    both None g next f h = go d next refl f g h
    both (Some fault) g next f h = cc

by-test : (b : Bool) (own : RefusedAt) (found : Option RefusedAt) → (if b then found else Some own) ≡ None → (b ≡ true) × (found ≡ None)
by-test true own found e = (refl, e)
by-test false own found e = cc

mutual
  unfolding first_inside first_in_arguments

  shaped-none : (c : Class) (item : Item) → first_inside c item ≡ None → Shaped c item
  shaped-none c (leaf kind place raw) e = (by-test _ _ None e).0
  shaped-none c (node place keyword square first others close) e =
      let h = by-test (is_keyword c keyword) _ (fault_from c (slots_of c) first (λ d. first_inside d first) (λ next. first_in_arguments c close next others)) e in (
        h.0,
        by-step first _ (λ d. first_inside d first) (λ next. first_in_arguments c close next others) (slots_of c) (class_in c first)
            (λ d next named f w l.
            let rest : Left c (d ∷ []) others =
            left-none c close (d ∷ []) next others (reached-more (slots_of c) [] (slots_of c) next d (reached-start (slots_of c) (apart_tables c)) f) l in
            (d, (rest.0, (named, (shaped-none d first w, (rest.1.0, rest.1.1))))))
            h.1,
      )

  left-none : (c : Class) (close : ℕ) (before : List Class) (slots : List SlotParts) (items : Siblings) → Reached (slots_of c) before slots →
      first_in_arguments c close slots items ≡ None → Left c before items
  left-none c close before slots End r e = ([], (tt, r.back [] (end-allowed slots (by-test (may_end slots) (missing close) None e).0)))
  left-none c close before slots (More item items) r e =
      by-step item _ (λ d. first_inside d item) (λ next. first_in_arguments c close next items) slots (class_in c item)
      (λ d next named f w l.
      let rest : Left c (before ++ d ∷ []) items =
      left-none c close (before ++ d ∷ []) next items (reached-more (slots_of c) before slots next d r f) l in
      (d ∷ rest.0, ((named, (shaped-none d item w, rest.1.0)), one-less (slots_of c) before d rest.0 rest.1.1)))
      e

shaped-inside : (c : Class) (item : Item) → IsFree (Inside c item) → first_inside c item ≡ None
shaped-inside c item free = by (first_inside c item) (exact_inside c item)
  where
    by : (o : Option RefusedAt) → IsExact (Inside c item) o → o ≡ None
    by None h = refl
    by (Some fault) h = absurd (free fault h.0)

pub free-shaped : (c : Class) (item : Item) → IsFree (Inside c item) → Shaped c item
free-shaped c item free = shaped-none c item (shaped-inside c item free)

-- and back

stands-by : (c : Class) (before : List Class) (item : Item) (d : Class) (ds : List Class) → class_in c item ≡ Some d → Allowed (slots_of c) (before ++ (d ∷ ds)) →
    Stands c before item d
stands-by c before item d ds named allowed = record { named = named; begins = (ds, one-more (slots_of c) before d ds allowed) }

mutual
  pub shaped-free : (c : Class) (item : Item) → Shaped c item → IsFree (Inside c item)
  shaped-free c (leaf kind place raw) shaped fault h = true≢false (sym shaped ∙ h.0)
  shaped-free c (node place keyword square first others close) shaped fault (inl h) = true≢false (sym shaped.0 ∙ h.0)
  shaped-free c (node place keyword square first others close) (is, (d, (ds, (named, (inner, (rest, allowed)))))) fault (inr h) =
      exact-free c [] first (λ x f. Inside x first f) (λ before f. Among c close before others f) d
      (stands-by c [] first d ds named allowed) (shaped-free d first inner)
      (among-free c close (d ∷ []) ds others rest allowed) fault h.1

  among-free : (c : Class) (close : ℕ) (before ds : List Class) (items : Siblings) → AreShaped c ds items → Allowed (slots_of c) (before ++ ds) →
      IsFree (Among c close before items)
  among-free c close before [] End shaped allowed fault h =
      h.0 (subst (Allowed (slots_of c)) (append-nil before) allowed)
  among-free c close before (d ∷ ds) End shaped allowed fault h = absurd shaped
  among-free c close before [] (More item items) shaped allowed fault h = absurd shaped
  among-free c close before (d ∷ ds) (More item items) (named, (inner, rest)) allowed fault h =
      exact-free c before item (λ x f. Inside x item f) (λ b f. Among c close b items f) d
      (stands-by c before item d ds named allowed) (shaped-free d item inner)
      (among-free c close (before ++ d ∷ []) ds items rest (one-more (slots_of c) before d ds allowed)) fault h
