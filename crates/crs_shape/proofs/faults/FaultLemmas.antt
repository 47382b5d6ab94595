-- The fault that the walk finds first is the one that the definition names, and there is no other.
use Rattle.std.proofs.Common.{◌≡◌, ℕ, Bool, true, false, IsTrue, IsFalse, ◌⊎◌, ◌↔◌, ⊎_elim, inl, inr, Option, Some, None, List, [], ◌∷◌, ◌++◌, if◌then◌else◌, refl, sym, ap, ◌∙◌, subst, append_assoc}
use Rattle.std.proofs.lemmas.Bool.{true≢false, false≢true}
use Rattle.std.proofs.lemmas.List.{append-nil}
use Rattle.std.proofs.lemmas.Option.{none-some, same_Some}
use Rattle.crs_text.specs.inner.Prelude.{Item, leaf, node, Siblings, End, More, RefusedAt}
use Rattle.crs_shape.specs.declared.class.Class.{Class}
use Rattle.crs_shape.specs.Keywords.{is_keyword}
use Rattle.crs_shape.specs.Shape.{SlotParts, slots_of, Allowed, Begins, is_apart}
use Rattle.crs_shape.specs.inner.Walk.{after, may_end, or_later, step_to, step_as, step_of, fault_by, fault_from, first_inside, first_in_arguments}
use Rattle.crs_shape.specs.ShapeFault.{AtArgument, class_in, is_of, misplaced, missing, IsFree, IsOnly, Stands, Inside, Among, class_of_root, AtRoot}
use Rattle.crs_shape.proofs.faults.FitLemmas.{step_class}
use Rattle.crs_shape.proofs.walks.SlotLemmas.{Goes, after-apart, goes-along, goes-back, allows-some, end-allowed, allowed-end}
use Rattle.crs_shape.proofs.walks.TableLemmas.{apart_tables}

-- the fault of an argument and of those after it, from the faults inside it and after it
abbrev pub ArgumentFault : Class → List Class → Item → (Class → RefusedAt → Type 0) →
    (List Class → RefusedAt → Type 0) → RefusedAt → Type 0
ArgumentFault parent before item Within Later fault =
    AtArgument parent before item (fault ≡ misplaced item) (λ c. Within c fault)
    (λ c. IsFree (Within c)) (λ b. Later b fault)

-- the fault, if there is one, is the only one
abbrev pub IsExact : (RefusedAt → Type 0) → Option RefusedAt → Type 0
IsExact Fault None = IsFree Fault
IsExact Fault (Some fault) = IsOnly Fault fault

-- these slots are left of a row after arguments of the classes `before`
pub record Reached (row : List SlotParts) (before : List Class) (slots : List SlotParts) : Type 0 where
  pub apart : is_apart slots ≡ true
  pub there : (cs : List Class) → Allowed row (before ++ cs) → Allowed slots cs
  pub back : (cs : List Class) → Allowed slots cs → Allowed row (before ++ cs)

pub reached-start : (row : List SlotParts) → is_apart row ≡ true → Reached row [] row
reached-start row apart = record { apart = apart; there = λ cs h. h; back = λ cs h. h }

-- one more class stands behind those before, or before those behind
pub one-more : (row : List SlotParts) (before : List Class) (c : Class) (cs : List Class) → Allowed row (before ++ (c ∷ cs)) → Allowed row ((before ++ c ∷ []) ++ cs)
one-more row before c cs = subst (Allowed row) (sym (append_assoc before (c ∷ []) cs))

pub one-less : (row : List SlotParts) (before : List Class) (c : Class) (cs : List Class) → Allowed row ((before ++ c ∷ []) ++ cs) → Allowed row (before ++ (c ∷ cs))
one-less row before c cs = subst (Allowed row) (append_assoc before (c ∷ []) cs)

goes : (slots : List SlotParts) → is_apart slots ≡ true → (c : Class) (cs : List Class) → Allowed slots (c ∷ cs) → Goes slots c cs
goes slots apart c cs (runs, (fit, e)) = goes-along slots apart runs fit c cs (sym e)

pub reached-more : (row : List SlotParts) (before : List Class) (slots next : List SlotParts) (c : Class) → Reached row before slots → after slots c ≡ Some next →
    Reached row (before ++ c ∷ []) next
reached-more row before slots next c r e = record {
  apart = after-apart slots c next r.apart e;
  there = λ cs h.
      let g : Goes slots c cs = goes slots r.apart c cs (r.there (c ∷ cs) (one-less row before c cs h)) in
      subst (λ n. Allowed n cs) (same_Some g.0 next (sym g.1.0 ∙ e)) g.1.1;
  back = λ cs h. one-more row before c cs (r.back (c ∷ cs) (goes-back slots c next cs e h));
}

pub reached-begins : (row : List SlotParts) (before : List Class) (slots next : List SlotParts) (c : Class) → Reached row before slots → after slots c ≡ Some next →
    Begins row (before ++ c ∷ [])
reached-begins row before slots next c r e =
    let (more, allowed) = allows-some next (after-apart slots c next r.apart e) in
    (more, (reached-more row before slots next c r e).back more allowed)

pub reached-not : (row : List SlotParts) (before : List Class) (slots : List SlotParts) (c : Class) → Reached row before slots → after slots c ≡ None →
    Begins row (before ++ c ∷ []) → ⊥
reached-not row before slots c r e (more, h) =
    let g : Goes slots c more = goes slots r.apart c more (r.there (c ∷ more) (one-less row before c more h)) in
    none-some g.0 (sym e ∙ g.1.0)

-- what an argument's step says

-- no class is there where there is no step
pub none_stands : (parent : Class) (before : List Class) (slots : List SlotParts) (item : Item) → Reached (slots_of parent) before slots → None ≡ step_of parent slots item →
    (d : Class) → Stands parent before item d → ⊥
none_stands parent before slots item r e d stands = by (after slots d) refl
  where
    by : (o : Option (List SlotParts)) → after slots d ≡ o → ⊥
    by None f = reached-not (slots_of parent) before slots d r f stands.begins
    by (Some next) f =
        let s : step_of parent slots item ≡ Some (d, next) = ap (step_as slots) stands.named ∙ ap (step_to d) f in
        none-some (d, next) (e ∙ s)

pub step_stands : (parent c : Class) (before : List Class) (slots later : List SlotParts) (item : Item) → Reached (slots_of parent) before slots → Some (c, later) ≡ step_of parent slots item →
    Stands parent before item c
step_stands parent c before slots later item r e =
    let s = step_class parent c slots later item e in
    record { named = s.0; begins = reached-begins (slots_of parent) before slots later c r s.1 }

-- faults of kinds that have the same faults are found alike, and of two kinds where one is free

exact-as : (P Q : RefusedAt → Type 0) → ((fault : RefusedAt) → P fault ↔ Q fault) → (found : Option RefusedAt) → IsExact P found → IsExact Q found
exact-as P Q same None free = λ fault x. free fault ((same fault).1 x)
exact-as P Q same (Some g) only = ((same g).0 only.0, λ other x. only.1 other ((same other).1 x))

exact-left : (P Q : RefusedAt → Type 0) → IsFree Q → (found : Option RefusedAt) → IsExact P found → IsExact (λ fault. P fault ⊎ Q fault) found
exact-left P Q free = exact-as P (λ fault. P fault ⊎ Q fault) (λ fault. (inl, ⊎_elim (λ x. x) (λ y. absurd (free fault y))))

exact-right : (P Q : RefusedAt → Type 0) → IsFree P → (found : Option RefusedAt) → IsExact Q found → IsExact (λ fault. P fault ⊎ Q fault) found
exact-right P Q free = exact-as Q (λ fault. P fault ⊎ Q fault) (λ fault. (inr, ⊎_elim (λ x. absurd (free fault x)) (λ y. y)))

-- the fault of an argument and those after it

-- what is at fault in an argument of this class or after it
abbrev OrLater : (Class → RefusedAt → Type 0) → (List Class → RefusedAt → Type 0) → List Class → RefusedAt → Class → Type 0
OrLater Within Later before fault c = Within c fault ⊎ (IsFree (Within c) × Later (before ++ c ∷ []) fault)

pub same_class : (parent : Class) (before : List Class) (item : Item) (c d : Class) → class_in parent item ≡ Some c → Stands parent before item d → d ≡ c
same_class parent before item c d e stands = same_Some d c (sym stands.named ∙ e)

module _ (parent : Class) (before : List Class) (item : Item) (Within : Class → RefusedAt → Type 0) (Later : List Class → RefusedAt → Type 0) where
  exact-none : ((c : Class) → Stands parent before item c → ⊥) → IsOnly (ArgumentFault parent before item Within Later) (misplaced item)
  exact-none none = exact-left _ _ (λ fault x. none x.0 x.1.0) (Some (misplaced item)) ((none, refl), λ other h. h.1)

  -- an argument that stands there as a class has its faults as that
  stands-as : (c : Class) → Stands parent before item c → (fault : RefusedAt) → ArgumentFault parent before item Within Later fault → OrLater Within Later before fault c
  stands-as c stands fault (inl (none, e)) = absurd (none c stands)
  stands-as c stands fault (inr (d, (other, rest))) = subst (OrLater Within Later before fault) (same_class parent before item c d stands.named other) rest

  exact-or_later : (c : Class) → Stands parent before item c → (w l : Option RefusedAt) → IsExact (Within c) w → IsExact (Later (before ++ c ∷ [])) l →
      IsExact (ArgumentFault parent before item Within Later) (or_later w l)
  exact-or_later c stands w l within later =
      exact-as (λ fault. OrLater Within Later before fault c) _ (λ fault. ((λ x. inr (c, (stands, x))), stands-as c stands fault)) (or_later w l) (by w within)
    where
      by : (w : Option RefusedAt) → IsExact (Within c) w → IsExact (λ fault. OrLater Within Later before fault c) (or_later w l)
      by (Some g) only = exact-left _ _ (λ fault x. x.0 g only.0) (Some g) only
      by None free = exact-right _ _ free l (exact-as _ _ (λ fault. ((λ x. (free, x)), λ x. x.1)) l later)

  pub exact-free : (c : Class) → Stands parent before item c → IsFree (Within c) → IsFree (Later (before ++ c ∷ [])) → IsFree (ArgumentFault parent before item Within Later)
  exact-free c stands = exact-or_later c stands None None

exact-argument : (parent : Class) (before : List Class) (slots : List SlotParts) (item : Item)
    (Within : Class → RefusedAt → Type 0) (Later : List Class → RefusedAt → Type 0) (within : Class → Option RefusedAt) (later : List SlotParts → Option RefusedAt) →
    Reached (slots_of parent) before slots → ((c : Class) → IsExact (Within c) (within c)) →
    ((b : List Class) (next : List SlotParts) → Reached (slots_of parent) b next → IsExact (Later b) (later next)) →
    IsExact (ArgumentFault parent before item Within Later) (fault_from parent slots item within later)
exact-argument parent before slots item Within Later within later r hw hl = by (step_of parent slots item) refl
  where
    by : (step : Option (Class × List SlotParts)) → step ≡ step_of parent slots item → IsExact (ArgumentFault parent before item Within Later) (fault_by item within later step)
    by None e = exact-none parent before item Within Later (none_stands parent before slots item r e)
    by (Some (c, next)) e =
        exact-or_later parent before item Within Later c (step_stands parent c before slots next item r e) (within c) (later next) (hw c)
        (hl (before ++ c ∷ []) next (reached-more (slots_of parent) before slots next c r (step_class parent c slots next item e).1))

-- the arguments may end exactly where they are an allowed list
pub end-allows : (row : List SlotParts) (before : List Class) (slots : List SlotParts) → Reached row before slots → (may_end slots ≡ true) ↔ Allowed row before
end-allows row before slots r = (
  (λ e. subst (Allowed row) (append-nil before) (r.back [] (end-allowed slots e))),
  (λ h. let a : Allowed slots [] = r.there [] (subst (Allowed row) (sym (append-nil before)) h) in allowed-end slots a.0 a.1.0 a.1.1),
)

exact-end : (parent : Class) (close : ℕ) (before : List Class) (slots : List SlotParts) → Reached (slots_of parent) before slots →
    IsExact (Among parent close before End) (if may_end slots then None else Some (missing close))
exact-end parent close before slots r =
    elim (may_end slots) as (λ b. (b ≡ true) ↔ Allowed (slots_of parent) before → IsExact (Among parent close before End) (if b then None else Some (missing close))) [
      | true ↦ λ ends fault h. h.0 (ends.0 refl)
      | false ↦ λ ends. ((λ h. false≢true (ends.1 h), refl), λ other h. h.1)
    ] (end-allows (slots_of parent) before slots r)

-- the fault of an item itself, where it isn't of the class
exact-own : (is : Bool) (item : Item) → IsExact (λ fault. IsFalse is × (fault ≡ misplaced item)) (if is then None else Some (misplaced item))
exact-own true item = λ fault h. true≢false h.0
exact-own false item = ((refl, refl), λ other h. h.1)

-- the fault of an item by its keyword, where `Arguments` are the faults of its arguments
by-keyword : (is : Bool) (item : Item) (Arguments : RefusedAt → Type 0) (found : Option RefusedAt) → IsExact Arguments found →
    IsExact (λ fault. (IsFalse is × (fault ≡ misplaced item)) ⊎ (IsTrue is × Arguments fault)) (if is then found else Some (misplaced item))
by-keyword false item Arguments found h = exact-left _ _ (λ fault x. false≢true x.0) (Some (misplaced item)) (exact-own false item)
by-keyword true item Arguments found h = exact-right _ _ (exact-own true item) found (exact-as _ _ (λ fault. ((λ x. (refl, x)), λ x. x.1)) found h)

mutual
  unfolding first_inside first_in_arguments

  pub exact_inside : (c : Class) (item : Item) → IsExact (Inside c item) (first_inside c item)
  exact_inside c (leaf kind place raw) = exact-own (is_of c (leaf kind place raw)) (leaf kind place raw)
  exact_inside c (node place keyword square first others close) =
      by-keyword (is_keyword c keyword) (node place keyword square first others close) _ _
      (exact-argument c [] (slots_of c) first _ _ _ _ (reached-start (slots_of c) (apart_tables c))
      (λ d. exact_inside d first) (λ b next r. exact_among c close b next others r))

  exact_among : (c : Class) (close : ℕ) (before : List Class) (slots : List SlotParts) (items : Siblings) →
      Reached (slots_of c) before slots → IsExact (Among c close before items) (first_in_arguments c close slots items)
  exact_among c close before slots End r = exact-end c close before slots r
  exact_among c close before slots (More item items) r =
      exact-argument c before slots item _ _ _ _ r (λ d. exact_inside d item) (λ b next q. exact_among c close b next items q)

pub exact : (c : Class) (item : Item) (found : Option RefusedAt) → found ≡ first_inside c item → IsExact (Inside c item) found
exact c item found e = subst (IsExact (Inside c item)) (sym e) (exact_inside c item)

-- at the root

pub exact_at_root : (item : Item) → (found : Option RefusedAt) × IsExact (AtRoot item) found
exact_at_root item =
    elim (class_of_root item) as (λ o. class_of_root item ≡ o → (found : Option RefusedAt) × IsExact (AtRoot item) found) [
      | None ↦ λ e. (Some (misplaced item), exact-left _ _ (λ fault x. none-some x.0 (sym e ∙ x.1.0)) (Some (misplaced item)) ((e, refl), λ other h. h.1))
      | Some c ↦ λ e. (
        first_inside c item,
        exact-right _ _ (λ fault x. none-some c (sym x.0 ∙ e)) (first_inside c item)
            (exact-as (Inside c item) _
            (λ fault. ((λ x. (c, (e, x))), λ x. subst (λ d. Inside d item fault) (same_Some x.0 c (sym x.1.0 ∙ e)) x.1.1))
            (first_inside c item) (exact_inside c item)),
      )
    ] refl

pub one-of : (Fault : RefusedAt → Type 0) (found : Option RefusedAt) → IsExact Fault found → (a b : RefusedAt) → Fault a → Fault b → a ≡ b
one-of Fault None free a b x y = absurd (free a x)
one-of Fault (Some fault) only a b x y = only.1 a x ∙ sym (only.1 b y)

pub none-or-one : (Fault : RefusedAt → Type 0) (found : Option RefusedAt) → IsExact Fault found → IsFree Fault ⊎ ((fault : RefusedAt) × Fault fault)
none-or-one Fault None free = inl free
none-or-one Fault (Some fault) only = inr (fault, only.0)
