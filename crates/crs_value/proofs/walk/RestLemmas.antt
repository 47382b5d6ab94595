-- What is checked of a CRS as a whole: orders, units, dimensions and repeated parts.
use Rattle.std.proofs.Common.{◌≡◌, ℕ, ◌+◌, ◌<◌, ◌≤◌, length, drop, Bool, true, false, inl, inr, ◌⊎◌, ⊎_elim, Option, Some, None, List, [], ◌∷◌, ◌++◌, refl, sym, ◌∙◌, ap, subst, arith}
use Rattle.std.proofs.lemmas.Option.{same_Some}
use Rattle.crs_decimal.specs.inner.Prelude.{SameNumber, whole_number, Value, exact}
use Rattle.crs_text.specs.inner.Prelude.{Item, Siblings, arguments, rest_of, here, HasId, IsAt, RefusedAt}
use Rattle.crs_shape.specs.declared.class.Class.{Class}
use Rattle.crs_shape.specs.declared.class.Class.TheVariants as class
use Rattle.crs_shape.specs.declared.system_type.SystemType.{SystemType}
use Rattle.crs_shape.specs.declared.unit_kind.UnitKind.{UnitKind}
use Rattle.crs_shape.specs.declared.unit_kind.UnitKind.TheVariants as kinds
use Rattle.crs_shape.specs.inner.Prelude.{IsOneOf, class_in}
use Rattle.crs_value.specs.declared.judging.quick_checks.AxesFacts.{AxesFacts}
use Rattle.crs_value.specs.Checks.{BadDynamic, orders_in, SomeHasOrder, IsBadOrder, BadOrders, BadOrder, Asks, AllAsk, IsSuperfluous, HasOwnUnit, BadOwnUnit, BadUnit, AnyOf, IsLeast, BreaksAmong, OfHead, BadSystems, Own, IsRepeated, RepeatsAny}
use Rattle.crs_value.specs.inner.ReadOnce.{HasSystem}
use Rattle.crs_value.specs.inner.Arguments.{lesser, item_at, ahead}
use Rattle.crs_value.specs.Reading.{Each, OneIs, is_a, those}
use Rattle.crs_value.specs.Reads.{HasType}
use Rattle.crs_value.specs.inner.QuickChecks.{the_one, AreOrdered, HaveFacts, UnitsFit, PassesButDynamic, rank, Climbs}
use Rattle.crs_value.specs.inner.WholeNumbers.{IsWholeOf}
use Rattle.crs_value.proofs.checked.OwnLemmas.{crs-of-own, own-of-crs}
use Rattle.crs_value.proofs.found.FirstArgumentsLemmas.{one-more}
use Rattle.crs_value.proofs.found.ArgumentLemmas.{class-is, each-as}
use Rattle.crs_value.proofs.checked.CheckLemmas.{DenotesOne, system-none, count-none}
use Rattle.crs_value.proofs.checked.LeastLemmas.{either-is, least-beside}
use Rattle.crs_value.proofs.checked.PlacedLemmas.{Symmetric, Transitive, placed-none}

-- ---- the node `CS`

-- a number is one of some where the whole one that it is is
as-whole : (v : Value) (n : ℕ) → SameNumber (exact v) (whole_number n) → (ns : List ℕ) → OneIs (λ m. n ≡ m) ns → IsOneOf v ns
as-whole v n same [] h = h
as-whole v n same (m ∷ ns) (inl e) = let P : ℕ → Type 0 = λ k. SameNumber (exact v) (whole_number k) in inl (subst P e same)
as-whole v n same (m ∷ ns) (inr h) = inr (as-whole v n same ns h)

pub head-none : DenotesOne → (dims : SystemType → List ℕ) (cs : Item) (t : SystemType) (dimension : ℕ) (axes : List Item) (n : ℕ) → HasType cs t →
    IsWholeOf class.CoordinateSystem cs dimension → OneIs (λ m. dimension ≡ m) (dims t) → dimension ≡ n → length axes ≡ n → IsLeast (OfHead dims axes cs) None
head-none law dims cs t dimension axes n ht (v, (hv, same)) is all e f (inl h) = system-none law dims cs t v ht hv (as-whole v dimension same (dims t) is) f h
head-none law dims cs t dimension axes n ht (v, (hv, same)) is all e f (inr h) =
    let P : ℕ → Type 0 = λ m. SameNumber (exact v) (whole_number m) in
    count-none law (length axes) cs v hv (subst P (all ∙ sym e) same) f h

-- ---- orders

none-has : (axes : List Item) → Each (λ a. orders_in a ≡ []) axes → (n : ℕ) (before : List Item) (f : RefusedAt) → BadOrders n before axes f → ⊥
none-has [] h n before f k = k
none-has (axis ∷ axes) h n before f (inl k) = let P : List Item → Type 0 = λ xs. AnyOf (IsBadOrder n before) xs f in subst P h.0 k
none-has (axis ∷ axes) h n before f (inr k) = none-has axes h.1 n (before ++ axis ∷ []) f k

some-has : (axes : List Item) → Each (λ a. orders_in a ≡ []) axes → SomeHasOrder axes → ⊥
some-has [] h k = k
some-has (axis ∷ axes) h (inl k) = k h.0
some-has (axis ∷ axes) h (inr k) = some-has axes h.1 k

-- where none of some items breaks a check, none is broken
any-none : (B : Item → RefusedAt → Type 0) (items : List Item) → Each (λ i. IsLeast (B i) None) items → IsLeast (AnyOf B items) None
any-none B [] h f k = k
any-none B (item ∷ items) h f (inl k) = h.0 f k
any-none B (item ∷ items) h f (inr k) = any-none B items h.1 f k

pub ordered-none : DenotesOne → Symmetric → Transitive → (of : SystemType) (seen : AxesFacts) (axes : List Item) → HaveFacts of seen axes → AreOrdered seen axes → IsLeast (BadOrder axes) None
ordered-none law symmetric transitive of seen axes s (inl e) f h = placed-none law symmetric transitive axes (s.placed e) f h
ordered-none law symmetric transitive of seen axes s (inr (inl e)) f (inl h) = some-has axes (s.none e) h.0
ordered-none law symmetric transitive of seen axes s (inr (inl e)) f (inr h) = none-has axes (s.none e) (length axes) [] f h.1
ordered-none law symmetric transitive of seen axes s (inr (inr none)) f h = none f h

-- ---- units

all-ask : (cs : Item) (kind : UnitKind) (axes : List Item) → Each (λ a. Asks cs a kind) axes → AllAsk cs axes kind
all-ask cs kind [] h = tt
all-ask cs kind (axis ∷ axes) h = (h.0, all-ask cs kind axes h.1)

pub units-none : (tree cs : Item) (of : SystemType) (seen : AxesFacts) (axes : List Item) (shared : Option ℕ) → HasType cs of → HaveFacts of seen axes → UnitsFit tree seen shared →
    IsLeast (BadUnit axes (the_one tree shared) cs) None
units-none tree cs of seen axes None t s fit f h = any-none (BadOwnUnit cs) axes (s.fit fit cs t) f h
units-none tree cs of seen axes (Some unit) t s fit f (inl h) =
    any-none HasOwnUnit axes (each-as (λ a e g k. let P : List Item → Type 0 = λ xs. AnyOf IsSuperfluous xs g in subst P e k) axes (s.free fit.0)) f h
units-none tree cs of seen axes (Some unit) t s fit f (inr h) =
    h.1
    (⊎_elim (λ k. (kinds.Length, (all-ask cs kinds.Length axes (s.long k.0 cs t), k.1)))
    (λ k. (kinds.Angle, (all-ask cs kinds.Angle axes (s.turned k.0 cs t), k.1))) fit.1)

pub systems-none : (dims : SystemType → List ℕ) (systems axes units : List Item) (cs : Item) → systems ≡ cs ∷ [] → IsLeast (OfHead dims axes cs) None → IsLeast (BadOrder axes) None →
    IsLeast (BadUnit axes units cs) None → IsLeast (BadSystems dims systems axes units) None
systems-none dims systems axes units cs e head orders fit =
    rw e (λ f. ⊎_elim (⊎_elim (head f) (λ h. h)) (⊎_elim (orders f) (⊎_elim (fit f) (λ h. h))))

-- ---- what is repeated

-- where the same ones are of some classes the same is repeated
pub repeats-back : (c : Class) (cs : List Class) (xs ys : Siblings) → Each (λ d. those c d xs ≡ those c d ys) cs → (f : RefusedAt) → RepeatsAny c xs cs f → RepeatsAny c ys cs f
repeats-back c [] xs ys same f h = h
repeats-back c (d ∷ cs) xs ys same f (inl k) = inl (subst (λ zs. AnyOf IsRepeated (drop 1 zs) f) same.0 k)
repeats-back c (d ∷ cs) xs ys same f (inr k) = inr (repeats-back c cs xs ys same.1 f k)

-- ---- ranks

pub record Climbing (c : Class) (from at : Siblings) (last : ℕ) : Type 0 where
  pub unseen : (d : Class) → 1 ≤ rank d → last < rank d → length (those c d from) ≤ length (those c d at)
  pub few : (d : Class) → 1 ≤ rank d → length (those c d from) ≤ length (those c d at) + 1

pub climbing-first : (c : Class) (items : Siblings) → Climbing c items items 0
climbing-first c items = record { unseen = λ d high below. omega arith; few = λ d high. omega arith }

-- an argument of a class is of no other
pub once-some : (p : Class) (item : Item) (c : Class) → is_a p c item ≡ true → (d : Class) → 1 ≤ rank d → is_a p d item ≡ true → rank c ≡ rank d
once-some p item c is d high also = ap rank (same_Some c d (sym (class-is c (class_in p item) is) ∙ class-is d (class_in p item) also))

-- one of none of the classes that may stand but once
pub once-none : (p : Class) (item : Item) → is_a p class.Scope item ≡ false → is_a p class.Area item ≡ false → is_a p class.BoundingBox item ≡ false →
    is_a p class.VerticalExtent item ≡ false → is_a p class.Remark item ≡ false → (d : Class) → 1 ≤ rank d → is_a p d item ≡ true → ⊥
once-none p item a b e f g class.Scope high is = cc
once-none p item a b e f g class.Area high is = cc
once-none p item a b e f g class.BoundingBox high is = cc
once-none p item a b e f g class.VerticalExtent high is = cc
once-none p item a b e f g class.Remark high is = cc
once-none p item a b e f g other high is = absurd (omega (arith, high))

-- one argument more
pub climbing-on : (tree : Item) (c : Class) (from : Siblings) (at : Option ℕ) (id : ℕ) (next : Option ℕ) (last now found : ℕ) → at ≡ Some id → HasId tree id →
    IsAt tree (rest_of (here tree id)) next → ((d : Class) → 1 ≤ rank d → is_a c d (item_at tree id) ≡ true → found ≡ rank d) → Climbs last found now → Climbing c from (ahead tree at) last →
    Climbing c from (ahead tree next) now
climbing-on tree c from at id next last now found same has is named climbs h = record {
  unseen = λ d high below. omega (arith, h.unseen d high, step d high, climbs.0);
  few = λ d high. ⊎_elim (λ e. omega (arith, h.few d high, e)) (λ k. omega (arith, h.unseen d high k.1.0, k.0)) (step d high);
}
  where
    step : (d : Class) → 1 ≤ rank d → (length (those c d (ahead tree at)) ≡ length (those c d (ahead tree next)))
        ⊎ ((length (those c d (ahead tree at)) ≡ 1 + length (those c d (ahead tree next))) × ((last < rank d) × (rank d ≤ now)))
    step d high = by (is_a c d (item_at tree id)) refl
      where
        by : (b : Bool) → is_a c d (item_at tree id) ≡ b → (length (those c d (ahead tree at)) ≡ length (those c d (ahead tree next)))
            ⊎ ((length (those c d (ahead tree at)) ≡ 1 + length (those c d (ahead tree next))) × ((last < rank d) × (rank d ≤ now)))
        by false e = inl (rw same (omega (arith, one-more false tree c d id next has e is)))
        by true e = inr (rw same (one-more true tree c d id next has e is), let P : ℕ → Type 0 = λ r. 1 ≤ r → (last < r) × (r ≤ now) in subst P (named d high e) climbs.1 high)

-- ---- a whole CRS

own-dynamic : (c : Class) (item : Item) → HasSystem c → PassesButDynamic c (arguments item) → (f : RefusedAt) → Own c item f → BadDynamic c item f
own-dynamic c item s q f h = ⊎_elim (λ k. absurd (q.repeats f k)) (⊎_elim (λ k. absurd (q.systems f k)) (λ k. k)) (crs-of-own c item f s h)

-- what such a CRS breaks, within it and by itself
pub passes-whole : (c : Class) (item : Item) (inside dynamic whole : Option RefusedAt) → HasSystem c → PassesButDynamic c (arguments item) → IsLeast (BreaksAmong c (arguments item)) inside →
    IsLeast (BadDynamic c item) dynamic → whole ≡ lesser inside dynamic → IsLeast (λ f. BreaksAmong c (arguments item) f ⊎ Own c item f) whole
passes-whole c item inside dynamic whole system quiet within bad is =
    least-beside (BreaksAmong c (arguments item)) (BadDynamic c item) (Own c item) whole (λ f h. own-of-crs c item f system (inr (inr h))) (own-dynamic c item system quiet)
    (either-is (BreaksAmong c (arguments item)) (BadDynamic c item) inside dynamic whole is within bad)
