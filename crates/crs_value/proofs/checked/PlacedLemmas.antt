-- Axes whose orders are the numbers from 1 on, one after another.
use Rattle.std.proofs.Common.{◌≡◌, ℕ, ◌+◌, ◌<◌, ◌≤◌, length, inl, inr, ⊎_elim, None, List, [], ◌∷◌, ◌++◌, sym, ◌∙◌, subst, arith}
use Rattle.crs_decimal.specs.inner.Prelude.{Number, SameNumber, whole_number, Value, exact}
use Rattle.crs_text.specs.inner.Prelude.{Item, RefusedAt}
use Rattle.crs_value.specs.Checks.{LacksOrder, ReadsOrder, HasThis, OneHas, IsBadOrder, BadOrders, BadOrder, AnyOf, IsLeast}
use Rattle.crs_value.specs.inner.Arguments.{HasPlace, AreInOrder}
use Rattle.crs_value.specs.Reading.{ReadsFirst}
use Rattle.crs_value.proofs.checked.CheckLemmas.{DenotesOne, order-one, wrong-none, order-all, wholes-same}

abbrev pub Symmetric : Type 0
Symmetric = (a b : Number) → SameNumber a b → SameNumber b a

abbrev pub Transitive : Type 0
Transitive = (a b c : Number) → SameNumber a b → SameNumber b c → SameNumber a c

-- ---- axes before, whose orders are below a number

abbrev Below : ℕ → List Item → Type 0
Below n [] = Unit {0}
Below n (axis ∷ axes) = ((k : ℕ) × ((k < n) × HasPlace k axis)) × Below n axes

below-on : (n : ℕ) (axes : List Item) (axis : Item) → Below n axes → HasPlace n axis → Below (n + 1) (axes ++ axis ∷ [])
below-on n [] axis h p = ((n, (omega arith, p)), tt)
below-on n (x ∷ axes) axis h p = ((h.0.0, (omega (arith, h.0.1.0), h.0.1.1)), below-on n axes axis h.1 p)

place-one : DenotesOne → Symmetric → Transitive → (k n : ℕ) (axis : Item) (v : Value) → HasPlace k axis → HasThis v axis → SameNumber (exact v) (whole_number n) → k ≡ n
place-one law symmetric transitive k n axis v p h same =
    let P : List Item → Type 0 = λ xs. ReadsFirst ReadsOrder xs v in
    let e : p.value ≡ v = order-one law p.order p.value v p.reads (subst P p.only h) in
    let Q : Value → Type 0 = λ x. SameNumber (exact x) (whole_number k) in
    wholes-same k n (transitive (whole_number k) (exact v) (whole_number n) (symmetric (exact v) (whole_number k) (subst Q e p.same)) same)

none-before : DenotesOne → Symmetric → Transitive → (n : ℕ) (v : Value) (before : List Item) → Below n before → SameNumber (exact v) (whole_number n) → OneHas v before → ⊥
none-before law symmetric transitive n v [] below same h = h
none-before law symmetric transitive n v (axis ∷ axes) below same (inl h) =
    let e : below.0.0 ≡ n = place-one law symmetric transitive below.0.0 n axis v below.0.1.1 h same in
    absurd (omega (arith, below.0.1.0, e))
none-before law symmetric transitive n v (axis ∷ axes) below same (inr h) = none-before law symmetric transitive n v axes below.1 same h

bad-none : DenotesOne → Symmetric → Transitive → (count n : ℕ) (before axes : List Item) → 1 ≤ n → n + length axes ≤ count + 1 → Below n before → AreInOrder n axes →
    (f : RefusedAt) → BadOrders count before axes f → ⊥
bad-none law symmetric transitive count n before [] one within below placed f h = h
bad-none law symmetric transitive count n before (axis ∷ axes) one within below placed f (inl h) =
    let p = placed.0 in
    let P : List Item → Type 0 = λ xs. AnyOf (IsBadOrder count before) xs f in
    ⊎_elim
    (wrong-none law count before p.order p.value p.reads (n, (one, omega (arith, within), p.same))
    (λ has. none-before law symmetric transitive n p.value before below p.same has) f)
    (λ k. k) (subst P p.only h)
bad-none law symmetric transitive count n before (axis ∷ axes) one within below placed f (inr h) =
    bad-none law symmetric transitive count (n + 1) (before ++ axis ∷ []) axes (omega (arith, one)) (omega (arith, within)) (below-on n before axis below placed.0) placed.1 f h

lack-none : (n : ℕ) (axes : List Item) → AreInOrder n axes → (f : RefusedAt) → AnyOf LacksOrder axes f → ⊥
lack-none n [] placed f h = h
lack-none n (axis ∷ axes) placed f (inl h) = let e : [] ≡ placed.0.order ∷ [] = sym h.1 ∙ placed.0.only in cc
lack-none n (axis ∷ axes) placed f (inr h) = lack-none (n + 1) axes placed.1 f h

pub placed-none : DenotesOne → Symmetric → Transitive → (axes : List Item) → AreInOrder 1 axes → IsLeast (BadOrder axes) None
placed-none law symmetric transitive axes placed =
    order-all axes None (lack-none 1 axes placed) (bad-none law symmetric transitive (length axes) 1 [] axes (omega arith) (omega arith) tt placed)
