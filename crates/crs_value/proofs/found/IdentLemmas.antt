-- The second argument of an identifier is no node.
use Rattle.std.proofs.Common.{◌≡◌, ◌≢◌, ℕ, true, false, List, [], ◌∷◌, ◌++◌, refl, ◌∙◌, ap, subst, arith, IsTrue}
use Rattle.crs_text.specs.inner.Prelude.{Item, leaf, node, Siblings, End, More, arguments, skip, Kind, number}
use Rattle.crs_shape.specs.declared.class.Class.{Class}
use Rattle.crs_shape.specs.declared.class.Class.TheVariants as class
use Rattle.crs_shape.specs.inner.Prelude.{is_keyword, Fills, Allowed, joined, Shaped, AreShaped, SlotParts, slots_of, takes, one, one_of}
use Rattle.crs_value.specs.Reads.{single_of}

abbrev code_slot : SlotParts
code_slot = one_of (class.Number ∷ class.Text ∷ [])

one-run : (slot : SlotParts) (run : List Class) → slot.required ≡ true → slot.many ≡ false → Fills slot run → (c : Class) × ((run ≡ c ∷ []) × IsTrue (takes slot c))
one-run slot [] required many fills = let h = fills.enough required in absurd (omega (arith, h))
one-run slot (c ∷ []) required many fills = (c, (refl, fills.taken.0))
one-run slot (c ∷ d ∷ run) required many fills = let h = fills.not_more many in absurd (omega (arith, h))

two-runs : (ds : List Class) → Allowed (slots_of class.Identifier) ds → (c d : Class) × ((more : List Class) × ((ds ≡ c ∷ d ∷ more) × IsTrue (takes code_slot d)))
two-runs ds ([], h) = absurd h.0
two-runs ds (first ∷ [], h) = absurd h.0.1
two-runs ds (first ∷ second ∷ runs, h) =
    let a = one-run (one class.Text) first refl refl h.0.0 in
    let b = one-run code_slot second refl refl h.0.1.0 in
    let e : first ++ (second ++ joined runs) ≡ a.0 ∷ b.0 ∷ joined runs =
    ap (λ r. r ++ (second ++ joined runs)) a.1.0 ∙ ap (λ r. a.0 ∷ (r ++ joined runs)) b.1.0 in
    (a.0, b.0, (joined runs, (h.1 ∙ e, b.1.1)))

single-node : (keyword : List ℕ) (d : Class) → IsTrue (takes code_slot d) → is_keyword d keyword ≡ true → ⊥
unfolding is_keyword
single-node keyword class.Number is e = cc
single-node keyword other is e = cc

single-shaped : (d : Class) (item : Item) (items : Siblings) → IsTrue (takes code_slot d) → Shaped d item → single_of (More item items) ≢ []
single-shaped d (leaf number place raw) items is shaped = λ e. cc
single-shaped d (leaf other place raw) items is shaped = λ e. cc
single-shaped d (node place keyword square first others close) items is shaped = absurd (single-node keyword d is shaped.0)

abbrev tail_of : List Class → List Class
tail_of [] = []
tail_of (c ∷ cs) = cs

leaf-no : (kind : Kind) → Shaped class.Identifier (leaf kind 0 []) → ⊥
leaf-no number shaped = cc
leaf-no other shaped = cc

second-there : (d : Class) (ds : List Class) (items : Siblings) → IsTrue (takes code_slot d) → AreShaped class.Identifier (d ∷ ds) items → single_of items ≢ []
second-there d ds End is shaped = absurd shaped
second-there d ds (More item items) is shaped = single-shaped d item items is shaped.1.0

pub code-there : (item : Item) → Shaped class.Identifier item → single_of (skip 1 (arguments item)) ≢ []
code-there (leaf kind place raw) shaped = absurd (leaf-no kind shaped)
code-there (node place keyword square first others close) shaped =
    let shape = shaped.1 in
    let runs = two-runs (shape.0 ∷ shape.1.0) shape.1.1.1.1.1 in
    let same : shape.1.0 ≡ runs.1 ∷ runs.2.0 = ap tail_of runs.2.1.0 in
    let P : List Class → Type 0 = λ ds. AreShaped class.Identifier ds others in
    second-there runs.1 runs.2.0 others runs.2.1.1 (subst P same shape.1.1.1.1.0)
