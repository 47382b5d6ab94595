-- A text spells one value at most or is refused once at most, and never both.
use Rattle.std.proofs.Common.{◌≡◌, ℕ, inl, inr, List, subst}
use Rattle.crs_text.specs.inner.Prelude.{Item, RefusedAt, SpellsNode, RefusesText}
use Rattle.crs_shape.specs.inner.Prelude.{AtRoot}
use Rattle.crs_value.specs.declared.values.crs.Crs.{Crs}
use Rattle.crs_value.specs.Spells.{SpellsCrs, RefusesCrs, Spells, Refuses}
use Rattle.crs_value.proofs.checked.CheckLemmas.{DenotesOne}
use Rattle.crs_value.proofs.checked.LeastLemmas.{same-fault}
use Rattle.crs_value.proofs.one.RootLemmas.{spelled-one, spelled-not-refused, refused-one}

abbrev pub OneFault : Type 0
OneFault = (item : Item) (a b : RefusedAt) → AtRoot item a → AtRoot item b → a ≡ b

abbrev pub OneNode : Type 0
OneNode = (bytes : List ℕ) (i j : Item) → SpellsNode bytes i → SpellsNode bytes j → i ≡ j

abbrev pub OneRefusal : Type 0
OneRefusal = (bytes : List ℕ) (n m place other : ℕ) → RefusesText bytes n place → RefusesText bytes m other → (n ≡ m) × (place ≡ other)

abbrev pub NodeApart : Type 0
NodeApart = (bytes : List ℕ) (item : Item) (n place : ℕ) → SpellsNode bytes item → ¬ (RefusesText bytes n place)

pub item-refused-one : OneFault → (item : Item) (a b : RefusedAt) → RefusesCrs item a → RefusesCrs item b → a ≡ b
item-refused-one law item a b (inl p) (inl q) = law item a b p q
item-refused-one law item a b (inl p) (inr q) = absurd (q.shaped a p)
item-refused-one law item a b (inr p) (inl q) = absurd (p.shaped b q)
item-refused-one law item a b (inr p) (inr q) = refused-one item a b p q

pub text-one : DenotesOne → OneNode → (text : List ℕ) (a b : Crs) → Spells text a → Spells text b → a ≡ b
text-one law one text a b p q =
    let P : Item → Type 0 = λ i. SpellsCrs i b in
    spelled-one law p.0 a b p.1.1 (subst P (one text q.0 p.0 q.1.0 p.1.0) q.1.1)

pub text-apart : OneNode → NodeApart → (text : List ℕ) (value : Crs) (fault : RefusedAt) → Spells text value → ¬ (Refuses text fault)
text-apart one apart text value fault p (inl q) = apart text p.0 fault.number fault.place p.1.0 q
text-apart one apart text value fault p (inr q) =
    let P : Item → Type 0 = λ i. RefusesCrs i fault in
    spelled-not-refused p.0 value fault p.1.1 (subst P (one text q.0 p.0 q.1.0 p.1.0) q.1.1)

pub text-refused-one : OneFault → OneNode → OneRefusal → NodeApart → (text : List ℕ) (a b : RefusedAt) → Refuses text a → Refuses text b → a ≡ b
text-refused-one law one refusal apart text a b (inl p) (inl q) =
    let e = refusal text a.number b.number a.place b.place p q in same-fault a b e.0 e.1
text-refused-one law one refusal apart text a b (inl p) (inr q) = absurd (apart text q.0 a.number a.place q.1.0 p)
text-refused-one law one refusal apart text a b (inr p) (inl q) = absurd (apart text p.0 b.number b.place p.1.0 q)
text-refused-one law one refusal apart text a b (inr p) (inr q) =
    let P : Item → Type 0 = λ i. RefusesCrs i b in
    item-refused-one law p.0 a b p.1.1 (subst P (one text q.0 p.0 q.1.0 p.1.0) q.1.1)
