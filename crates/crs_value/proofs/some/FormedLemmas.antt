-- Items of their shape within a text, whose tokens are well formed: the same holds for their arguments, and
-- their numbers have values.
use Rattle.std.proofs.Common.{ℕ, inr, List, [], ◌∷◌}
use Rattle.crs_decimal.specs.inner.Prelude.{IsInBounds, Denotes, Value, IsNormal, exact}
use Rattle.crs_text.specs.inner.Prelude.{number, Item, leaf, node, Siblings, End, More, arguments, AreFormed, AreAllFormed}
use Rattle.crs_shape.specs.declared.class.Class.{Class}
use Rattle.crs_shape.specs.declared.class.Class.TheVariants as class
use Rattle.crs_shape.specs.inner.Prelude.{Shaped}
use Rattle.crs_value.specs.inner.Arguments.{AllShaped}
use Rattle.crs_value.specs.Reading.{Each, is_a, those, ReadsFirst}
use Rattle.crs_value.specs.Reads.{ReadsNumber}
use Rattle.crs_value.proofs.found.ArgumentLemmas.{each-if, arguments-shaped, shaped-number}
use Rattle.crs_value.proofs.checked.PlaceLemmas.{Within, AreWithin, arguments-within}
use Rattle.crs_value.proofs.some.DecisionLemmas.{Known}
use Rattle.crs_value.proofs.sound.PartLemmas.{arguments-formed}

abbrev pub Numbers : Type 0
Numbers = (bytes : List ℕ) → IsInBounds bytes → (v : Value) × (IsNormal v × Denotes bytes (exact v))

-- an item of its shape, well formed and within a text of this length
pub record Ready (total : ℕ) (c : Class) (item : Item) : Type 0 where
  pub shaped : Shaped c item
  pub formed : AreFormed item
  pub within : Within total item

abbrev pub AllReady : ℕ → Class → List Item → Type 0
AllReady total c items = Each (Ready total c) items

abbrev pub AllFormed : List Item → Type 0
AllFormed items = Each AreFormed items

those-formed : (parent c : Class) (items : Siblings) → AreAllFormed items → AllFormed (those parent c items)
those-formed parent c End h = tt
those-formed parent c (More item items) h = each-if AreFormed (is_a parent c item) item (those parent c items) (λ e. h.0) (those-formed parent c items h.1)

pub inner-formed : (parent c : Class) (item : Item) → AreFormed item → AllFormed (those parent c (arguments item))
inner-formed parent c item h = those-formed parent c (arguments item) (arguments-formed item h)

pub those-within : (total : ℕ) (parent c : Class) (items : Siblings) → AreWithin total items → Each (Within total) (those parent c items)
those-within total parent c End h = tt
those-within total parent c (More item items) h =
    each-if (Within total) (is_a parent c item) item (those parent c items) (λ e. h.0) (those-within total parent c items h.1)

all-ready : (total : ℕ) (c : Class) (items : List Item) → AllShaped c items → AllFormed items → Each (Within total) items → AllReady total c items
all-ready total c [] shaped formed within = tt
all-ready total c (item ∷ items) shaped formed within =
    (record { shaped = shaped.0; formed = formed.0; within = within.0 }, all-ready total c items shaped.1 formed.1 within.1)

pub those-ready : (total : ℕ) (parent c : Class) (item : Item) → Ready total parent item → AllReady total c (those parent c (arguments item))
those-ready total parent c item h =
    all-ready total c (those parent c (arguments item)) (arguments-shaped parent c item h.shaped) (inner-formed parent c item h.formed)
    (those-within total parent c (arguments item) (arguments-within total item h.within))

pub number-some : Numbers → (item : Item) → Shaped class.Number item → AreFormed item → (v : Value) × ReadsNumber item v
number-some law (leaf number place raw) shaped formed = let v = law raw formed.2 in (v.0, v.1)
number-some law (leaf other place raw) shaped formed = let e = shaped-number (leaf other place raw) shaped in absurd cc
number-some law (node place keyword square first others close) shaped formed =
    let e = shaped-number (node place keyword square first others close) shaped in absurd cc

-- what is read from the first of some items, if it is known of each
pub first-known : {V : Type 0} (R : Item → V → Type 0) (Is : Item → Type 0) → ((item : Item) → Is item → Known (R item)) → (items : List Item) → Each Is items → Known (ReadsFirst R items)
first-known R Is known [] h = inr (λ v x. x)
first-known R Is known (item ∷ items) h = known item h.0
