-- Arguments of one class, of which one is taken after another.
use Rattle.std.proofs.Common.{◌≡◌, ℕ, suc, ◌<◌, length, List, [], ◌∷◌, Option, Some, None, refl, sym, ap, subst, arith}
use Rattle.crs_text.specs.inner.Prelude.{Item, rest_of, here}
use Rattle.crs_shape.specs.declared.class.Class.{Class}
use Rattle.crs_value.specs.inner.Prelude.{from_found, item_at, those, ReadsEach}
use Rattle.crs_writer.specs.inner.Parts.{SaysFirst}

pub none-left : {V : Type 0} (R : Item → V → Type 0) (tree : Item) (parent c : Class) (at : Option ℕ) → at ≡ None →
    (values : List V) → ReadsEach R (from_found tree parent c at) values → values ≡ []
none-left R tree parent c None e [] h = refl
none-left R tree parent c None e (v ∷ vs) h = absurd h
none-left R tree parent c (Some id) e values h = let n : ⊥ = cc in absurd n

pub fewer-left : (tree : Item) (parent c : Class) (at next : Option ℕ) (id : ℕ) → at ≡ Some id →
    from_found tree parent c next ≡ those parent c (rest_of (here tree id)) →
    length (from_found tree parent c next) < length (from_found tree parent c at)
fewer-left tree parent c at next id e found =
    let all : length (from_found tree parent c at) ≡ suc (length (those parent c (rest_of (here tree id)))) =
    ap (λ a. length (from_found tree parent c a)) e in
    omega (arith, all, ap length found)

-- the first argument says the first value, and those from the next one on say the others
pub first-said : {V : Type 0} (R : Item → V → Type 0) (tree : Item) (parent c : Class) (at next : Option ℕ) (id : ℕ) → at ≡ Some id →
    from_found tree parent c next ≡ those parent c (rest_of (here tree id)) →
    (values : List V) → ReadsEach R (from_found tree parent c at) values →
    SaysFirst (λ _. R (item_at tree id)) (λ _. ReadsEach R (from_found tree parent c next)) (tt {0}) (tt {0}) values
first-said {V = V} R tree parent c at next id e found values h =
    by values (subst (λ a. ReadsEach R (from_found tree parent c a) values) e h)
  where
    by : (values : List V) → ReadsEach R (from_found tree parent c (Some id)) values →
        SaysFirst (λ _. R (item_at tree id)) (λ _. ReadsEach R (from_found tree parent c next)) (tt {0}) (tt {0}) values
    by [] h = absurd h
    by (v ∷ vs) h =
        let P : List Item → Type 0 = λ xs. ReadsEach R xs vs in (h.0, subst P (sym found) h.1)
