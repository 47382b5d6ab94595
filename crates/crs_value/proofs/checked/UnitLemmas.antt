-- The checks of the units of a coordinate system.
use Rattle.std.proofs.Common.{◌≡◌, ℕ, inl, inr, ⊎_elim, Option, Some, None, List, [], ◌∷◌, refl, sym, ◌∙◌, ap, subst, arith}
use Rattle.crs_text.specs.inner.Prelude.{Item, leaf, node, arguments, keyword_in, raw_of, rest_of, here, number, text, word, keyword_of, RefusedAt}
use Rattle.crs_text.specs.declared.keyword.Keyword.{Keyword}
use Rattle.crs_shape.specs.declared.class.Class.{Class}
use Rattle.crs_shape.specs.declared.class.Class.TheVariants as class
use Rattle.crs_shape.specs.declared.unit_kind.UnitKind.{UnitKind}
use Rattle.crs_shape.specs.declared.unit_kind.UnitKind.TheVariants as kinds
use Rattle.crs_shape.specs.inner.Prelude.{asked_kind, SpellsWord, unit_word, Shaped}
use Rattle.crs_value.specs.Checks.{Asks, Fits, units_in, Misfits, BadOwnUnit, HasOwnUnit, BadShared, BadUnit, AllAsk, at, AnyOf, IsLeast}
use Rattle.crs_value.specs.inner.Arguments.{from_found, AllShaped, lesser, item_at, Holds, IsFound}
use Rattle.crs_value.specs.Reading.{those, IsReading}
use Rattle.crs_value.specs.Reads.{ReadsDirection, ReadsKind}
use Rattle.crs_value.proofs.found.ArgumentLemmas.{SlotsBound, found-is, found-holds, found-shaped}
use Rattle.crs_value.proofs.checked.CheckLemmas.{only-of, first-one, type-is-one}
use Rattle.crs_value.proofs.checked.LeastLemmas.{least-same, either-is}
use Rattle.crs_value.proofs.one.WordLemmas.{direction-one}

-- the keyword that a unit was read with is that of its bytes
pub keyword-raw : (item : Item) (k : Keyword) → Some k ≡ keyword_in item → keyword_of (raw_of item) ≡ Some k
keyword-raw (leaf number place raw) k e = cc
keyword-raw (leaf text place raw) k e = cc
keyword-raw (leaf word place raw) k e = sym e
keyword-raw (node place spelled square first others close) k e = sym e

pub kind-read : (unit : Item) (raw : List ℕ) (found : Option UnitKind) → raw ≡ raw_of unit → IsReading (λ kind. SpellsWord raw (unit_word kind)) found → IsReading (ReadsKind unit) found
kind-read unit raw found e reads = let P : List ℕ → Type 0 = λ r. IsReading (λ kind. SpellsWord r (unit_word kind)) found in subst P e reads

pub fits-none : (unit : Item) (raw : List ℕ) (kind : UnitKind) → raw ≡ raw_of unit → ((k : UnitKind) → ¬ (SpellsWord raw (unit_word k))) → Fits unit kind → ⊥
fits-none unit raw kind e none (inl h) = let P : List ℕ → Type 0 = λ r. SpellsWord r (unit_word kinds.Plain) in none kinds.Plain (subst P (sym e) h)
fits-none unit raw kind e none (inr h) = let P : List ℕ → Type 0 = λ r. SpellsWord r (unit_word kind) in none kind (subst P (sym e) h)

pub asks-one : (cs axis : Item) (a b : UnitKind) → Asks cs axis a → Asks cs axis b → a ≡ b
asks-one cs axis a b p q =
    let t = type-is-one cs p.0 q.0 p.1.1.0 q.1.1.0 in
    let d = first-one ReadsDirection (λ i x y. direction-one (raw_of i) x y) (those class.Axis class.Word (arguments axis)) p.1.0 q.1.0 p.1.1.1 q.1.1.1 in
    p.1.1.2 ∙ ap (λ x. asked_kind x p.1.0) t ∙ ap (λ x. asked_kind q.0 x) d ∙ sym q.1.1.2

pub misfit-none : (cs axis unit : Item) (kind : UnitKind) → Asks cs axis kind → Fits unit kind → IsLeast (Misfits cs axis unit) None
misfit-none cs axis unit kind asks fits = λ f h.
    let P : UnitKind → Type 0 = λ k. Fits unit k in
    h.1.1.1 (subst P (asks-one cs axis kind h.1.0 asks h.1.1.0) fits)

-- an axis whose only unit fits
pub own-fits : (cs axis unit : Item) (kind : UnitKind) → Asks cs axis kind → Fits unit kind → units_in axis ≡ unit ∷ [] → IsLeast (BadOwnUnit cs axis) None
own-fits cs axis unit kind asks fits only = λ f.
    let P : List Item → Type 0 = λ units. AnyOf (Misfits cs axis) units f in
    ⊎_elim (λ k. let e : [] ≡ unit ∷ [] = sym k.1 ∙ only in absurd cc) (λ k. ⊎_elim (misfit-none cs axis unit kind asks fits f) (λ h. h) (subst P only k))

pub misfit-unknown : (cs axis unit : Item) (r : Option RefusedAt) → ((k : UnitKind) → ¬ (Asks cs axis k)) → r ≡ None → IsLeast (Misfits cs axis unit) r
misfit-unknown cs axis unit r none e =
    let P : Option RefusedAt → Type 0 = λ o. IsLeast (Misfits cs axis unit) o in subst P (sym e) (λ f h. none h.1.0 h.1.1.0)

-- what is left of the axes is asked for one kind exactly where all are
pub record Asking (tree : Item) (parent : Class) (cs : Item) (whole : List Item) (kind : UnitKind) (at : Option ℕ) : Type 0 where
  pub forth : AllAsk cs (from_found tree parent class.Axis at) kind → AllAsk cs whole kind
  pub back : AllAsk cs whole kind → AllAsk cs (from_found tree parent class.Axis at) kind
  pub holds : Holds tree at
  pub shaped : AllShaped class.Axis (from_found tree parent class.Axis at)

pub asking-first : (tree : Item) (parent : Class) (cs item : Item) (kind : UnitKind) (at : Option ℕ) → Shaped parent item → IsFound tree parent class.Axis (those parent class.Axis (arguments item)) at →
    Asking tree parent cs (those parent class.Axis (arguments item)) kind at
asking-first tree parent cs item kind at shaped found =
    let e = found-is tree parent class.Axis (those parent class.Axis (arguments item)) at found in
    let P : List Item → Type 0 = λ xs. AllAsk cs xs kind in
    record {
      forth = λ h. subst P (sym e) h;
      back = λ h. subst P e h;
      holds = found-holds tree parent class.Axis _ at found;
      shaped = found-shaped tree parent class.Axis item at shaped found;
    }

-- an axis with a unit
pub own-some : SlotsBound → (tree cs axis : Item) (unit : ℕ) (o : Option RefusedAt) → Shaped class.Axis axis → IsFound tree class.Axis class.AxisUnit (units_in axis) (Some unit) →
    IsLeast (Misfits cs axis (item_at tree unit)) o → IsLeast (BadOwnUnit cs axis) o
own-some law tree cs axis unit o shaped found h =
    least-same (AnyOf (Misfits cs axis) (units_in axis)) (BadOwnUnit cs axis) o (λ f k. inr k)
    (λ f. ⊎_elim (λ k. let e : [] ≡ item_at tree unit ∷ those class.Axis class.AxisUnit (rest_of (here tree unit)) = sym k.1 ∙ found.0 in absurd cc) (λ k. k))
    (only-of law (Misfits cs axis) tree axis class.Axis class.AxisUnit unit o (refl, omega arith) shaped found h)

pub unit-none : (axes units : List Item) (cs : Item) (o : Option RefusedAt) → units ≡ [] → IsLeast (AnyOf (BadOwnUnit cs) axes) o → IsLeast (BadUnit axes units cs) o
unit-none axes units cs o e h = let P : List Item → Type 0 = λ us. IsLeast (BadUnit axes us cs) o in subst P (sym e) h

pub unit-some : (axes units more : List Item) (cs unit : Item) (a b r : Option RefusedAt) → units ≡ unit ∷ more → IsLeast (AnyOf HasOwnUnit axes) a → IsLeast (BadShared cs axes unit) b →
    r ≡ lesser a b → IsLeast (BadUnit axes units cs) r
unit-some axes units more cs unit a b r e p q is =
    let P : List Item → Type 0 = λ us. IsLeast (BadUnit axes us cs) r in
    subst P (sym e) (either-is (AnyOf HasOwnUnit axes) (BadShared cs axes unit) a b r is p q)
