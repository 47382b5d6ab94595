-- Parameters by their names: which stands alone, the names in order, and the spellings of some.
use Rattle.std.proofs.Common.{◌≡◌, ◌↔◌, ◌∙◌, ◌&&◌, ◌⊎◌, ⊎_elim, ℕ, Bool, true, false, not, cond, if◌then◌else◌, Option, Some, None, List, [], ◌∷◌, filter, map, inl, inr, refl, sym, ap, subst, nat_le, length}
use Rattle.std.specs.Option.{is_some}
use Rattle.std.specs.Str.{bytes_eq}
use Rattle.std.proofs.lemmas.Slice.Eq.{bytes_eq-Decides}
use Rattle.std.proofs.lemmas.Bool.{cases_Bool, false≢true, not_from_false}
use Rattle.crs_value.specs.inner.Prelude.{ParameterParts}
use Rattle.crs_value.specs.declared.values.level.Level.{Level}
use Rattle.crs_normal.specs.inner.Prelude.{Ascends, IsIn, IsSpelledParameter, in_order, parameter_text, put_all}
use Rattle.crs_canon.specs.Named.{ArePairedNames, is_paired, named_once, of_name, only, unpaired}
use Rattle.crs_canon.specs.inner.NamesTell.{NamesTell}
use Rattle.crs_writer.specs.inner.Prelude.{AreSpellingsOf, ArePut}

-- ---- members that pass a test

passed-by : {V : Type 0} (b : Bool) (x y : V) (ys : List V) → IsIn x (cond b (y ∷ ys) ys) ↔ (((x ≡ y) × (b ≡ true)) ⊎ IsIn x ys)
passed-by true x y ys = (⊎_elim (λ same. inl (same, refl)) (λ i. inr i), ⊎_elim (λ (same, e). inl same) (λ i. inr i))
passed-by false x y ys = (λ i. inr i, ⊎_elim (λ (same, e). absurd (false≢true e)) (λ i. i))

pub in-passed : {V : Type 0} (test : V → Bool) (x : V) (xs : List V) → IsIn x xs → test x ≡ true → IsIn x (filter test xs)
in-passed test x [] i e = absurd i
in-passed test x (y ∷ xs) (inl same) e =
    (passed-by (test y) x y (filter test xs)).1 (inl (same, subst (λ z. test z ≡ true) same e))
in-passed test x (y ∷ xs) (inr i) e = (passed-by (test y) x y (filter test xs)).1 (inr (in-passed test x xs i e))

pub from-passed : {V : Type 0} (test : V → Bool) (x : V) (xs : List V) → IsIn x (filter test xs) → IsIn x xs × (test x ≡ true)
from-passed test x [] i = absurd i
from-passed test x (y ∷ xs) i =
    ⊎_elim (λ (same, e). (inl same, subst (λ z. test z ≡ true) (sym same) e))
    (λ j. let (is, e) = from-passed test x xs j in (inr is, e)) ((passed-by (test y) x y (filter test xs)).0 i)

-- ---- the member of a list that has one alone

-- what was found before what is left
abbrev pub found_before : Option ParameterParts → List ParameterParts → List ParameterParts
found_before None left = left
found_before (Some x) left = x ∷ left

only-one : {V : Type 0} (zs : List V) (x : V) → only zs ≡ Some x → zs ≡ x ∷ []
only-one [] x e = let none : ⊥ = cc in absurd none
only-one (y ∷ []) x e = cc
only-one (y ∷ w ∷ zs) x e = let none : ⊥ = cc in absurd none

once-only : (name : List ℕ) (xs : List ParameterParts) (x : ParameterParts) → named_once name xs ≡ Some x → of_name name xs ≡ x ∷ []
once-only name xs x = by (nat_le (length xs) 64)
  where
    by : (b : Bool) → (if b then only (of_name name xs) else None) ≡ Some x → of_name name xs ≡ x ∷ []
    by true e = only-one (of_name name xs) x e
    by false e = let none : ⊥ = cc in absurd none

-- the parameter of a name that stands once is each of this name
is-once : (xs : List ParameterParts) (x z : ParameterParts) → named_once z.name xs ≡ Some x → IsIn z xs → z ≡ x
is-once xs x z e i =
    ⊎_elim (λ same. same) (λ none. absurd none) (subst (IsIn z) (once-only z.name xs x e)
    (in-passed (λ p. bytes_eq p.name z.name) z xs i ((bytes_eq-Decides z.name z.name).1 refl)))

-- it is one of them, and has the name
of-once : (name : List ℕ) (xs : List ParameterParts) (x : ParameterParts) → named_once name xs ≡ Some x → IsIn x xs × (x.name ≡ name)
of-once name xs x e =
    let found = from-passed (λ p. bytes_eq p.name name) x xs (subst (IsIn x) (sym (once-only name xs x e)) (inl refl)) in
    (found.0, (bytes_eq-Decides x.name name).0 found.1)

both-some : {V : Type 0} (p q : Option V) → (is_some p && is_some q) ≡ true → (x : V) × (y : V) × (p ≡ Some x) × (q ≡ Some y)
both-some (Some x) (Some y) e = (x, y, refl, refl)
both-some (Some x) None e = absurd (false≢true e)
both-some None q e = absurd (false≢true e)

-- what names tell
pub names-tell : NamesTell
names-tell = record { found = of-once; either = either; left = λ xs ys x i. (from-passed (is-left xs ys) x xs i).0 }
  where
    is-left : (xs ys : List ParameterParts) → ParameterParts → Bool
    is-left xs ys x = not (is_paired xs ys x.name)

    either : (xs ys : List ParameterParts) (x : ParameterParts) → IsIn x xs → IsIn x (unpaired xs ys)
        ⊎ ((y : ParameterParts) × (named_once x.name xs ≡ Some x) × (named_once x.name ys ≡ Some y))
    either xs ys x i = elim (cases_Bool (is_paired xs ys x.name)) [
      | inl is ↦
          let (z, y, p, q) = both-some (named_once x.name xs) (named_once x.name ys) is in
          inr (y, p ∙ ap Some (sym (is-once xs z x p i)), q)
      | inr other ↦ inl (in-passed (is-left xs ys) x xs i (not_from_false (is_paired xs ys x.name) other))
    ]

-- ---- names

name-in : (x : ParameterParts) (xs : List ParameterParts) → IsIn x xs → IsIn x.name (map (λ z. z.name) xs)
name-in x [] i = absurd i
name-in x (y ∷ xs) (inl e) = inl (ap (λ z. z.name) e)
name-in x (y ∷ xs) (inr i) = inr (name-in x xs i)

named-by : (name : List ℕ) (xs : List ParameterParts) → IsIn name (map (λ z. z.name) xs) → (x : ParameterParts) × IsIn x xs × (x.name ≡ name)
named-by name [] i = absurd i
named-by name (x ∷ xs) (inl e) = (x, inl refl, sym e)
named-by name (x ∷ xs) (inr i) = let (z, is, e) = named-by name xs i in (z, inr is, e)

-- the names of those that are paired, in the order of these
abbrev pub names_paired : (xs ys : List ParameterParts) → List (List ℕ)
names_paired xs ys = map (λ x. x.name) (filter (λ x. is_paired xs ys x.name) xs)

-- the names that are found are those that are paired
paired-in : (xs ys : List ParameterParts) (name : List ℕ) → IsIn name (names_paired xs ys) ↔ (is_paired xs ys name ≡ true)
paired-in xs ys name = (
  λ i.
      let (x, is, e) = named-by name (filter (λ x. is_paired xs ys x.name) xs) i in
      subst (λ n. is_paired xs ys n ≡ true) e (from-passed (λ x. is_paired xs ys x.name) x xs is).1,
  λ p.
      let (x, y, e, f) = both-some (named_once name xs) (named_once name ys) p in
      let (is, same) = of-once name xs x e in
      let passes : is_paired xs ys x.name ≡ true = subst (λ n. is_paired xs ys n ≡ true) (sym same) p in
      subst (λ n. IsIn n (names_paired xs ys)) same
      (name-in x (filter (λ z. is_paired xs ys z.name) xs) (in-passed (λ z. is_paired xs ys z.name) x xs is passes)),
)

pub names-known : (xs ys : List ParameterParts) (before after : List (List ℕ)) → before ≡ [] →
    ((texts : List (List ℕ)) → Ascends (λ text. text) (in_order (λ text. text) texts)) →
    ((texts : List (List ℕ)) (text : List ℕ) → IsIn text (in_order (λ text. text) texts) ↔ IsIn text texts) →
    after ≡ put_all (λ b. b) before (names_paired xs ys) → ArePairedNames xs ys after
names-known xs ys before after none ascend members e =
    let texts : List (List ℕ) = names_paired xs ys in
    let is : after ≡ in_order (λ text. text) texts = e ∙ ap (λ start. put_all (λ b. b) start texts) none in
    record {
      ascend = subst (λ names. Ascends (λ name. name) names) (sym is) (ascend texts);
      same = λ name.
          let in-texts : IsIn name after ↔ IsIn name texts = subst (λ names. IsIn name names ↔ IsIn name texts) (sym is) (members texts name) in
          let paired = paired-in xs ys name in
          (λ i. paired.0 (in-texts.0 i), λ p. in-texts.1 (paired.1 p));
    }

-- ---- the spellings of those that pass a test

spelled-passed : {V : Type 0} (IsSpelling : V → List ℕ → Type 0) (text : V → List ℕ) (test : V → Bool) (xs : List V) →
    AreSpellingsOf IsSpelling xs (map text xs) → AreSpellingsOf IsSpelling (filter test xs) (map text (filter test xs))
spelled-passed IsSpelling text test [] all = tt
spelled-passed IsSpelling text test (x ∷ xs) all =
    let rest = spelled-passed IsSpelling text test xs all.1 in
    elim (test x) as (λ b. AreSpellingsOf IsSpelling (cond b (x ∷ filter test xs) (filter test xs))
    (map text (cond b (x ∷ filter test xs) (filter test xs)))) [ true ↦ (all.0, rest) | false ↦ rest ]

-- parameters that aren't paired are put in
pub put-unpaired : (level : Level) (xs ys : List ParameterParts) (before after : List (List ℕ)) →
    AreSpellingsOf (IsSpelledParameter level) xs (map (parameter_text level) xs) →
    after ≡ put_all (λ b. b) before (map (parameter_text level) (unpaired xs ys)) →
    ArePut (IsSpelledParameter level) (unpaired xs ys) before after
put-unpaired level xs ys before after spelled put = record {
  texts = map (parameter_text level) (unpaired xs ys);
  spelled = spelled-passed (IsSpelledParameter level) (parameter_text level) (λ x. not (is_paired xs ys x.name)) xs spelled;
  all_put = put;
}
