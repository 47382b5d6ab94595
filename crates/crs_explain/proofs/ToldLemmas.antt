-- Two sets of parameters of which nothing is told are the same.
use Rattle.std.proofs.Common.{◌≡◌, ◌∙◌, ◌++◌, ◌⊎◌, ⊎_elim, ℕ, if◌then◌else◌, Some, List, [], ◌∷◌, inl, inr, refl, sym, subst, true≢false}
use Rattle.std.specs.Str.{bytes_eq}
use Rattle.std.proofs.lemmas.Bool.{cases_Bool}
use Rattle.std.proofs.lemmas.Slice.Eq.{bytes_eq-Decides}
use Rattle.crs_shape.specs.declared.unit_kind.UnitKind.TheVariants as kinds
use Rattle.crs_value.specs.inner.Prelude.{ParameterParts, IsIn, IsParameter}
use Rattle.crs_value.specs.Sound.{Each}
use Rattle.crs_value.specs.declared.values.level.Level.{Level}
use Rattle.crs_same.specs.inner.Prelude.{SameParameter, AllHaveSame, HasSame, SameSet, Differences, Parts, identifiers, numbers, units}
use Rattle.crs_same.specs.declared.step.Step.TheVariants as step
use Rattle.crs_normal.specs.inner.Prelude.{IsCanonicalForm, IsSpelledParameter}
use Rattle.crs_writer.specs.inner.Prelude.{SpellsOneOf, commas, comma_separated}
use Rattle.crs_canon.specs.ContentText.{IsLackingText}
use Rattle.crs_canon.specs.Named.{ArePairedNames, named_once, unpaired}
use Rattle.crs_canon.specs.inner.NamesTell.{NamesTell}
use Rattle.crs_explain.specs.Differing.{AreTextsOfName, AreTextsOfNames, AreTextsOfParts, AreTextsOfSet, are_empty, parameter_path, parts_of_parameter, PartTexts}

-- ---- nothing is told

pub both-empty : {A : Type 0} (xs ys : List A) → [] ≡ xs ++ ys → (xs ≡ []) × (ys ≡ [])
both-empty [] ys e = (refl, sym e)
both-empty (x ∷ xs) ys e = absurd (cc)

none-differs : (level : Level) (front : List ℕ) (parts : Parts) → AreTextsOfParts level front parts [] → Differences parts []
none-differs level front parts ([], differ, are) = differ
none-differs level front parts (d ∷ found, differ, (one, others, e, is, are)) = absurd (cc)

-- of parameters of one name
parts-same : (level : Level) (x y : ParameterParts) → x.name ≡ y.name → Differences (parts_of_parameter level x y) [] → SameParameter level x y
parts-same level x y name (first, rest, e, value, (second, third, f, unit, ids)) =
    let a = both-empty first rest e in
    let b = both-empty second third (sym a.1 ∙ f) in
    record {
      name = name;
      value = subst (Differences (numbers [] x.value y.value)) a.0 value;
      unit = subst (Differences (units (step.Unit ∷ []) level kinds.Plain kinds.Plain x.unit y.unit)) b.0 unit;
      identifiers = subst (Differences (identifiers (step.Id ∷ []) level x.identifiers y.identifiers)) b.1 ids;
    }

-- of one of these names
of-name : (level : Level) (path : List ℕ) (xs ys : List ParameterParts) (names : List (List ℕ)) (name : List ℕ) → IsIn name names →
    AreTextsOfNames level path xs ys names [] → AreTextsOfName level path name (named_once name xs) (named_once name ys) []
of-name level path xs ys [] name i are = absurd i
of-name level path xs ys (n ∷ names) name (inl same) (these, others, e, is, are) =
    subst (λ m. AreTextsOfName level path m (named_once m xs) (named_once m ys) []) (sym same)
    (subst (AreTextsOfName level path n (named_once n xs) (named_once n ys)) (both-empty these others e).0 is)
of-name level path xs ys (n ∷ names) name (inr i) (these, others, e, is, are) =
    of-name level path xs ys names name i (subst (AreTextsOfNames level path xs ys names) (both-empty these others e).1 are)

-- of what is left of a set
left-out : (first second : List ℕ) (one : PartTexts) → [] ≡ (if are_empty first second then [] else one ∷ []) → (first ≡ []) × (second ≡ [])
left-out [] [] one e = (refl, refl)
left-out [] (b ∷ bytes) one e = absurd (cc)
left-out (b ∷ bytes) second one e = absurd (cc)

-- ---- members

has-in : {V : Type 0} (Same : V → V → Type 0) (x y : V) (ys : List V) → Same x y → IsIn y ys → HasSame Same x ys
has-in Same x y [] s i = absurd i
has-in Same x y (z ∷ ys) s (inl e) = inl (subst (Same x) e s)
has-in Same x y (z ∷ ys) s (inr i) = inr (has-in Same x y ys s i)

all-of : {V : Type 0} (Same : V → V → Type 0) (xs ys : List V) → ((x : V) → IsIn x xs → (y : V) × IsIn y ys × Same x y) →
    AllHaveSame Same xs ys
all-of Same [] ys f = tt
all-of Same (x ∷ xs) ys f =
    let (y, i, same) = f x (inl refl) in
    (has-in Same x y ys same i, all-of Same xs ys (λ z j. f z (inr j)))

-- each of these is as all are
each-has : (xs : List ParameterParts) → Each IsParameter xs → (z : ParameterParts) → IsIn z xs → IsParameter z
each-has [] h z i = absurd i
each-has (x ∷ xs) h z (inl e) = subst IsParameter (sym e) h.0
each-has (x ∷ xs) h z (inr i) = each-has xs h.1 z i

spells-in : {V : Type 0} (P : V → List ℕ → Type 0) (x : V) (xs : List V) (text : List ℕ) → IsIn x xs → P x text → SpellsOneOf P xs text
spells-in P x [] text i p = absurd i
spells-in P x (y ∷ xs) text (inl e) p = inl (subst (λ z. P z text) e p)
spells-in P x (y ∷ xs) text (inr i) p = inr (spells-in P x xs text i p)

-- a member of texts of which nothing is written
member-empty : (members : List (List ℕ)) (text : List ℕ) → [] ≡ comma_separated members → IsIn text members → text ≡ []
member-empty [] text e i = absurd i
member-empty (m ∷ []) text e (inl same) = same ∙ (both-empty m [] e).0
member-empty (m ∷ []) text e (inr i) = absurd i
member-empty (m ∷ n ∷ members) text e i =
    let none : 44 ∷ (n ++ commas members) ≡ [] = (both-empty m (commas (n ∷ members)) e).1 in absurd (cc)

-- ---- parameters

module _ (tell : NamesTell) (level : Level) (form : IsCanonicalForm IsParameter (SameParameter level) (IsSpelledParameter level))
    (turn : (a b : ParameterParts) → SameParameter level a b → SameParameter level b a) where
  abbrev Spells : ParameterParts → List ℕ → Type 0
  Spells = IsSpelledParameter level

  -- one of these is the same
  abbrev IsAmong : ParameterParts → List ParameterParts → Type 0
  IsAmong x ys = (y : ParameterParts) × IsIn y ys × SameParameter level x y

  -- parameters of a name that stands once on each side are the same
  abbrev AreSameByName : (xs ys : List ParameterParts) → Type 0
  AreSameByName xs ys =
      (name : List ℕ) (x y : ParameterParts) → named_once name xs ≡ Some x → named_once name ys ≡ Some y → SameParameter level x y

  -- these are parameters
  abbrev AreParameters : List ParameterParts → Type 0
  AreParameters xs = (x : ParameterParts) → IsIn x xs → IsParameter x

  found-or-not : (x : ParameterParts) (ys : List ParameterParts) (text : List ℕ) → IsParameter x → Spells x text → AreParameters ys →
      IsAmong x ys ⊎ (SpellsOneOf Spells ys text → ⊥)
  found-or-not x [] text q p h = inr (λ s. s)
  found-or-not x (y ∷ ys) text q p h =
      let q-y = h y (inl refl) in
      let own = form.there y q-y in
      elim (cases_Bool (bytes_eq text own.0)) [
        | inl is ↦ inl (y, inl refl, (form.equal x y text own.0 q q-y p own.1).0 ((bytes_eq-Decides text own.0).0 is))
        | inr other ↦ elim (found-or-not x ys text q p (λ z i. h z (inr i))) [
          | inl (z, i, same) ↦ inl (z, inr i, same)
          | inr n ↦
              inr (λ s. ⊎_elim (λ t. true≢false (sym ((bytes_eq-Decides text own.0).1 (form.one y text own.0 q-y t own.1)) ∙ other)) n s)
        ]
      ]

  -- the others lack none of these, where nothing is written
  none-lacking : (xs ys : List ParameterParts) (written : List ℕ) → AreParameters xs → AreParameters ys →
      IsLackingText Spells xs ys written → written ≡ [] → (x : ParameterParts) → IsIn x xs → IsAmong x ys
  none-lacking xs ys written g h text none x i =
      let q = g x i in
      let own = form.there x q in
      let Lacks : List ℕ → Type 0 = λ t. SpellsOneOf Spells ys t → ⊥ in
      elim (found-or-not x ys own.0 q own.1 h) [
        | inl found ↦ found
        | inr n ↦
            let listed = (text.same own.0).1 (spells-in (λ z t. Spells z t × Lacks t) x xs own.0 i (own.1, n)) in
            let closed = form.closed x own.0 q own.1 in
            let e = sym (member-empty text.members own.0 (sym none ∙ text.written) listed) ∙ closed.parts in
            let rest : 91 ∷ closed.inside ≡ [] = (both-empty closed.word (91 ∷ closed.inside) e).1 in absurd (cc)
      ]

  one-name : (path : List ℕ) (xs ys : List ParameterParts) (names : List (List ℕ)) → ArePairedNames xs ys names →
      AreTextsOfNames level path xs ys names [] → AreSameByName xs ys
  one-name path xs ys names are told name x y e f =
      let i : IsIn name names = (are.same name).1 (rw (e, f) refl) in
      let parts : AreTextsOfParts level (parameter_path path name) (parts_of_parameter level x y) [] =
      rw (e, f) at (of-name level path xs ys names name i told) in
      parts-same level x y ((tell.found name xs x e).1 ∙ sym (tell.found name ys y f).1)
      (none-differs level (parameter_path path name) (parts_of_parameter level x y) parts)

  -- others have each of these
  all-have : (xs ys : List ParameterParts) (written : List ℕ) → AreParameters xs → AreParameters ys → AreSameByName xs ys →
      IsLackingText Spells (unpaired xs ys) (unpaired ys xs) written → written ≡ [] → AllHaveSame (SameParameter level) xs ys
  all-have xs ys written g h named text none = all-of (SameParameter level) xs ys among
    where
      among : (z : ParameterParts) → IsIn z xs → IsAmong z ys
      among z i = elim (tell.either xs ys z i) [
        | inl left ↦
            let (y, j, same) = none-lacking (unpaired xs ys) (unpaired ys xs) written (λ w k. g w (tell.left xs ys w k))
            (λ w k. h w (tell.left ys xs w k)) text none z left in (y, tell.left ys xs y j, same)
        | inr (y, p, q) ↦ (y, (tell.found z.name ys y q).0, named z.name z y p q)
      ]

  pub told-set : (path : List ℕ) (xs ys : List ParameterParts) → Each IsParameter xs → Each IsParameter ys →
      AreTextsOfSet level path xs ys [] → SameSet (SameParameter level) xs ys
  told-set path xs ys g h (names, texts, others, are_names, told, (one, e, (here, first, second)), whole) =
      let split = both-empty texts others whole in
      let empty = left-out one.first one.second one (sym split.1 ∙ e) in
      let these : AreParameters xs = each-has xs g in
      let those : AreParameters ys = each-has ys h in
      let named : AreSameByName xs ys = one-name path xs ys names are_names (subst (AreTextsOfNames level path xs ys names) split.0 told) in (
        all-have xs ys one.first these those named first empty.0,
        all-have ys xs one.second those these (λ name y x f e. turn x y (named name x y e f)) second empty.1,
      )
