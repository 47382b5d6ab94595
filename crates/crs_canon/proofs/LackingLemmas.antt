-- Spellings put in order, without those among others, are the text of the members whose spelling no other has.
use Rattle.std.proofs.Common.{◌≡◌, ◌↔◌, ◌∙◌, ◌||◌, ◌++◌, ℕ, Bool, true, false, cond, not, Decides, List, [], ◌∷◌, Vec, filter, MatchResult, Result, Ordering, Less, Equal, Greater, inl, inr, ⊎_elim, refl, sym, ap, ap₂, subst}
use Rattle.std.specs.BTreeSet.{contains, insert_key}
use Rattle.std.specs.Cmp.Lexicographic.{slice_cmp}
use Rattle.std.specs.List.{list_any}
use Rattle.std.specs.Ordering.{match_ordering, nat_cmp}
use Rattle.std.specs.Str.{bytes_eq}
use Rattle.std.specs.declared.alloc.Global.{Global}
use Rattle.std.proofs.lemmas.Map.Text.{is_eq-slice_cmp}
use Rattle.std.proofs.lemmas.Slice.Eq.{bytes_eq-Decides}
use Rattle.std.proofs.lemmas.Bool.{false≢true}
use Rattle.std.proofs.lemmas.Bool.Decides.{Decides-not, Decides-or}
use Rattle.std.proofs.lemmas.Result.{MatchResult-weaker}
use Rattle.crs_value.specs.Sound.{Each}
use Rattle.crs_normal.specs.inner.Prelude.{Ascends, Below, IsIn, in_order, put, put_all}
use Rattle.crs_canon.specs.ContentText.{IsLackingText}
use Rattle.crs_writer.specs.inner.Prelude.{AppendsSpelling, ArePut, lacking, spellings, SpellsOneOf, comma_separated}
use Rattle.crs_canon.proofs.NamedLemmas.{from-passed, in-passed}
use Rattle.crs_canon.proofs.SetTextLemmas.{spellings-tell}

-- ---- keys of a set

-- the order of keys
abbrev compared : Vec ℕ Global → Vec ℕ Global → Ordering
compared a b = slice_cmp nat_cmp a.items b.items

-- the spelling of a key that is put into a set is put among the others
pub spellings-insert : (key : Vec ℕ Global) (keys : List (Vec ℕ Global)) →
    spellings (insert_key compared keys key) ≡ put (λ bytes. bytes) key.items (spellings keys)
spellings-insert key [] = refl
spellings-insert key (x ∷ keys) =
    elim (compared key x) as (λ o. spellings (match_ordering o (key ∷ x ∷ keys) (x ∷ keys) (x ∷ insert_key compared keys key))
    ≡ match_ordering o (key.items ∷ spellings (x ∷ keys)) (spellings (x ∷ keys)) (x.items ∷ put (λ bytes. bytes) key.items (spellings keys))) [
      | Less ↦ refl
      | Equal ↦ refl
      | Greater ↦ ap (λ rest. x.items ∷ rest) (spellings-insert key keys)
    ]

has-spelling : (key : Vec ℕ Global) (keys : List (Vec ℕ Global)) →
    contains compared (record { keys = keys }) key ≡ list_any (bytes_eq key.items) (spellings keys)
has-spelling key [] = refl
has-spelling key (x ∷ keys) =
    ap₂ (λ (a b : Bool). a || b) (is_eq-slice_cmp key.items x.items) (has-spelling key keys)

pub lacking-spelled : (these others : List (Vec ℕ Global)) →
    spellings (filter (λ key. not (contains compared (record { keys = others }) key)) these) ≡ lacking (spellings these) (spellings others)
lacking-spelled [] others = refl
lacking-spelled (key ∷ these) others =
    let rest = filter (λ key. not (contains compared (record { keys = others }) key)) these in
    elim (not (contains compared (record { keys = others }) key)) as (λ b. spellings (cond b (key ∷ rest) rest)
    ≡ cond b (key.items ∷ spellings rest) (spellings rest)) [ true ↦ refl | false ↦ refl ]
    ∙ ap₂ (λ (test : Bool) (texts : List (List ℕ)). cond (not test) (key.items ∷ texts) texts) (has-spelling key others)
    (lacking-spelled these others)

-- ---- texts without others

among : (text : List ℕ) (others : List (List ℕ)) → Decides (list_any (bytes_eq text) others) (IsIn text others)
among text [] = (λ e. false≢true e, λ none. absurd none)
among text (other ∷ others) =
    Decides-or (bytes_eq text other) (list_any (bytes_eq text) others) (bytes_eq-Decides text other) (among text others)

lacking-has : (these others : List (List ℕ)) (text : List ℕ) → IsIn text (lacking these others) ↔ (IsIn text these × (¬ (IsIn text others)))
lacking-has these others text =
    let lacks : List ℕ → Bool = λ t. not (list_any (bytes_eq t) others) in
    let tell = Decides-not (list_any (bytes_eq text) others) (among text others) in (
      λ p. let (is, passes) = from-passed lacks text these p in (is, tell.0 passes),
      λ (is, none). in-passed lacks text these is (tell.1 none),
    )

each-passed : (P : List ℕ → Type 0) (test : List ℕ → Bool) (xs : List (List ℕ)) → Each P xs → Each P (filter test xs)
each-passed P test [] h = tt
each-passed P test (x ∷ xs) h =
    let rest = each-passed P test xs h.1 in
    elim (test x) as (λ b. Each P (cond b (x ∷ filter test xs) (filter test xs))) [ true ↦ (h.0, rest) | false ↦ rest ]

passed-ascends : (test : List ℕ → Bool) (xs : List (List ℕ)) → Ascends (λ text. text) xs → Ascends (λ text. text) (filter test xs)
passed-ascends test [] h = tt
passed-ascends test (x ∷ xs) h =
    let rest = passed-ascends test xs h.1 in
    elim (test x) as (λ b. Ascends (λ text. text) (cond b (x ∷ filter test xs) (filter test xs))) [
      | true ↦ (each-passed (Below x) test xs h.0, rest)
      | false ↦ rest
    ]

-- ---- members whose spelling no other has

module _ {V : Type 0} (IsSpelling : V → List ℕ → Type 0) where
  spells-lacking : (Q : List ℕ → Type 0) (values : List V) (text : List ℕ) →
      SpellsOneOf (λ value t. IsSpelling value t × Q t) values text ↔ (SpellsOneOf IsSpelling values text × Q text)
  spells-lacking Q [] text = (λ p. absurd p, λ p. p.0)
  spells-lacking Q (value ∷ values) text =
      let rest = spells-lacking Q values text in (
        λ p. ⊎_elim (λ q. (inl q.0, q.1)) (λ q. (inr (rest.0 q).0, (rest.0 q).1)) p,
        λ p. ⊎_elim (λ q. inl (q, p.1)) (λ q. inr (rest.1 (q, p.1))) p.0,
      )

  -- what is put into an empty set is in order, and known by the spellings
  sorted : (values : List V) (start keys : List (List ℕ)) → start ≡ [] → (p : ArePut IsSpelling values start keys) →
      keys ≡ in_order (λ text. text) p.texts
  sorted values start keys none p = p.all_put ∙ ap (λ s. put_all (λ text. text) s p.texts) none

  put-tells : ((texts : List (List ℕ)) (text : List ℕ) → IsIn text (in_order (λ text. text) texts) ↔ IsIn text texts) →
      (values : List V) (start keys : List (List ℕ)) → start ≡ [] → ArePut IsSpelling values start keys → (text : List ℕ) →
      IsIn text keys ↔ SpellsOneOf IsSpelling values text
  put-tells same values start keys none p text =
      let tell = spellings-tell IsSpelling values p.texts p.spelled text in
      let among : IsIn text keys ↔ IsIn text p.texts =
      subst (λ k. IsIn text k ↔ IsIn text p.texts) (sym (sorted values start keys none p)) (same p.texts text) in
      (λ q. tell.0 (among.0 q), λ q. among.1 (tell.1 q))

  -- what is appended of two such sets is the text of the members that the others lack
  pub lacking-appended : {T E : Type 0} → ((texts : List (List ℕ)) → Ascends (λ text. text) (in_order (λ text. text) texts)) →
      ((texts : List (List ℕ)) (text : List ℕ) → IsIn text (in_order (λ text. text) texts) ↔ IsIn text texts) →
      (these others : List V) (start keys other_start other_keys : List (Vec ℕ Global)) (before after : List ℕ) (r : Result T E) →
      spellings start ≡ [] → spellings other_start ≡ [] → ArePut IsSpelling these (spellings start) (spellings keys) →
      ArePut IsSpelling others (spellings other_start) (spellings other_keys) →
      MatchResult r (λ _. after ≡ before ++ comma_separated (lacking (spellings keys) (spellings other_keys))) (λ _. after ≡ before) →
      MatchResult r (λ _. AppendsSpelling (IsLackingText IsSpelling these others) before after) (λ _. after ≡ before)
  lacking-appended ascend same these others start keys other_start other_keys before after r none none_other put other_put appended =
      MatchResult-weaker r appended (λ _ e. record { spelling = comma_separated members; appended = e; is_spelling = is }) (λ _ e. e)
    where
      members : List (List ℕ)
      members = lacking (spellings keys) (spellings other_keys)

      is : IsLackingText IsSpelling these others (comma_separated members)
      is = record {
        members = members;
        ascend = passed-ascends _ (spellings keys)
            (subst (Ascends (λ text. text)) (sym (sorted these (spellings start) (spellings keys) none put)) (ascend put.texts));
        same = λ text.
            let has = lacking-has (spellings keys) (spellings other_keys) text in
            let tell = put-tells same these (spellings start) (spellings keys) none put text in
            let other = put-tells same others (spellings other_start) (spellings other_keys) none_other other_put text in
            let spell = spells-lacking (λ t. ¬ (SpellsOneOf IsSpelling others t)) these text in (
              λ h. spell.1 (tell.0 (has.0 h).0, λ s. (has.0 h).1 (other.1 s)),
              λ s. has.1 (tell.1 (spell.0 s).0, λ h. (spell.0 s).1 (other.0 h)),
            );
        written = refl;
      }
