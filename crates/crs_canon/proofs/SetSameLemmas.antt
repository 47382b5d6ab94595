-- The text of a set shows its members, so that two sets have one text exactly where they are the
-- same.
use Rattle.std.proofs.Common.{◌≡◌, ◌↔◌, ◌⊎◌, ⊎_elim, ℕ, List, [], ◌∷◌, ◌++◌, inl, inr, refl, sym, ◌∙◌, ap, subst}
use Rattle.std.proofs.lemmas.List.{append-nil}
use Rattle.crs_value.specs.Sound.{Each}
use Rattle.crs_same.specs.inner.Prelude.{AllHaveSame, HasSame}
use Rattle.crs_normal.specs.inner.Prelude.{Ascends, IsIn, IsCanonicalForm, IsClosed}
use Rattle.crs_writer.specs.inner.Prelude.{HaveOneTextWhereSame, IsSetText, SpellsOneOf, commas, comma_separated}

-- ---- closed texts after one another

-- no closed text is the front of another
abbrev pub NoFront : Type 0
NoFront = (bytes more : List ℕ) → IsClosed bytes → IsClosed (bytes ++ more) → more ≡ []

none-some : (x : ℕ) (xs : List ℕ) → [] ≡ x ∷ xs → ⊥
none-some x xs e = cc

-- the one goes on to the other, and what follows begins with what is between
abbrev GoesOn : List ℕ → List ℕ → List ℕ → List ℕ → Type 0
GoesOn a b r s = (more : List ℕ) × (b ≡ a ++ more) × (r ≡ more ++ s)

-- one of two fronts of a list goes on to the other
fronts : (a b r s : List ℕ) → a ++ r ≡ b ++ s → GoesOn a b r s ⊎ GoesOn b a s r
fronts [] b r s e = inl (b, refl, e)
fronts (x ∷ a) [] r s e = inr (x ∷ a, refl, sym e)
fronts (x ∷ a) (y ∷ b) r s e =
    let head : x ≡ y = cc in
    let tail : a ++ r ≡ b ++ s = cc in
    ⊎_elim (λ (more, p, q). inl (more, (λ i. sym head i ∷ p i), q)) (λ (more, p, q). inr (more, (λ i. head i ∷ p i), q))
    (fronts a b r s tail)

alone : NoFront → (a b r s : List ℕ) → IsClosed a → IsClosed b → GoesOn a b r s → (a ≡ b) × (r ≡ s)
alone law a b r s p q (more, e, f) =
    let none : more ≡ [] = law a more p (subst IsClosed e q) in
    (sym (append-nil a) ∙ ap (λ x. a ++ x) (sym none) ∙ sym e, f ∙ ap (λ x. x ++ s) none)

-- two closed texts at the start of one list are equal
pub split : NoFront → (a b r s : List ℕ) → IsClosed a → IsClosed b → a ++ r ≡ b ++ s → (a ≡ b) × (r ≡ s)
split law a b r s p q e =
    ⊎_elim (alone law a b r s p q) (λ h. let t = alone law b a s r q p h in (sym t.0, sym t.1)) (fronts a b r s e)

word-not-nil : (word inside : List ℕ) → word ++ 91 ∷ inside ≡ [] → ⊥
word-not-nil [] inside e = none-some 91 inside (sym e)
word-not-nil (b ∷ word) inside e = none-some b (word ++ 91 ∷ inside) (sym e)

-- a closed text isn't empty
pub closed-some : (bytes : List ℕ) → IsClosed bytes → bytes ≡ [] → ⊥
closed-some bytes h e = word-not-nil h.word h.inside (sym h.parts ∙ e)

-- ---- comma_separated texts

commas-tell : NoFront → (xs ys : List (List ℕ)) → Each IsClosed xs → Each IsClosed ys → commas xs ≡ commas ys →
    xs ≡ ys
commas-tell law [] [] p q e = refl
commas-tell law [] (y ∷ ys) p q e = absurd (none-some 44 (y ++ commas ys) e)
commas-tell law (x ∷ xs) [] p q e = absurd (none-some 44 (x ++ commas xs) (sym e))
commas-tell law (x ∷ xs) (y ∷ ys) p q e =
    let tail : x ++ commas xs ≡ y ++ commas ys = cc in
    let both = split law x y (commas xs) (commas ys) p.0 q.0 tail in
    let rest = commas-tell law xs ys p.1 q.1 both.1 in
    λ i. both.0 i ∷ rest i

front-nil : (a b : List ℕ) → a ++ b ≡ [] → a ≡ []
front-nil [] b e = refl
front-nil (x ∷ a) b e = absurd (none-some x (a ++ b) (sym e))

-- closed texts that are comma_separated are one list
pub comma_separated-tell : NoFront → (xs ys : List (List ℕ)) → Each IsClosed xs → Each IsClosed ys → comma_separated xs ≡ comma_separated ys →
    xs ≡ ys
comma_separated-tell law [] [] p q e = refl
comma_separated-tell law [] (y ∷ ys) p q e = absurd (closed-some y q.0 (front-nil y (commas ys) (sym e)))
comma_separated-tell law (x ∷ xs) [] p q e = absurd (closed-some x p.0 (front-nil x (commas xs) e))
comma_separated-tell law (x ∷ xs) (y ∷ ys) p q e =
    commas-tell law (x ∷ xs) (y ∷ ys) p q (ap (λ bytes. 44 ∷ bytes) e)

-- ---- members and their spellings

-- lists that ascend and have the same members are equal
abbrev pub IsOneList : Type 0
IsOneList = (xs ys : List (List ℕ)) → Ascends (λ text. text) xs → Ascends (λ text. text) ys →
    ((text : List ℕ) → IsIn text xs ↔ IsIn text ys) → xs ≡ ys

-- sets of which each has all spellings of the other have one text
one-text : {V : Type 0} (Spells : V → List ℕ → Type 0) (a b : List V) → IsOneList →
    ((text : List ℕ) → SpellsOneOf Spells a text ↔ SpellsOneOf Spells b text) → (first second : List ℕ) →
    IsSetText Spells a first → IsSetText Spells b second → first ≡ second
one-text Spells a b one both first second s t =
    let members : s.members ≡ t.members = one s.members t.members s.ascend t.ascend (λ text. (
      λ p. (t.same text).1 ((both text).0 ((s.same text).0 p)),
      λ p. (s.same text).1 ((both text).1 ((t.same text).0 p)),
    )) in
    s.written ∙ ap comma_separated members ∙ sym t.written

each-of : (P : List ℕ → Type 0) (xs : List (List ℕ)) → ((text : List ℕ) → IsIn text xs → P text) → Each P xs
each-of P [] f = tt
each-of P (x ∷ xs) f = (f x (inl refl), each-of P xs (λ text i. f text (inr i)))

module _ {V : Type 0} (Q : V → Type 0) (Spells : V → List ℕ → Type 0) (Same : V → V → Type 0) (form : IsCanonicalForm Q Same Spells) where
  -- the spelling of a value is that of one of these exactly where one of these is the same
  has : (x : V) (ys : List V) (text : List ℕ) → Q x → Spells x text → Each Q ys → SpellsOneOf Spells ys text ↔ HasSame Same x ys
  has x [] text q p h = (λ none. none, λ none. none)
  has x (y ∷ ys) text q p h =
      let (own, is) = form.there y h.0 in
      let rest = has x ys text q p h.1 in (
        ⊎_elim (λ s. inl ((form.equal x y text text q h.0 p s).0 refl)) (λ s. inr (rest.0 s)),
        ⊎_elim (λ s. inl (subst (Spells y) (sym ((form.equal x y text own q h.0 p is).1 s)) is)) (λ s. inr (rest.1 s)),
      )

  all-to : (xs ys : List V) → Each Q xs → Each Q ys →
      ((text : List ℕ) → SpellsOneOf Spells xs text → SpellsOneOf Spells ys text) → AllHaveSame Same xs ys
  all-to [] ys g h f = tt
  all-to (x ∷ xs) ys g h f =
      let own = form.there x g.0 in
      ((has x ys own.0 g.0 own.1 h).0 (f own.0 (inl own.1)), all-to xs ys g.1 h (λ text p. f text (inr p)))

  all-from : (xs ys : List V) → Each Q xs → Each Q ys → AllHaveSame Same xs ys → (text : List ℕ) →
      SpellsOneOf Spells xs text → SpellsOneOf Spells ys text
  all-from [] ys g h s text none = absurd none
  all-from (x ∷ xs) ys g h s text (inl p) = (has x ys text g.0 p h).1 s.0
  all-from (x ∷ xs) ys g h s text (inr p) = all-from xs ys g.1 h s.1 text p

  closed-member : (xs : List V) → Each Q xs → (text : List ℕ) → SpellsOneOf Spells xs text → IsClosed text
  closed-member [] h text none = absurd none
  closed-member (x ∷ xs) h text (inl p) = form.closed x text h.0 p
  closed-member (x ∷ xs) h text (inr p) = closed-member xs h.1 text p

  -- the bytes of two sets are equal exactly where the sets are the same
  pub set-decides : NoFront → IsOneList → (a b : List V) → Each Q a → Each Q b → HaveOneTextWhereSame Same Spells a b
  set-decides law one a b g h first second s t = (
    λ e.
        let members : s.members ≡ t.members = comma_separated-tell law s.members t.members (closed-in a g first s) (closed-in b h second t)
        (sym s.written ∙ e ∙ t.written) in (
          all-to a b g h (λ text p. (t.same text).0 (subst (λ m. IsIn text m) members ((s.same text).1 p))),
          all-to b a h g (λ text p. (s.same text).0 (subst (λ m. IsIn text m) (sym members) ((t.same text).1 p))),
        ),
    λ same. one-text Spells a b one (λ text. (all-from a b g h same.0 text, all-from b a h g same.1 text)) first second s t,
  )
    where
      closed-in : (c : List V) → Each Q c → (bytes : List ℕ) → (u : IsSetText Spells c bytes) → Each IsClosed u.members
      closed-in c k bytes u = each-of IsClosed u.members (λ text p. closed-member c k text ((u.same text).0 p))

-- where a member of either set gives the law, they have it; two empty sets have one text
pub by-members : {V : Type 0} (Same : V → V → Type 0) (Spells : V → List ℕ → Type 0) (a b : List V) → IsOneList →
    ((v : V) → IsIn v a → HaveOneTextWhereSame Same Spells a b) →
    ((v : V) → IsIn v b → HaveOneTextWhereSame Same Spells a b) → HaveOneTextWhereSame Same Spells a b
by-members Same Spells (x ∷ a) b one f g = f x (inl refl)
by-members Same Spells [] (y ∷ b) one f g = g y (inl refl)
by-members Same Spells [] [] one f g = λ first second s t.
    (λ e. (tt, tt), λ same. one-text Spells [] [] one (λ text. (λ p. p, λ p. p)) first second s t)
