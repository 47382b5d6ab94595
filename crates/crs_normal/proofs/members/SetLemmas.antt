-- Lists in ascending order of their bytes: their members; they are one list where their members are
-- the same.
use Rattle.std.proofs.Common.{◌≡◌, ◌↔◌, ◌⊎◌, ℕ, List, [], ◌∷◌, map, inl, inr, Ordering, Less, Equal, Greater, refl, sym, ◌∙◌, ap, subst}
use Rattle.std.proofs.Math.Logic.{⊎_elim, ⊎_map}
use Rattle.std.specs.Cmp.Lexicographic.{slice_cmp}
use Rattle.std.specs.Ordering.{nat_cmp, match_ordering, ordering_reverse}
use Rattle.std.proofs.lemmas.Cmp.{nat_list_cmp_total}
use Rattle.std.proofs.lemmas.Map.Lookups.{exact_bytes}
use Rattle.crs_value.specs.Sound.{Each}
use Rattle.crs_same.specs.inner.Prelude.{HasSame, AllHaveSame, SameSet}
use Rattle.crs_normal.specs.inner.Prelude.{Ascends, Below, IsIn, put, put_all, in_order}
use Rattle.crs_normal.proofs.read.ViewLemmas.{each-so}

-- ---- the order of bytes

below-self : (a : List ℕ) → Below a a → ⊥
below-self a e =
    let k : Less ≡ Greater = sym e ∙ nat_list_cmp_total.antisymm a a ∙ ap ordering_reverse e in cc

below-both : (a b : List ℕ) → Below a b → Below b a → ⊥
below-both a b p q = below-self a (nat_list_cmp_total.trans a b a p q)

above : (a b : List ℕ) → slice_cmp nat_cmp a b ≡ Greater → Below b a
above a b e = nat_list_cmp_total.antisymm b a ∙ ap ordering_reverse e

pub by-order : {X : Type 0} (P : X → Type 0) (a b c : X) (o : Ordering) → (o ≡ Less → P a) → (o ≡ Equal → P b) →
    (o ≡ Greater → P c) →
    P (match_ordering o a b c)
by-order P a b c Less f g h = f refl
by-order P a b c Equal f g h = g refl
by-order P a b c Greater f g h = h refl

-- the bytes of one are below those of the other
abbrev pub IsBelow : {A : Type 0} → (A → List ℕ) → A → A → Type 0
IsBelow bytes x y = Below (bytes x) (bytes y)

-- ---- members

pub each-has : {A : Type 0} (P : A → Type 0) (xs : List A) (z : A) → Each P xs → IsIn z xs → P z
each-has P [] z h q = absurd q
each-has P (x ∷ xs) z h (inl e) = subst P (sym e) h.0
each-has P (x ∷ xs) z h (inr q) = each-has P xs z h.1 q

pub each-of : {A : Type 0} (P : A → Type 0) (xs : List A) → ((z : A) → IsIn z xs → P z) → Each P xs
each-of P [] f = tt
each-of P (x ∷ xs) f = (f x (inl refl), each-of P xs (λ z h. f z (inr h)))

module _ {A : Type 0} (bytes : A → List ℕ) where
  has-old : (x z : A) (ys : List A) → IsIn z ys → IsIn z (put bytes x ys)
  has-old x z [] h = absurd h
  has-old x z (y ∷ ys) h =
      by-order (IsIn z) _ _ _ (slice_cmp nat_cmp (bytes x) (bytes y)) (λ e. inr h) (λ e. h)
      (λ e. ⊎_elim (λ q. inl q) (λ t. inr (has-old x z ys t)) h)

  has-back : (x z : A) (ys : List A) → IsIn z (put bytes x ys) → (z ≡ x) ⊎ IsIn z ys
  has-back x z [] h = h
  has-back x z (y ∷ ys) h =
      by-order (λ l. IsIn z l → (z ≡ x) ⊎ IsIn z (y ∷ ys)) _ _ _ (slice_cmp nat_cmp (bytes x) (bytes y)) (λ e p. p)
      (λ e p. inr p)
      (λ e p. ⊎_elim (λ q. inr (inl q)) (λ t. ⊎_elim (λ q. inl q) (λ u. inr (inr u)) (has-back x z ys t)) p) h

  has-new : (x : A) (ys : List A) → ((y : A) → IsIn y ys → bytes x ≡ bytes y → x ≡ y) → IsIn x (put bytes x ys)
  has-new x [] tells = inl refl
  has-new x (y ∷ ys) tells =
      by-order (IsIn x) _ _ _ (slice_cmp nat_cmp (bytes x) (bytes y)) (λ e. inl refl)
      (λ e. inl (tells y (inl refl) (exact_bytes (bytes x) (bytes y) e)))
      (λ e. inr (has-new x ys (λ z h. tells z (inr h))))

  each-put : (P : A → Type 0) (x : A) (ys : List A) → P x → Each P ys → Each P (put bytes x ys)
  each-put P x ys p h =
      each-of P (put bytes x ys) (λ z q. ⊎_elim (λ e. subst P (sym e) p) (λ t. each-has P ys z h t) (has-back x z ys q))

  put-ascends : (x : A) (ys : List A) → Ascends bytes ys → Ascends bytes (put bytes x ys)
  put-ascends x [] h = (tt, tt)
  put-ascends x (y ∷ ys) h =
      by-order (Ascends bytes) _ _ _ (slice_cmp nat_cmp (bytes x) (bytes y))
      (λ e. ((e, each-so _ _ (λ z. nat_list_cmp_total.trans (bytes x) (bytes y) (bytes z) e) ys h.0), h)) (λ e. h)
      (λ e. (each-put (λ z. Below (bytes y) (bytes z)) x ys (above (bytes x) (bytes y) e) h.0, put-ascends x ys h.1))

  all-ascend : (sorted xs : List A) → Ascends bytes sorted → Ascends bytes (put_all bytes sorted xs)
  all-ascend sorted [] h = h
  all-ascend sorted (x ∷ xs) h = all-ascend (put bytes x sorted) xs (put-ascends x sorted h)

  pub all-old : (z : A) (sorted xs : List A) → IsIn z sorted → IsIn z (put_all bytes sorted xs)
  all-old z sorted [] h = h
  all-old z sorted (x ∷ xs) h = all-old z (put bytes x sorted) xs (has-old x z sorted h)

  all-back : (z : A) (sorted xs : List A) → IsIn z (put_all bytes sorted xs) → IsIn z sorted ⊎ IsIn z xs
  all-back z sorted [] h = inl h
  all-back z sorted (x ∷ xs) h =
      ⊎_elim (λ q. ⊎_elim (λ e. inr (inl e)) (λ t. inl t) (has-back x z sorted q)) (λ t. inr (inr t))
      (all-back z (put bytes x sorted) xs h)

  -- members of this kind with equal bytes are equal
  abbrev pub Tells : (A → Type 0) → Type 0
  Tells P = (a b : A) → P a → P b → bytes a ≡ bytes b → a ≡ b

  all-new : (P : A → Type 0) → Tells P → (z : A) (sorted xs : List A) → Each P sorted → Each P xs → IsIn z xs →
      IsIn z (put_all bytes sorted xs)
  all-new P tells z sorted [] s h q = absurd q
  all-new P tells z sorted (x ∷ xs) s h (inl e) =
      all-old z (put bytes x sorted) xs
      (subst (λ w. IsIn w (put bytes x sorted)) (sym e)
      (has-new x sorted (λ y q. tells x y h.0 (each-has P sorted y s q))))
  all-new P tells z sorted (x ∷ xs) s h (inr q) =
      all-new P tells z (put bytes x sorted) xs (each-put P x sorted h.0 s) h.1 q

  -- ---- lists in order

  pub in_order-ascends : (xs : List A) → Ascends bytes (in_order bytes xs)
  in_order-ascends xs = all-ascend [] xs tt

  pub in_order-back : (z : A) (xs : List A) → IsIn z (in_order bytes xs) → IsIn z xs
  in_order-back z xs h = ⊎_elim (λ q. absurd q) (λ t. t) (all-back z [] xs h)

  pub in_order-has : (P : A → Type 0) → Tells P → (z : A) (xs : List A) → Each P xs → IsIn z xs →
      IsIn z (in_order bytes xs)
  in_order-has P tells z xs h q = all-new P tells z [] xs tt h q

  pub each-in_order : (P : A → Type 0) (xs : List A) → Each P xs → Each P (in_order bytes xs)
  each-in_order P xs h = each-of P (in_order bytes xs) (λ z q. each-has P xs z h (in_order-back z xs q))

  -- bytes that are below others are none of them
  above-apart : (x : A) (xs : List A) (z : A) → Each (λ u. Below (bytes x) (bytes u)) xs → IsIn z xs →
      bytes x ≡ bytes z → ⊥
  above-apart x xs z s q e =
      below-self (bytes x) (subst (Below (bytes x)) (sym e) (each-has (λ u. Below (bytes x) (bytes u)) xs z s q))

  -- lists that ascend and have the same members are equal
  pub ascending-one : (xs ys : List A) → Ascends bytes xs → Ascends bytes ys → ((z : A) → IsIn z xs → IsIn z ys) →
      ((z : A) → IsIn z ys → IsIn z xs) →
      xs ≡ ys
  ascending-one [] [] a b f g = refl
  ascending-one [] (y ∷ ys) a b f g = absurd (g y (inl refl))
  ascending-one (x ∷ xs) [] a b f g = absurd (f x (inl refl))
  ascending-one (x ∷ xs) (y ∷ ys) a b f g =
      let h = head (f x (inl refl)) (g y (inl refl)) in
      let t = ascending-one xs ys a.1 b.1 (λ z q. later x y xs ys z a.0 h q (f z (inr q)))
      (λ z q. later y x ys xs z b.0 (sym h) q (g z (inr q))) in
      λ i. h i ∷ t i
    where
      head : IsIn x (y ∷ ys) → IsIn y (x ∷ xs) → x ≡ y
      head (inl e) q = e
      head (inr p) (inl e) = sym e
      head (inr p) (inr q) =
          absurd
          (below-both (bytes x) (bytes y) (each-has (λ z. Below (bytes x) (bytes z)) xs y a.0 q)
          (each-has (λ z. Below (bytes y) (bytes z)) ys x b.0 p))

      later : (v w : A) (vs ws : List A) (z : A) → Each (λ u. Below (bytes v) (bytes u)) vs → v ≡ w → IsIn z vs →
          IsIn z (w ∷ ws) → IsIn z ws
      later v w vs ws z s e q (inl p) = absurd (above-apart v vs z s q (ap bytes (e ∙ sym p)))
      later v w vs ws z s e q (inr p) = p

  ascending-tells : (xs : List A) → Ascends bytes xs → Tells (λ z. IsIn z xs)
  ascending-tells [] s a b p q e = absurd p
  ascending-tells (x ∷ xs) s a b (inl p) (inl q) e = p ∙ sym q
  ascending-tells (x ∷ xs) s a b (inl p) (inr q) e = absurd (above-apart x xs b s.0 q (ap bytes (sym p) ∙ e))
  ascending-tells (x ∷ xs) s a b (inr p) (inl q) e = absurd (above-apart x xs a s.0 p (ap bytes (sym q) ∙ sym e))
  ascending-tells (x ∷ xs) s a b (inr p) (inr q) e = ascending-tells xs s.1 a b p q e

  -- what ascends is in order
  pub in_order-of : (xs : List A) → Ascends bytes xs → in_order bytes xs ≡ xs
  in_order-of xs s =
      ascending-one (in_order bytes xs) xs (in_order-ascends xs) s (λ z h. in_order-back z xs h)
      (λ z h. in_order-has (λ w. IsIn w xs) (ascending-tells xs s) z xs (each-of (λ w. IsIn w xs) xs (λ w q. q)) h)

-- ---- sets: in order, the normal members are the same list exactly where the sets are the same

module _ {V A : Type 0} (norm : V → A) (bytes : A → List ℕ) (Q : V → Type 0) (Same : V → V → Type 0) where
  -- normal members are equal exactly where the members are the same
  abbrev pub Agrees : Type 0
  Agrees = (a b : V) → Q a → Q b → (norm a ≡ norm b) ↔ Same a b

  -- equal bytes are of equal normal members
  abbrev pub NormTells : Type 0
  NormTells = (a b : V) → Q a → Q b → bytes (norm a) ≡ bytes (norm b) → norm a ≡ norm b

  has-one : Agrees → (x : V) (ys : List V) → Q x → Each Q ys → IsIn (norm x) (map norm ys) ↔ HasSame Same x ys
  has-one agree x [] q h = (λ p. p, λ p. p)
  has-one agree x (y ∷ ys) q h =
      let here = agree x y q h.0 in
      let later = has-one agree x ys q h.1 in (⊎_map here.0 later.0, ⊎_map here.1 later.1)

  all-have : Agrees → (xs ys : List V) → Each Q xs → Each Q ys →
      ((z : A) → IsIn z (map norm xs) → IsIn z (map norm ys)) ↔ AllHaveSame Same xs ys
  all-have agree [] ys g h = (λ f. tt, λ s z p. absurd p)
  all-have agree (x ∷ xs) ys g h =
      let here = has-one agree x ys g.0 h in
      let later = all-have agree xs ys g.1 h in (
        λ f. (here.0 (f (norm x) (inl refl)), later.0 (λ z p. f z (inr p))),
        λ s z. ⊎_elim (λ e. subst (λ w. IsIn w (map norm ys)) (sym e) (here.1 s.0)) (later.1 s.1 z),
      )

  -- the normal value of one of this kind
  abbrev IsNormOf : A → Type 0
  IsNormOf a = (v : V) × Q v × (norm v ≡ a)

  norms : (xs : List V) → Each Q xs → Each IsNormOf (map norm xs)
  norms [] h = tt
  norms (x ∷ xs) h = ((x, h.0, refl), norms xs h.1)

  norm-tells : NormTells → Tells bytes IsNormOf
  norm-tells tells a b p q e = sym p.2 ∙ tells p.0 q.0 p.1 q.1 (ap bytes p.2 ∙ e ∙ sym (ap bytes q.2)) ∙ q.2

  -- each of the normal values is among them in order
  pub set-has : NormTells → (xs : List V) → Each Q xs → (z : A) → IsIn z (map norm xs) → IsIn z (in_order bytes (map norm xs))
  set-has tells xs g z = in_order-has bytes IsNormOf (norm-tells tells) z (map norm xs) (norms xs g)

  moved : NormTells → (xs ys : List V) → Each Q xs → in_order bytes (map norm xs) ≡ in_order bytes (map norm ys) →
      (z : A) → IsIn z (map norm xs) → IsIn z (map norm ys)
  moved tells xs ys g e z p =
      in_order-back bytes z (map norm ys)
      (subst (λ l. IsIn z l) e (set-has tells xs g z p))

  kept : Agrees → NormTells → (xs ys : List V) → Each Q xs → Each Q ys → AllHaveSame Same xs ys →
      (z : A) → IsIn z (in_order bytes (map norm xs)) → IsIn z (in_order bytes (map norm ys))
  kept agree tells xs ys g h s z p =
      set-has tells ys h z
      ((all-have agree xs ys g h).1 s z (in_order-back bytes z (map norm xs) p))

  pub set-agrees : Agrees → NormTells → (xs ys : List V) → Each Q xs → Each Q ys →
      (in_order bytes (map norm xs) ≡ in_order bytes (map norm ys)) ↔ SameSet Same xs ys
  set-agrees agree tells xs ys g h = (
    λ e. ((all-have agree xs ys g h).0 (moved tells xs ys g e), (all-have agree ys xs h g).0 (moved tells ys xs h (sym e))),
    λ s. ascending-one bytes (in_order bytes (map norm xs)) (in_order bytes (map norm ys))
        (in_order-ascends bytes (map norm xs))
        (in_order-ascends bytes (map norm ys)) (kept agree tells xs ys g h s.0) (kept agree tells ys xs h g s.1),
  )
