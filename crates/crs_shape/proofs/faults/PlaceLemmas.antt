-- Faults of shape have their numbers, and are at places of the item; those are bytes of the text.
use Rattle.std.proofs.Common.{◌≡◌, ℕ, zero, suc, ◌+◌, ◌<◌, ◌≤◌, length, slice_index_or, Bool, true, false, if◌then◌else◌, inl, inr, ⊎_elim, List, [], ◌∷◌, ◌++◌, refl, sym, ap, subst, arith}
use Rattle.crs_text.specs.inner.Prelude.{Kind, number, text, word, Token, single, comma, opening, closing, IsSingle, single_spelling, Forms, Fronts, Item, leaf, node, Siblings, End, More, HasId, first_of, here, inside, inside_items, tokens, others_tokens, RefusedAt, SpellsNode}
use Rattle.crs_shape.specs.declared.class.Class.{Class}
use Rattle.crs_shape.specs.FaultPlace.{IsShapeNumber, IsPlaceIn, IsPlaceAmong}
use Rattle.crs_shape.specs.Keywords.{is_known}
use Rattle.crs_shape.specs.ShapeFault.{misplaced, Inside, Among, AtRoot}
use Rattle.crs_shape.proofs.faults.FaultLemmas.{ArgumentFault}
use Rattle.crs_shape.proofs.faults.FitLemmas.{by_more}

-- ---- numbers and places

-- a number of a fault of shape, and a place of these
abbrev pub IsAmong : (ℕ → Type 0) → RefusedAt → Type 0
IsAmong P fault = IsShapeNumber fault.number × P fault.place

module _ (P : ℕ → Type 0) where
  -- the places of an item are among these
  abbrev Covers : Item → Type 0
  Covers item = (p : ℕ) → IsPlaceIn item p → P p

  abbrev CoversAll : Siblings → Type 0
  CoversAll items = (p : ℕ) → IsPlaceAmong items p → P p

  misplaced-among : (item : Item) → Covers item → IsAmong P (misplaced item)
  misplaced-among (leaf kind place raw) h = (inr (inl refl), h place refl)
  misplaced-among (node place keyword square first others close) h = (by (is_known keyword), h place (inl refl))
    where
      by : (known : Bool) → IsShapeNumber (if known then 12 else 11)
      by true = inr (inl refl)
      by false = inl refl

  argument-among : (parent : Class) (before : List Class) (item : Item) (W : Class → RefusedAt → Type 0)
      (L : List Class → RefusedAt → Type 0) (fault : RefusedAt) → Covers item →
      ((d : Class) → W d fault → IsAmong P fault) → ((classes : List Class) → L classes fault → IsAmong P fault) →
      ArgumentFault parent before item W L fault → IsAmong P fault
  argument-among parent before item W L fault h inner after (inl x) =
      subst (IsAmong P) (sym x.1) (misplaced-among item h)
  argument-among parent before item W L fault h inner after (inr (c, (stands, inl x))) = inner c x
  argument-among parent before item W L fault h inner after (inr (c, (stands, inr x))) = after (before ++ c ∷ []) x.1

  mutual
    inside-among : (c : Class) (item : Item) (fault : RefusedAt) → Covers item → Inside c item fault → IsAmong P fault
    inside-among c (leaf kind place raw) fault h x =
        subst (IsAmong P) (sym x.1) (misplaced-among (leaf kind place raw) h)
    inside-among c (node place keyword square first others close) fault h (inl x) =
        subst (IsAmong P) (sym x.1) (misplaced-among (node place keyword square first others close) h)
    inside-among c (node place keyword square first others close) fault h (inr x) =
        argument-among c [] first (λ d f. Inside d first f) (λ before f. Among c close before others f) fault
        (λ p q. h p (inr (inr (inl q))))
        (λ d y. inside-among d first fault (λ p q. h p (inr (inr (inl q)))) y)
        (λ before y. among-among c close before others fault (h close (inr (inl refl)))
        (λ p q. h p (inr (inr (inr q)))) y) x.1

    among-among : (c : Class) (close : ℕ) (before : List Class) (items : Siblings) (fault : RefusedAt) → P close →
        CoversAll items → Among c close before items fault → IsAmong P fault
    among-among c close before End fault shut h x = subst (IsAmong P) (sym x.1) (inr (inr refl), shut)
    among-among c close before (More item items) fault shut h x =
        argument-among c before item (λ d f. Inside d item f) (λ b f. Among c close b items f) fault
        (λ p q. h p (inl q)) (λ d y. inside-among d item fault (λ p q. h p (inl q)) y)
        (λ b y. among-among c close b items fault shut (λ p q. h p (inr q)) y) x

pub inside-placed : (c : Class) (item : Item) (fault : RefusedAt) → Inside c item fault → IsAmong (IsPlaceIn item) fault
inside-placed c item fault x = inside-among (IsPlaceIn item) c item fault (λ p q. q) x

pub root-placed : (item : Item) (fault : RefusedAt) → AtRoot item fault → IsAmong (IsPlaceIn item) fault
root-placed item fault (inl x) =
    subst (IsAmong (IsPlaceIn item)) (sym x.1) (misplaced-among (IsPlaceIn item) item (λ p q. q))
root-placed item fault (inr x) = inside-placed x.0 item fault x.1.1

-- ---- items of a tree

module _ (P : ℕ → Type 0) where
  abbrev Covered : List Siblings → Type 0
  Covered [] = Unit {0}
  Covered (items ∷ more) = ((p : ℕ) → IsPlaceAmong items p → P p) × Covered more

  covered-append : (xs ys : List Siblings) → Covered xs → Covered ys → Covered (xs ++ ys)
  covered-append [] ys h g = g
  covered-append (x ∷ xs) ys h g = (h.0, covered-append xs ys h.1 g)

  mutual
    inside-covered : (item : Item) → ((p : ℕ) → IsPlaceIn item p → P p) → Covered (inside item)
    inside-covered (leaf kind place raw) h = tt
    inside-covered (node place keyword square first others close) h = (
      λ p. λ q. h p (inr (inr q)),
      covered-append (inside first) (inside_items others)
          (inside-covered first (λ p q. h p (inr (inr (inl q)))))
          (all-covered others (λ p q. h p (inr (inr (inr q))))),
    )

    all-covered : (items : Siblings) → ((p : ℕ) → IsPlaceAmong items p → P p) → Covered (inside_items items)
    all-covered End h = tt
    all-covered (More item items) h = (
      h,
      covered-append (inside item) (inside_items items) (inside-covered item (λ p q. h p (inl q)))
          (all-covered items (λ p q. h p (inr q))),
    )

  entry-covered : (list : List Siblings) → Covered list → (id : ℕ) (p : ℕ) → IsPlaceAmong (slice_index_or list id End) p → P p
  entry-covered [] h id p q = absurd q
  entry-covered (items ∷ more) h zero p q = h.0 p q
  entry-covered (items ∷ more) h (suc id) p q = entry-covered more h.1 id p q

pub held-placed : (tree : Item) (id place : ℕ) → HasId tree id → IsPlaceIn (first_of (here tree id)) place →
    IsPlaceIn tree place
unfolding here
held-placed tree id place has q =
    entry-covered (IsPlaceIn tree) (More tree End ∷ inside tree)
    (λ p. ⊎_elim (λ x. x) absurd, inside-covered (IsPlaceIn tree) tree (λ p q. q)) id place
    (subst (λ items. IsPlaceAmong items place) (by_more (here tree id) has) (inl q))

-- ---- places of a text

abbrev TokenBelow : ℕ → Token → Type 0
TokenBelow total (single kind place raw) = place < total
TokenBelow total comma = Unit {0}
TokenBelow total (opening square) = Unit {0}
TokenBelow total (closing place square) = place < total

abbrev TokensBelow : ℕ → List Token → Type 0
TokensBelow total [] = Unit {0}
TokensBelow total (t ∷ ts) = TokenBelow total t × TokensBelow total ts

starts : (kind : Kind) (raw rest : List ℕ) → IsSingle kind raw → 1 ≤ length (single_spelling kind raw ++ rest)
starts number [] rest formed = absurd formed.0
starts number (b ∷ bs) rest formed = omega arith
starts text raw rest formed = omega arith
starts word [] rest formed = absurd formed
starts word (b ∷ bs) rest formed = omega arith

below : (place total : ℕ) (left other : List ℕ) → left ≡ other → 1 ≤ length other → place + length left ≡ total →
    place < total
below place total left other e some placed =
    let same : length left ≡ length other = ap length e in
    omega (arith, same, some, placed)

token-below : (total : ℕ) (t : Token) (left rest : List ℕ) → Forms total t left rest → TokenBelow total t
token-below total (single kind place raw) left rest forms =
    below place total left (single_spelling kind raw ++ rest) forms.spelled (starts kind raw rest forms.formed)
    forms.placed
token-below total comma left rest forms = tt
token-below total (opening square) left rest forms = tt
token-below total (closing place square) left rest forms =
    below place total left _ forms.spelled (omega arith) forms.placed

fronts-below : (total : ℕ) (ts : List Token) (bytes left : List ℕ) → Fronts total bytes ts left → TokensBelow total ts
fronts-below total [] bytes left h = tt
fronts-below total (t ∷ ts) bytes left h = (token-below total t h.0 h.1 h.3, fronts-below total ts h.1 left h.4)

split-below : (total : ℕ) (ts us : List Token) → TokensBelow total (ts ++ us) → TokensBelow total ts × TokensBelow total us
split-below total [] us h = (tt, h)
split-below total (t ∷ ts) us h = let s = split-below total ts us h.1 in ((h.0, s.0), s.1)

mutual
  item-below : (total : ℕ) (item : Item) → TokensBelow total (tokens item) → (p : ℕ) → IsPlaceIn item p → p < total
  item-below total (leaf kind place raw) h p q = rw q h.0
  item-below total (node place keyword square first others close) h p (inl q) = rw q h.0
  item-below total (node place keyword square first others close) h p (inr (inl q)) =
      let s = split-below total (tokens first ++ others_tokens others) (closing close square ∷ []) h.1.1 in
      rw q s.1.0
  item-below total (node place keyword square first others close) h p (inr (inr (inl q))) =
      let s = split-below total (tokens first ++ others_tokens others) (closing close square ∷ []) h.1.1 in
      item-below total first (split-below total (tokens first) (others_tokens others) s.0).0 p q
  item-below total (node place keyword square first others close) h p (inr (inr (inr q))) =
      let s = split-below total (tokens first ++ others_tokens others) (closing close square ∷ []) h.1.1 in
      items-below total others (split-below total (tokens first) (others_tokens others) s.0).1 p q

  items-below : (total : ℕ) (items : Siblings) → TokensBelow total (others_tokens items) → (p : ℕ) →
      IsPlaceAmong items p → p < total
  items-below total End h p q = absurd q
  items-below total (More item items) h p (inl q) =
      item-below total item (split-below total (tokens item) (others_tokens items) h.1).0 p q
  items-below total (More item items) h p (inr q) =
      items-below total items (split-below total (tokens item) (others_tokens items) h.1).1 p q

pub text-below : (bytes : List ℕ) (item : Item) (place : ℕ) → SpellsNode bytes item → IsPlaceIn item place →
    place < length bytes
text-below bytes item place spells =
    let P : List Token → Type 0 = λ ts. TokensBelow (length bytes) ts in
    item-below (length bytes) item (subst P spells.2.are (fronts-below (length bytes) spells.0 bytes [] spells.1)) place
