-- The catalogue of some lines is one: each of its lines has one place, and each of its groups one
-- text.
use Rattle.std.proofs.Common.{◌≡◌, ◌⊎◌, ◌<◌, ◌≤◌, ◌∷◌, [], ℕ, suc, List, Some, length, map, slice_get, inl, inr, ap, sym, refl, ◌∙◌, arith}
use Rattle.std.proofs.lemmas.Bool.{cases_lt}
use Rattle.std.proofs.lemmas.Option.{slice_get_within}
use Rattle.crs_text.specs.inner.Prelude.{RefusedAt}
use Rattle.crs_value.specs.inner.Prelude.{Spells, Refuses}
use Rattle.crs_value.specs.declared.values.crs.Crs.{Crs}
use Rattle.crs_value.specs.declared.values.level.Level.{Level}
use Rattle.crs_writer.specs.inner.Prelude.{IsCanonicalOf}
use Rattle.crs_canon.specs.MainTheorem.{IsAccepted, MainTheorem}
use Rattle.crs_rules.specs.Rules.{RulesParts}
use Rattle.crs_rules.specs.Rewritten.{IsForm}
use Rattle.crs_group.specs.Catalogue.{CatalogueParts, GroupParts, Line, canons}
use Rattle.crs_group.specs.GroupTexts.{IsCatalogueBy, IsCatalogueOfBy, IsUnder, AreNumbered, Counts, IsPlacedAs, PlacedLine, ShareWhereSame}
use Rattle.crs_group.specs.UnderRules.{ShareWhereSameUnder}
use Rattle.crs_value.specs.Sound.{Each}
use Rattle.crs_group.specs.declared.placed.Placed.{Placed}
use Rattle.crs_group.specs.declared.placed.Placed.TheVariants.{Refused, Group}
use Rattle.crs_group.proofs.PlaceLemmas.{canon-at}

-- no text both spells a value and is refused, and it has one refusal at most
pub record IsAnsweredOnce : Type 0 where
  pub refusal : (text : List ℕ) (a b : RefusedAt) → Refuses text a → Refuses text b → a ≡ b
  pub apart : (text : List ℕ) (value : Crs) (fault : RefusedAt) → Spells text value → ¬ (Refuses text fault)

-- what is asked of forms of texts, and of the groups that lines share: a text has one form, and a line of the text of
-- another is in the group that this one joins
pub record AreOne (Form : Level → List ℕ → List ℕ → Type 0) (Share : Level → PlacedLine → PlacedLine → Type 0)
    (level : Level) : Type 0 where
  pub answered : IsAnsweredOnce
  pub one : (text x y : List ℕ) → Form level text x → Form level text y → x ≡ y
  pub joins : (r p q : PlacedLine) (m n : ℕ) → Share level r p → Share level r q → r.place ≡ Group m → p.place ≡ Group m
      → q.place ≡ Group n → IsAccepted r.line.text → IsAccepted p.line.text → p.line.text ≡ q.line.text → m ≡ n

-- canonical texts, and lines of the same CRS
pub canonical-are-one : IsAnsweredOnce → (level : Level) → MainTheorem level → AreOne IsCanonicalOf ShareWhereSame level
canonical-are-one law level main = record {
  answered = law;
  one = main.one;
  joins = λ r p q m n shares too at pm qn here there e.
      (too m n here.0 there.0 at qn here.1 (rw (← e) there.1)).1 ((shares m m here.0 there.0 at pm here.1 there.1).0 refl);
}

-- forms under rules, and lines that are the same under them
pub forms-are-one : IsAnsweredOnce → (rules : RulesParts) (level : Level)
    → ((text a b : List ℕ) → IsForm rules level text a → IsForm rules level text b → a ≡ b)
    → AreOne (IsForm rules) (ShareWhereSameUnder rules) level
forms-are-one law rules level one = record {
  answered = law;
  one = one;
  joins = λ r p q m n shares too at pm qn here there e. (too m n at qn).1 (rw e at (shares m m at pm).0 refl);
}

-- ---- members

-- one of these
abbrev In : PlacedLine → List PlacedLine → Type 0
In p [] = ⊥
In p (q ∷ qs) = (p ≡ q) ⊎ In p qs

each-in : (P : PlacedLine → Type 0) (ps : List PlacedLine) → Each P ps → (p : PlacedLine) → In p ps → P p
each-in P [] each p h = absurd h
each-in P (q ∷ qs) each p (inl e) = rw e each.0
each-in P (q ∷ qs) each p (inr h) = each-in P qs each.1 p h

-- ---- how many groups there are

counts-one : (before : ℕ) (place : Placed) (x y : ℕ) → Counts before place x → Counts before place y → x ≡ y
counts-one before place x y p q = grind arith

numbered-one : (before : ℕ) (ps : List PlacedLine) (x y : ℕ) → AreNumbered before ps x → AreNumbered before ps y
    → x ≡ y
numbered-one before [] x y p q = omega arith
numbered-one before (r ∷ rs) x y p q =
    let e : p.0 ≡ q.0 = counts-one before r.place p.0 q.0 p.1 q.1 in
    numbered-one q.0 rs x y (rw e at p.2) q.2

-- ---- each group has a line

-- one of these lines is in the group
abbrev Found : (PlacedLine → Type 0) → ℕ → Type 0
Found Is n = (p : PlacedLine) × Is p × (p.place ≡ Group n)

-- each of so many groups has one
abbrev AllFound : (PlacedLine → Type 0) → ℕ → Type 0
AllFound Is groups = (n : ℕ) → 1 ≤ n → n ≤ groups → Found Is n

found-more : (Is More : PlacedLine → Type 0) (n : ℕ) → ((p : PlacedLine) → Is p → More p) → Found Is n → Found More n
found-more Is More n more (p, is, at) = (p, more p is, at)

-- these lines and one more
abbrev And : (PlacedLine → Type 0) → PlacedLine → PlacedLine → Type 0
And Is p q = Is q ⊎ (q ≡ p)

found-next : (Is : PlacedLine → Type 0) (before next : ℕ) (p : PlacedLine) (place : Placed) → p.place ≡ place
    → Counts before place next → AllFound Is before → AllFound (And Is p) next
found-next Is before next p (Group m) at (inr (new, last)) found n low high = by (cases_lt before n)
  where
    by : ((before < n) ⊎ (n ≤ before)) → Found (And Is p) n
    by (inl above) = let e : m ≡ n = omega arith in (p, inr refl, at ∙ ap Group e)
    by (inr below) = found-more Is (And Is p) n (λ q h. inl h) (found n low below)
found-next Is before next p (Group m) at (inl (lower, higher, same)) found n low high =
    found-more Is (And Is p) n (λ q h. inl h) (found n low (omega arith))
found-next Is before next p place at counts found n low high =
    found-more Is (And Is p) n (λ q h. inl h) (found n low (omega arith))

found-all : (Is : PlacedLine → Type 0) (before : ℕ) (ps : List PlacedLine) (behind : ℕ) → AreNumbered before ps behind
    → AllFound Is before → AllFound (λ p. Is p ⊎ In p ps) behind
found-all Is before [] behind numbered found n low high =
    found-more Is (λ p. Is p ⊎ In p []) n (λ q h. inl h) (found n low (omega arith))
found-all Is before (p ∷ ps) behind numbered found n low high =
    found-more (λ q. And Is p q ⊎ In q ps) (λ q. Is q ⊎ In q (p ∷ ps)) n more
    (found-all (And Is p) numbered.0 ps behind numbered.2
    (found-next Is before numbered.0 p p.place refl numbered.1 found) n low high)
  where
    more : (q : PlacedLine) → (And Is p q ⊎ In q ps) → Is q ⊎ In q (p ∷ ps)
    more q h = grind arith

-- ---- each line has one place

-- a line that is in the group of one of these
abbrev Shares : (PlacedLine → PlacedLine → Type 0) → (PlacedLine → Type 0) → PlacedLine → Type 0
Shares Share Is p = (q : PlacedLine) → Is q → Share q p

abbrev Placing : (PlacedLine → Type 0) → Type 0
Placing Is = (q : PlacedLine) → Is q → IsPlacedAs q.line.text q.place

-- a line of the text of another is in the group that this one joins
joins-by : (Form : Level → List ℕ → List ℕ → Type 0) (Share : Level → PlacedLine → PlacedLine → Type 0) (level : Level)
    → AreOne Form Share level → (Is : PlacedLine → Type 0) (before : ℕ) → AllFound Is before → Placing Is
    → (p q : PlacedLine) → Shares (Share level) Is p → Shares (Share level) Is q → (m n : ℕ) → p.place ≡ Group m → q.place ≡ Group n
    → IsAccepted p.line.text → p.line.text ≡ q.line.text → 1 ≤ m → m ≤ before → m ≡ n
joins-by Form Share level law Is before found placing p q shares too m n pm qn accepted e low high = by (found m low high)
  where
    by : Found Is m → m ≡ n
    by (r, is, at) =
        let here : IsPlacedAs r.line.text (Group m) = rw at at (placing r is) in
        law.joins r p q m n (shares r is) (too r is) at pm qn here.1 accepted e

one-place : (Form : Level → List ℕ → List ℕ → Type 0) (Share : Level → PlacedLine → PlacedLine → Type 0) (level : Level)
    → AreOne Form Share level → (Is : PlacedLine → Type 0) (before : ℕ) → AllFound Is before → Placing Is
    → (p q : PlacedLine) → p.line.text ≡ q.line.text → Shares (Share level) Is p → Shares (Share level) Is q
    → (s t : Placed) → p.place ≡ s → q.place ≡ t
    → IsPlacedAs p.line.text s → IsPlacedAs q.line.text t
    → (x y : ℕ) → Counts before s x → Counts before t y → s ≡ t
one-place Form Share level law Is before found placing p q e shares too (Refused a) (Refused b) ps qt hp hq x y cx cy =
    ap Refused (law.answered.refusal q.line.text a b (rw e at hp.1) hq.1)
one-place Form Share level law Is before found placing p q e shares too (Refused a) (Group n) ps qt hp hq x y cx cy =
    absurd (law.answered.apart q.line.text hq.1.0 a hq.1.1 (rw e at hp.1))
one-place Form Share level law Is before found placing p q e shares too (Group m) (Refused b) ps qt hp hq x y cx cy =
    absurd (law.answered.apart p.line.text hp.1.0 b hp.1.1 (rw e hq.1))
one-place Form Share level law Is before found placing p q e shares too (Group m) (Group n) ps qt hp hq x y cx cy =
    ap Group (by cx cy)
  where
    by : Counts before (Group m) x → Counts before (Group n) y → m ≡ n
    by (inl (low, high, same)) cy = joins-by Form Share level law Is before found placing p q shares too m n ps qt hp.1 e low high
    by (inr (next, last)) (inl (low, high, same)) =
        sym (joins-by Form Share level law Is before found placing q p too shares n m qt ps hq.1 (sym e) low high)
    by (inr (next, last)) (inr (other, end)) = next ∙ sym other
one-place Form Share level law Is before found placing p q e shares too s t ps qt hp hq x y cx cy = grind arith

-- lines that are placed with others before them
record ArePlaced (Share : PlacedLine → PlacedLine → Type 0) (Is : PlacedLine → Type 0) (before : ℕ) (ps : List PlacedLine) (behind : ℕ) : Type 0 where
  each : Each (λ p. IsPlacedAs p.line.text p.place) ps
  same : (q p : PlacedLine) → (Is q ⊎ In q ps) → In p ps → Share q p
  numbered : AreNumbered before ps behind

same-line : (p q : PlacedLine) → p.line ≡ q.line → p.place ≡ q.place → p ≡ q
same-line p q e f = λ i. record { line = e i; place = f i }

one-placing : (Form : Level → List ℕ → List ℕ → Type 0) (Share : Level → PlacedLine → PlacedLine → Type 0) (level : Level)
    → AreOne Form Share level → (Is : PlacedLine → Type 0) (before : ℕ) → AllFound Is before
    → Placing Is → (ps qs : List PlacedLine) → map (λ p. p.line) ps ≡ map (λ p. p.line) qs
    → (x y : ℕ) → ArePlaced (Share level) Is before ps x → ArePlaced (Share level) Is before qs y → ps ≡ qs
one-placing Form Share level law Is before found placing [] [] e x y a b = refl
one-placing Form Share level law Is before found placing [] (q ∷ qs) e x y a b = cc
one-placing Form Share level law Is before found placing (p ∷ ps) [] e x y a b = cc
one-placing Form Share level law Is before found placing (p ∷ ps) (q ∷ qs) e x y a b =
    let rest = one-placing Form Share level law (And Is p) a.numbered.0
    (found-next Is before a.numbered.0 p p.place refl a.numbered.1 found) placed ps qs
    (cc) x y
    (record { each = a.each.1; same = first; numbered = a.numbered.2 })
    (record { each = b.each.1; same = second; numbered = rw next at b.numbered.2 }) in
    λ i. here i ∷ rest i
  where
    line : p.line ≡ q.line
    line = cc

    place : p.place ≡ q.place
    place = one-place Form Share level law Is before found placing p q (ap (λ l. l.text) line)
        (λ r is. a.same r p (inl is) (inl refl)) (λ r is. b.same r q (inl is) (inl refl)) p.place q.place refl refl
        a.each.0 b.each.0 a.numbered.0 b.numbered.0 a.numbered.1 b.numbered.1

    here : p ≡ q
    here = same-line p q line place

    next : b.numbered.0 ≡ a.numbered.0
    next = counts-one before p.place b.numbered.0 a.numbered.0 (rw place b.numbered.1) a.numbered.1

    first : (r s : PlacedLine) → (And Is p r ⊎ In r ps) → In s ps → Share level r s
    first r s is h = a.same r s (grind arith) (inr h)

    second : (r s : PlacedLine) → (And Is p r ⊎ In r qs) → In s qs → Share level r s
    second r s is h = b.same r s (grind (arith, here)) (inr h)

    placed : Placing (And Is p)
    placed r (inl is) = placing r is
    placed r (inr is) = rw is a.each.0

-- ---- each group has one text

same-lists : {A : Type 0} (xs ys : List A) → length xs ≡ length ys
    → ((at : ℕ) (x y : A) → slice_get xs at ≡ Some x → slice_get ys at ≡ Some y → x ≡ y) → xs ≡ ys
same-lists [] [] e f = refl
same-lists [] (y ∷ ys) e f = absurd (omega arith)
same-lists (x ∷ xs) [] e f = absurd (omega arith)
same-lists (x ∷ xs) (y ∷ ys) e f =
    let h = f 0 x y refl refl in
    let t = same-lists xs ys (omega arith) (λ at. f (suc at)) in
    λ i. h i ∷ t i

-- a line of a group has the group's text as its form
text-of : (Form : Level → List ℕ → List ℕ → Type 0) (level : Level) (groups : List GroupParts) (at : ℕ) (group : GroupParts)
    (p : PlacedLine) → slice_get groups at ≡ Some group → p.place ≡ Group (suc at)
    → IsUnder Form level (canons groups) p.line.text p.place
    → (group.canon.level ≡ level) × Form level p.line.text group.canon.bytes
text-of Form level groups at group p has place under =
    let u : IsUnder Form level (canons groups) p.line.text (Group (suc at)) = rw place at under in
    let is : u.0 ≡ group.canon = cc (canon-at groups at group has) in (rw (← is) u.2, rw (← is) u.3)

-- two catalogues of lines at these places
one-whole : (Form : Level → List ℕ → List ℕ → Type 0) (Share : Level → PlacedLine → PlacedLine → Type 0) (level : Level)
    → AreOne Form Share level → (placed : List PlacedLine) (a b : CatalogueParts) → a.level ≡ level → b.level ≡ level
    → IsCatalogueBy Form Share placed a → IsCatalogueBy Form Share placed b → a ≡ b
one-whole Form Share level law placed a b la lb wa wb =
    let levels : a.level ≡ b.level = la ∙ sym lb in
    let refused : a.refused ≡ b.refused = wa.0.refused ∙ sym wb.0.refused in
    λ i. record { level = levels i; groups = groups i; refused = refused i }
  where
    count : length a.groups ≡ length b.groups
    count = numbered-one 0 placed (length a.groups) (length b.groups) wa.0.numbered wb.0.numbered

    under-a : Each (λ p. IsUnder Form level (canons a.groups) p.line.text p.place) placed
    under-a = rw la at wa.1.texts

    under-b : Each (λ p. IsUnder Form level (canons b.groups) p.line.text p.place) placed
    under-b = rw lb at wb.1.texts

    with-line : (at : ℕ) (x y : GroupParts) → slice_get a.groups at ≡ Some x → slice_get b.groups at ≡ Some y
        → Found (λ p. ⊥ ⊎ In p placed) (suc at) → x.canon ≡ y.canon
    with-line at x y hx hy (p, inl none, place) = absurd none
    with-line at x y hx hy (p, inr is, place) =
        let tx = text-of Form level a.groups at x p hx place (each-in _ placed under-a p is) in
        let ty = text-of Form level b.groups at y p hy place (each-in _ placed under-b p is) in
        let bytes = law.one p.line.text x.canon.bytes y.canon.bytes tx.1 ty.1 in
        let levels : x.canon.level ≡ y.canon.level = tx.0 ∙ sym ty.0 in
        λ i. record { bytes = bytes i; level = levels i }

    group : (at : ℕ) (x y : GroupParts) → slice_get a.groups at ≡ Some x → slice_get b.groups at ≡ Some y → x ≡ y
    group at x y hx hy =
        let within : at < length a.groups = slice_get_within a.groups at x hx in
        let canon = with-line at x y hx hy
        (found-all (λ p. ⊥) 0 placed (length a.groups) wa.0.numbered (λ n low high. absurd (omega arith)) (suc at)
        (omega arith) (omega arith)) in
        let lines = wa.0.lines (suc at) x hx ∙ sym (wb.0.lines (suc at) y hy) in
        λ i. record { canon = canon i; lines = lines i }

    groups : a.groups ≡ b.groups
    groups = same-lists a.groups b.groups count group

-- ---- the catalogue of some lines

are-placed : (Form : Level → List ℕ → List ℕ → Type 0) (Share : Level → PlacedLine → PlacedLine → Type 0) (level : Level)
    (placed : List PlacedLine) (c : CatalogueParts) → c.level ≡ level → IsCatalogueBy Form Share placed c
    → ArePlaced (Share level) (λ p. ⊥) 0 placed (length c.groups)
are-placed Form Share level placed c e whole = record { each = whole.0.each; same = same; numbered = whole.0.numbered }
  where
    all : Each (λ p. Each (Share level p) placed) placed
    all = rw e at whole.0.same

    same : (q p : PlacedLine) → (⊥ ⊎ In q placed) → In p placed → Share level q p
    same q p (inl none) h = absurd none
    same q p (inr is) h = each-in (Share level q) placed (each-in (λ r. Each (Share level r) placed) placed all q is) p h

pub one-catalogue : (Form : Level → List ℕ → List ℕ → Type 0) (Share : Level → PlacedLine → PlacedLine → Type 0)
    → ((level : Level) → AreOne Form Share level) → (lines : List Line) (a b : CatalogueParts)
    → IsCatalogueOfBy Form Share lines a → IsCatalogueOfBy Form Share lines b → a.level ≡ b.level → a ≡ b
one-catalogue Form Share law lines a b p q e =
    let same : p.placed ≡ q.placed =
    one-placing Form Share b.level (law b.level) (λ r. ⊥) 0 (λ n low high. absurd (omega arith)) (λ r none. absurd none) p.placed q.placed
    (p.are_lines ∙ sym q.are_lines) (length a.groups) (length b.groups) (are-placed Form Share b.level p.placed a e p.whole)
    (are-placed Form Share b.level q.placed b refl q.whole) in
    one-whole Form Share b.level (law b.level) q.placed a b e refl (rw same at p.whole) q.whole
