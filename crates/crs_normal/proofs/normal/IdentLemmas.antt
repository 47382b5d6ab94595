-- A normal identifier is the one form of its value.
use Rattle.std.proofs.Common.{◌≡◌, ℕ, ◌≤◌, ◌||◌, length, true, false, inl, inr, ⊎_elim, Option, Some, None, List, [], ◌∷◌, ◌++◌, if◌then◌else◌, codes, refl, sym, ◌∙◌, ap, ap₂, subst, arith, zero, suc, ◌≢◌, ◌<◌, ◌⊎◌, rules}
use Rattle.std.proofs.lemmas.Bool.{cases_Bool, or_cases}
use denote.Enum.Bare.{sameb, false_same, true_same}
use Rattle.crs_text.specs.inner.Prelude.{Item, leaf, node, Siblings, End, More, arguments, raw_of, skip, number, text}
use Rattle.crs_shape.specs.contracts.class.Class.{the_type}
use Rattle.crs_shape.specs.declared.class.Class.{Class}
use Rattle.crs_shape.specs.inner.Prelude.{is_keyword, SlotParts, class_of_kind, one, optional, optional_of, slots_of, class_in, is_class, tail, vertical_tail}
use Rattle.crs_value.specs.inner.Prelude.{is_a, those, ReadsFirst, ReadsOptional, ReadsText, ReadsIdent, single_of, AtClass}
use Rattle.crs_value.specs.declared.values.level.Level.{Level}
use Rattle.crs_normal.proofs.WithoutPlaces.{without_places}
use Rattle.crs_normal.specs.Normal.{IsCode, IsShort, Rise, bare_classes, rank}
use Rattle.crs_value.specs.Sound.{Each}
use Rattle.crs_normal.specs.inner.SpelledItems.{code_item, is_short, opt, item_ident}
use Rattle.crs_normal.proofs.made.LeafLemmas.{short-true, true-short}
use Rattle.crs_normal.proofs.normal.FormLemmas.{Form, IsGood, front-in, front_in, good-in, no-leaf, only-in, opened, optional-in, spelled-by}
use Rattle.crs_normal.proofs.normal.LeafLemmas.{no-keyword, text-form, text-node-form}
use Rattle.crs_normal.proofs.read.ViewLemmas.{InSlot, items-rebuilt, without_places_onto, of-one, onto, or-false, same_class, View, each-so, front_at}
use Rattle.std.specs.List.{list_any}
use Rattle.crs_shape.specs.declared.class.Class.TheVariants as class

-- ---- codes

short-false : (raw : List ℕ) → ¬ (IsShort raw) → is_short raw ≡ false
short-false raw h = ⊎_elim (λ e. absurd (h (true-short raw e))) (λ e. e) (cases_Bool (is_short raw))

code-form : (item : Item) → IsCode item → without_places item ≡ code_item (raw_of item)
code-form (leaf number place raw) (inl h) = rw (short-true raw h.0)
code-form (leaf text place raw) (inr h) = rw (short-false raw h.0)
code-form item (inl h) = let k = h.1 in absurd (cc)
code-form item (inr h) = let k = h.1 in absurd (cc)

-- a single item with the kind of a code is the code's one form
code-without_places : (item : Item) (rest : Siblings) (raw : List ℕ) (others : List Item) →
    ReadsFirst ReadsText (single_of (More item rest)) raw →
    Each IsCode (single_of (More item rest) ++ others) → (without_places item ≡ code_item raw) × Each IsCode others
code-without_places (node place keyword square first items close) rest raw others reads codes = absurd reads
code-without_places (leaf number place bytes) rest raw others reads codes =
    (code-form (leaf number place bytes) codes.0 ∙ ap code_item reads, codes.1)
code-without_places item rest raw others reads codes = (code-form item codes.0 ∙ ap code_item reads, codes.1)

-- ---- versions

node-no-code : (at : Class) (keyword : List ℕ) → is_keyword at keyword ≡ true →
    (sameb the_type class.Number at || (sameb the_type class.Text at || false)) ≡ true → ⊥
node-no-code at keyword is taken =
    ⊎_elim (λ e. no-keyword number keyword (at-class class.Number e))
    (λ t. no-keyword text keyword (at-class class.Text (or-false _ t)))
    (or_cases (sameb the_type class.Number at) _ taken)
  where
    at-class : (d : Class) → sameb the_type d at ≡ true → is_keyword d keyword ≡ true
    at-class d e = subst (λ (x : Class). is_keyword x keyword ≡ true) (sym (same_class d at e)) is

-- a version, and what follows it
version-without_places : (front : List Item) (behind : Siblings) →
    Each (InSlot class.Identifier (optional_of (class.Number ∷ class.Text ∷ []))) front →
    length front ≤ 1 → single_of behind ≡ [] → (version : Option (List ℕ)) →
    ReadsOptional ReadsText (single_of (onto front behind)) version →
    Each IsCode (single_of (onto front behind)) → {rest after : Siblings} → rest ≡ after →
    without_places_onto front rest ≡ opt code_item version after
version-without_places [] behind inside few none None reads codes e = e
version-without_places [] behind inside few none (Some v) reads codes e =
    absurd (subst (λ (xs : List Item). ReadsOptional ReadsText xs (Some v)) none reads)
version-without_places (item ∷ other ∷ others) behind inside few none version reads codes e = absurd (omega arith)
version-without_places (node place keyword square first items close ∷ []) behind inside few none version reads codes e =
    let s = inside.0 in absurd (node-no-code s.at keyword s.shaped.0 s.taken)
version-without_places (leaf number place raw ∷ []) behind inside few none (Some v) reads codes e =
    ap₂ More (code-form (leaf number place raw) codes.0 ∙ ap code_item reads) e
version-without_places (leaf number place raw ∷ []) behind inside few none None reads codes e = absurd reads
version-without_places (item ∷ []) behind inside few none (Some v) reads codes e =
    ap₂ More (code-form item codes.0 ∙ ap code_item reads) e
version-without_places (item ∷ []) behind inside few none None reads codes e = absurd reads

-- nodes that come next give no version
no-single : (d : Class) {slot : SlotParts} {slots : List SlotParts} → slots_of d ≡ slot ∷ slots → (item : Item)
    (rest : Siblings) → InSlot class.Identifier (optional d) item → single_of (More item rest) ≡ []
no-single d are (node place keyword square first others close) rest s = refl
no-single d are (leaf kind place raw) rest s =
    absurd (no-leaf d are kind (subst (λ (x : Class). sameb the_type (class_of_kind kind) x ≡ true)
    (sym (same_class d s.at (or-false (sameb the_type d s.at) s.taken))) s.shaped))

behind-version : (citations uris : List Item) → Each (InSlot class.Identifier (optional class.Citation)) citations →
    Each (InSlot class.Identifier (optional class.Uri)) uris →
    single_of (onto citations (onto uris End)) ≡ []
behind-version [] [] a b = refl
behind-version [] (uri ∷ uris) a b = no-single class.Uri refl uri (onto uris End) b.0
behind-version (citation ∷ citations) uris a b =
    no-single class.Citation refl citation (onto citations (onto uris End)) a.0

-- ---- identifiers

pub ident-form : (level : Level) (c : Class) → Form level c class.Identifier (ReadsIdent class.Identifier) item_ident
ident-form level c item x good reads =
    let d = class.Identifier in
    let o = (opened item refl good).1 in
    let a = only-in o 0 refl refl in
    let b = only-in o 1 refl refl in
    let behind : Siblings = onto (front_in o 3) (onto (front_in o 4) End) in
    let rest : Siblings = onto (front_in o 2) behind in
    let last : Siblings =
    without_places_onto (front_in o 2) (without_places_onto (front_in o 3) (without_places_onto (front_in o 4) End)) in
    let are : arguments item ≡ More a.0 (More b.0 rest) =
    items-rebuilt d (slots_of d) (arguments item) o.slots
    ∙ ap (λ xs. onto xs (onto (front_in o 1) rest)) a.1 ∙ ap (λ xs. More a.0 (onto xs rest)) b.1 in
    let coded = code-without_places b.0 rest x.code (single_of rest)
    (subst (λ (is : Siblings). ReadsFirst ReadsText (single_of (skip 1 is)) x.code) are reads.code)
    (subst (λ (is : Siblings). Each IsCode (single_of (skip 1 is) ++ single_of (skip 2 is))) are o.own) in
    let is : is_a d class.Text a.0 ≡ true =
    of-one d class.Text class.Text (one class.Text) refl refl a.0
    ((subst (Each (InSlot d (one class.Text))) a.1 (front-in o 0).inside).0) in
    let texts : those d class.Text (arguments item) ≡ a.0 ∷ those d class.Text (More b.0 rest) =
    ap (those d class.Text) are
    ∙ ap (λ t. if t then a.0 ∷ those d class.Text (More b.0 rest) else those d class.Text (More b.0 rest)) is in
    let named = text-form level d a.0 x.authority (subst (Each (IsGood level d class.Text)) texts (good-in o class.Text)).0
    (subst (λ (is : List Item). ReadsFirst ReadsText is x.authority) texts reads.authority) in
    spelled-by o o.written
    (ap (λ xs. without_places_onto xs (without_places_onto (front_in o 1) last)) a.1
    ∙ ap (λ xs. More (without_places a.0) (without_places_onto xs last)) b.1
    ∙ ap₂ More named (ap₂ More coded.0
    (version-without_places (front_in o 2) behind (front-in o 2).inside ((front-in o 2).not_more refl)
    (behind-version (front_in o 3) (front_in o 4) (front-in o 3).inside (front-in o 4).inside) x.version
    (subst (λ (is : Siblings). ReadsOptional ReadsText (single_of (skip 2 is)) x.version) are reads.version) coded.1
    (optional-in o 3 (text-node-form level d class.Citation (codes "CITATION") refl (λ bytes h. h))
    refl refl x.citation reads.citation
    (optional-in o 4 (text-node-form level d class.Uri (codes "URI") refl (λ bytes h. h)) refl refl
    x.uri reads.uri refl)))))

-- ---- arguments of several classes whose ranks rise: those of the first class, then those of the next, and so on. So is the end of a normal CRS: geoid models, usages, identifiers and the remark

-- ---- ranks rise after the first arguments too

rise-behind : (c : Class) (least : ℕ) (front : List Item) (rest : Siblings) → Rise c least (onto front rest) →
    (m : ℕ) × Rise c m rest
rise-behind c least [] rest rise = (least, rise)
rise-behind c least (item ∷ items) rest rise =
    elim (class_in c item) as (λ o. AtClass o (λ d. (least ≤ rank d) × Rise c (rank d) (onto items rest)) →
    (m : ℕ) × Rise c m rest) [
      | None ↦ λ h. absurd h
      | Some d ↦ λ h. rise-behind c (rank d) items rest h.1
    ] rise

rise-as : (c : Class) (m : ℕ) (item : Item) (rest : Siblings) (d : Class) → class_in c item ≡ Some d →
    Rise c m (More item rest) → (m ≤ rank d) × Rise c (rank d) rest
rise-as c m item rest d named rise =
    subst (λ (o : Option Class). AtClass o (λ x. (m ≤ rank x) × Rise c (rank x) rest)) named rise

pub rise-at : (c : Class) (slots : List SlotParts) (items : Siblings) (v : View c slots items) (least : ℕ) →
    Rise c least items → (k : ℕ) →
    (m : ℕ) × ((rest : Siblings) × Rise c m (onto (front_at c slots items v k) rest))
rise-at c [] items v least rise k = (least, (items, rise))
rise-at c (slot ∷ slots) items v least rise zero = (least, (v.1.0, subst (Rise c least) v.1.1.1.0 rise))
rise-at c (slot ∷ slots) items v least rise (suc k) =
    let behind = rise-behind c least v.0 v.1.0 (subst (Rise c least) v.1.1.1.0 rise) in
    rise-at c slots v.1.0 v.1.1.1.1 behind.0 behind.1 k

-- ---- an argument of one of these classes

abbrev pub IsOneOf : Class → List Class → Item → Type 0
IsOneOf c [] item = ⊥
IsOneOf c (d ∷ ds) item = (class_in c item ≡ Some d) ⊎ IsOneOf c ds item

one-of : (c : Class) (item : Item) (at : Class) → class_in c item ≡ Some at → (ds : List Class) →
    list_any (λ d. sameb the_type d at) ds ≡ true → IsOneOf c ds item
one-of c item at named [] taken = let h : false ≡ true = taken in absurd (cc)
one-of c item at named (d ∷ ds) taken =
    ⊎_elim (λ e. inl (named ∙ ap (λ x. Some x) (sym (same_class d at e)))) (λ t. inr (one-of c item at named ds t))
    (or_cases (sameb the_type d at) _ taken)

pub in-slot : (c : Class) (slot : SlotParts) (item : Item) → InSlot c slot item → IsOneOf c slot.classes item
in-slot c slot item s = one-of c item s.at s.named slot.classes s.taken

is-named : (c : Class) (item : Item) {d : Class} → class_in c item ≡ Some d → is_a c d item ≡ true
is-named c item {d = d} named = ap (is_class d) named ∙ true_same the_type d d refl

-- one that is of none of the first classes is of one of the others
pub of-others : (c : Class) (item : Item) (ds es : List Class) → Each (λ d. is_a c d item ≡ false) ds →
    IsOneOf c (ds ++ es) item → IsOneOf c es item
of-others c item [] es none one = one
of-others c item (d ∷ ds) es none (inl named) = let h : true ≡ false = sym (is-named c item named) ∙ none.0 in absurd (cc)
of-others c item (d ∷ ds) es none (inr one) = of-others c item ds es none.1 one

-- ---- class after class

-- the arguments of these classes, those of each class together, before these others
abbrev pub class_by_class : Class → List Class → List Item → Siblings → Siblings
class_by_class c [] items rest = rest
class_by_class c (d ∷ ds) items rest =
    without_places_onto (those c d (onto items End)) (class_by_class c ds items rest)

-- the ranks of the classes rise
abbrev pub RanksRise : List Class → Type 0
RanksRise [] = Unit {0}
RanksRise (d ∷ ds) = Each (λ e. rank d < rank e) ds × RanksRise ds

-- one of another rank is not of this class
not-ranked : (c d : Class) (item : Item) {e : Class} → class_in c item ≡ Some e → rank d ≢ rank e →
    is_a c d item ≡ false
not-ranked c d item {e = e} named apart =
    ap (is_class d) named ∙ false_same the_type (search rules) e d (λ same. apart (sym (ap rank same)))

-- after one of a higher rank there is none of this class
none-behind : (c d : Class) (m : ℕ) (items : List Item) (rest : Siblings) → rank d < m → Rise c m (onto items rest) →
    those c d (onto items End) ≡ []
none-behind c d m [] rest low rise = refl
none-behind c d m (item ∷ items) rest low rise =
    elim (class_in c item) as (λ o. class_in c item ≡ o →
    AtClass o (λ e. (m ≤ rank e) × Rise c (rank e) (onto items rest)) → those c d (onto (item ∷ items) End) ≡ []) [
      | None ↦ λ named h. absurd h
      | Some e ↦ λ named h.
          let least : m ≤ rank e = h.0 in
          rw (not-ranked c d item named (λ same. omega arith)) (none-behind c d (rank e) items rest (omega arith) h.1)
    ] refl rise

-- one of a lower rank than these classes is of none
skipped : (c d : Class) (ds : List Class) (item : Item) (items : List Item) (rest : Siblings) →
    class_in c item ≡ Some d → Each (λ e. rank d < rank e) ds →
    class_by_class c ds (item ∷ items) rest ≡ class_by_class c ds items rest
skipped c d [] item items rest named higher = refl
skipped c d (e ∷ es) item items rest named higher =
    let h : rank d < rank e = higher.0 in
    rw (not-ranked c e item named (λ same. omega arith))
    (ap (without_places_onto (those c e (onto items End))) (skipped c d es item items rest named higher.1))

-- the class of one of these, with what holds of each
class-of : (P : Class → Type 0) (c : Class) (ds : List Class) (item : Item) → IsOneOf c ds item → Each P ds →
    (e : Class) × ((class_in c item ≡ Some e) × P e)
class-of P c [] item one each = absurd one
class-of P c (d ∷ ds) item (inl named) each = (d, (named, each.0))
class-of P c (d ∷ ds) item (inr one) each = class-of P c ds item one each.1

-- one more in front
one-more : (c : Class) (ds : List Class) → RanksRise ds → (m : ℕ) (item : Item) (items : List Item)
    (others rest : Siblings) → IsOneOf c ds item → Rise c m (onto (item ∷ items) others) →
    class_by_class c ds (item ∷ items) rest ≡ More (without_places item) (class_by_class c ds items rest)
one-more c [] up m item items others rest one rise = absurd one
one-more c (d ∷ ds) up m item items others rest (inl named) rise =
    rw (is-named c item named) (ap (λ xs. More (without_places item) (without_places_onto (those c d (onto items End)) xs))
    (skipped c d ds item items rest named up.0))
one-more c (d ∷ ds) up m item items others rest (inr one) rise =
    let a = class-of (λ e. rank d < rank e) c ds item one up.0 in
    let higher : rank d < rank a.0 = a.1.1 in
    rw (
      not-ranked c d item a.1.0 (λ same. omega arith),
      none-behind c d (rank a.0) items others higher (rise-as c m item (onto items others) a.0 a.1.0 rise).1,
    )
    (one-more c ds up.1 m item items others rest one rise)

-- arguments of these classes whose ranks rise stand class by class
pub by-rank : (c : Class) (ds : List Class) → RanksRise ds → (m : ℕ) (items : List Item) (others : Siblings) →
    Rise c m (onto items others) → Each (IsOneOf c ds) items → (rest : Siblings) →
    without_places_onto items rest ≡ class_by_class c ds items rest
by-rank c ds up m [] others rise ones rest = sym (none ds)
  where
    none : (ds : List Class) → class_by_class c ds [] rest ≡ rest
    none [] = refl
    none (d ∷ ds) = none ds
by-rank c ds up m (item ∷ items) others rise ones rest =
    let behind = rise-behind c m (item ∷ []) (onto items others) rise in
    ap (More (without_places item)) (by-rank c ds up behind.0 items others behind.1 ones.1 rest)
    ∙ sym (one-more c ds up m item items others rest ones.0 rise)

-- ---- the classes at the end

abbrev pub end_classes : List Class
end_classes = class.GeoidModel ∷ class.Usage ∷ class.Identifier ∷ class.Remark ∷ []

-- an argument at the end that is no part of a usage
pub end-as : (c : Class) (item : Item) → IsOneOf c tail.classes item → Each (λ d. is_a c d item ≡ false) bare_classes →
    IsOneOf c end_classes item
end-as c item (inl named) bare = inr (inl named)
end-as c item (inr one) bare =
    inr (inr (of-others c item bare_classes (class.Identifier ∷ class.Remark ∷ []) bare one))

pub vertical_end-as : (c : Class) (item : Item) → IsOneOf c vertical_tail.classes item →
    Each (λ d. is_a c d item ≡ false) bare_classes → IsOneOf c end_classes item
vertical_end-as c item (inl named) bare = inl named
vertical_end-as c item (inr one) bare = end-as c item one bare

none-here : (c d : Class) (item : Item) (rest : Siblings) → those c d (More item rest) ≡ [] →
    (is_a c d item ≡ false) × (those c d rest ≡ [])
none-here c d item rest e =
    elim (is_a c d item) as (λ b. is_a c d item ≡ b →
    (if b then item ∷ those c d rest else those c d rest) ≡ [] → (is_a c d item ≡ false) × (those c d rest ≡ [])) [
      | true ↦ λ is h. absurd (cc)
      | false ↦ λ is h. (is, h)
    ] refl e

-- where there is none of these classes, each argument is of none
pub none-of : (c : Class) (ds : List Class) (items : List Item) → Each (λ d. those c d (onto items End) ≡ []) ds →
    Each (λ i. Each (λ d. is_a c d i ≡ false) ds) items
none-of c ds [] none = tt
none-of c ds (i ∷ is) none = (
  each-so _ _ (λ d e. (none-here c d i (onto is End) e).0) ds none,
  none-of c ds is (each-so _ _ (λ d e. (none-here c d i (onto is End) e).1) ds none),
)
