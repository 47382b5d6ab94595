-- Arguments: those of a class, one after another, are sound where their node is, and as many as its slots require.
use Rattle.std.proofs.Common.{◌≡◌, ◌≢◌, ℕ, zero, suc, ◌+◌, ◌<◌, ◌≤◌, length, drop, take, Bool, true, false, IsTrue, inl, inr, Option, Some, None, List, [], ◌∷◌, ◌++◌, if◌then◌else◌, refl, sym, ◌∙◌, ap, subst, arith, rules, add-one, ◌||◌}
use denote.Enum.Bare.{sameb, same_true}
use Rattle.crs_text.specs.inner.Prelude.{Item, leaf, node, Siblings, End, More, arguments, first_of, rest_of, kind_of_item, HasId, IsAt, RefusedAt, Kind, number, AreFormed, AreAllFormed, here}
use Rattle.crs_shape.specs.contracts.class.Class.{the_type}
use Rattle.crs_shape.specs.declared.class.Class.{Class}
use Rattle.crs_shape.specs.inner.Prelude.{is_keyword, one_if, how_many, is_bounded, least, most, Allowed, Shaped, AreShaped, class_in, class_of_kind, SlotParts, slots_of, is_class}
use Rattle.crs_value.specs.inner.Arguments.{from_found, AllShaped, item_at, ahead, Holds, IsFound, RequiresOneOf}
use Rattle.crs_value.specs.Checks.{AtClass, Breaks, BreaksAmong}
use Rattle.crs_value.specs.inner.ReadOnce.{IsSound}
use Rattle.crs_value.specs.Reading.{Each, is_same, is_a, those, ReadsFirst, ReadsOptional, ReadsEach}
use Rattle.std.proofs.lemmas.List.{append-nil}
use Rattle.std.specs.Option.{IsSome}
use Rattle.std.specs.List.{list_any}
use Rattle.crs_text.specs.declared.items.ItemKind.TheVariants as kinds
use Rattle.crs_shape.specs.declared.class.Class.TheVariants as class

pub ahead_at : (tree : Item) (items : Siblings) (at : Option ℕ) → IsAt tree items at → ahead tree at ≡ items
ahead_at tree items None e = sym e
ahead_at tree items (Some id) h = h.0

pub holds_at : (tree : Item) (items : Siblings) (at : Option ℕ) → IsAt tree items at → Holds tree at
holds_at tree items None e = tt
holds_at tree items (Some id) h = h.1

pub has-some : (tree : Item) (at : Option ℕ) (id : ℕ) → at ≡ Some id → Holds tree at → HasId tree id
has-some tree at id e h = subst (Holds tree) e h

-- the first of some items is one of those, or not
pub those-first : (parent c : Class) (items : Siblings) → items ≢ End → is_a parent c (first_of items) ≡ true →
    those parent c items ≡ first_of items ∷ those parent c (rest_of items)
those-first parent c End some e = absurd (some refl)
those-first parent c (More item items) some e = ap (λ b. if b then item ∷ those parent c items else those parent c items) e

pub those-later : (parent c : Class) (items : Siblings) → items ≢ End → is_a parent c (first_of items) ≡ false →
    those parent c items ≡ those parent c (rest_of items)
those-later parent c End some e = absurd (some refl)
those-later parent c (More item items) some e = ap (λ b. if b then item ∷ those parent c items else those parent c items) e

-- ---- a property of each of some items

pub each-as : {V : Type 0} {P Q : V → Type 0} → ((v : V) → P v → Q v) → (vs : List V) → Each P vs → Each Q vs
each-as to [] h = tt
each-as to (v ∷ vs) h = (to v h.0, each-as to vs h.1)

pub each-both : {V : Type 0} {P Q R : V → Type 0} → ((v : V) → P v → Q v → R v) → (vs : List V) → Each P vs → Each Q vs → Each R vs
each-both to [] h k = tt
each-both to (v ∷ vs) h k = (to v h.0 k.0, each-both to vs h.1 k.1)

pub each-drop : (P : Item → Type 0) (n : ℕ) (items : List Item) → Each P items → Each P (drop n items)
each-drop P zero [] h = tt
each-drop P (suc n) [] h = tt
each-drop P zero (item ∷ items) h = h
each-drop P (suc n) (item ∷ items) h = each-drop P n items h.1

pub each-first : (P : Item → Type 0) (items : List Item) → Each P items → Each P (take 1 items)
each-first P [] h = tt
each-first P (item ∷ items) h = (h.0, tt)

pub each-if : (P : Item → Type 0) (b : Bool) (item : Item) (items : List Item) → (b ≡ true → P item) → Each P items → Each P (if b then item ∷ items else items)
each-if P true item items h rest = (h refl, rest)
each-if P false item items h rest = rest

pub each-on : {V : Type 0} (P : V → Type 0) (xs : List V) (x : V) → Each P xs → P x → Each P (xs ++ x ∷ [])
each-on P [] x h p = (p, tt)
each-on P (y ∷ ys) x h p = (h.0, each-on P ys x h.1 p)

-- ---- soundness goes down

abbrev pub AllSound : Class → List Item → Type 0
AllSound c items = Each (IsSound c) items

pub same_class : (d c : Class) → sameb the_type d c ≡ true → d ≡ c
same_class d c e = same_true the_type (search rules) d c e

pub class-is : (c : Class) (o : Option Class) → is_class c o ≡ true → o ≡ Some c
class-is c None e = cc
class-is c (Some d) e = ap Some (same_class d c e)

sound_as : (parent c : Class) (item : Item) (d : Class) → AreFormed item → class_in parent item ≡ Some d → Shaped d item →
    ((fault : RefusedAt) → ¬ (AtClass (class_in parent item) (λ x. Breaks x item fault))) → is_a parent c item ≡ true → IsSound c item
sound_as parent c item d formed named shaped free e =
    let same : d ≡ c = same_class d c (rw named at e) in
    rw (← same) (record { formed = formed; shaped = shaped; unbroken = rw named at free })

those-sound : (parent c : Class) (ds : List Class) (items : Siblings) → AreAllFormed items → AreShaped parent ds items → ((fault : RefusedAt) → ¬ (BreaksAmong parent items fault)) →
    AllSound c (those parent c items)
those-sound parent c ds End formed shaped free = tt
those-sound parent c [] (More item items) formed shaped free = absurd shaped
those-sound parent c (d ∷ ds) (More item items) formed shaped free =
    each-if (IsSound c) (is_a parent c item) item (those parent c items) (sound_as parent c item d formed.0 shaped.0 shaped.1.0 (λ fault b. free fault (inl b)))
    (those-sound parent c ds items formed.1 shaped.1.1 (λ fault b. free fault (inr b)))

pub arguments-sound : (parent c : Class) (item : Item) → IsSound parent item → AllSound c (those parent c (arguments item))
arguments-sound parent c (leaf kind place raw) sound = tt
arguments-sound parent c (node place keyword square first others close) sound =
    let shape = sound.shaped in
    those-sound parent c (shape.1.0 ∷ shape.1.1.0) (More first others) (sound.formed.1, sound.formed.2) (shape.1.1.1.0, (shape.1.1.1.1.0, shape.1.1.1.1.1.0))
    (λ fault b. sound.unbroken fault (inr b))

-- ---- as many as the slots require

pub those-many : (parent c : Class) (ds : List Class) (items : Siblings) → AreShaped parent ds items → length (those parent c items) ≡ how_many (is_same c) ds
those-many parent c [] End shaped = refl
those-many parent c [] (More item items) shaped = absurd shaped
those-many parent c (d ∷ ds) End shaped = absurd shaped
those-many parent c (d ∷ ds) (More item items) shaped =
    let rest = those-many parent c ds items shaped.1.1 in
    let named : is_a parent c item ≡ sameb the_type d c = ap (is_class c) shaped.0 in
    rw named
    (elim (sameb the_type d c) as (λ b. length (if b then item ∷ those parent c items else those parent c items) ≡ one_if b + how_many (is_same c) ds) [
      | true ↦ omega (arith, rest)
      | false ↦ omega (arith, rest)
    ])

abbrev pub SlotsCount : Type 0
SlotsCount = (test : Class → Bool) (slots : List SlotParts) (classes : List Class) → Allowed slots classes → least test slots ≤ how_many test classes

no-slots : (kind : Kind) (c : Class) → 0 < least (is_same c) (slots_of (class_of_kind kind)) → ⊥
no-slots number c some = omega arith
no-slots other c some = omega arith

leaf-least : (kind : Kind) (parent c : Class) → class_of_kind kind ≡ parent → 0 < least (is_same c) (slots_of parent) → ⊥
leaf-least kind parent c same some =
    let P : Class → Type 0 = λ x. 0 < least (is_same c) (slots_of x) in no-slots kind c (subst P (sym same) some)

pub arguments-many : SlotsCount → (parent c : Class) (item : Item) → Shaped parent item → 0 < least (is_same c) (slots_of parent) →
    least (is_same c) (slots_of parent) ≤ length (those parent c (arguments item))
arguments-many law parent c (leaf kind place raw) shaped some =
    absurd (leaf-least kind parent c (same_class (class_of_kind kind) parent shaped) some)
arguments-many law parent c (node place keyword square first others close) shaped some =
    let shape = shaped.1 in
    let many = those-many parent c (shape.0 ∷ shape.1.0) (More first others) (shape.1.1.0, (shape.1.1.1.0, shape.1.1.1.1.0)) in
    let enough = law (is_same c) (slots_of parent) (shape.0 ∷ shape.1.0) shape.1.1.1.1.1 in
    omega (arith, many, enough)

abbrev pub SlotsBound : Type 0
SlotsBound = (test : Class → Bool) (slots : List SlotParts) (classes : List Class) → IsTrue (is_bounded test slots) → Allowed slots classes → how_many test classes ≤ most test slots

pub arguments-few : SlotsBound → (parent c : Class) (item : Item) → IsTrue (is_bounded (is_same c) (slots_of parent)) → Shaped parent item →
    length (those parent c (arguments item)) ≤ most (is_same c) (slots_of parent)
arguments-few law parent c (leaf kind place raw) bounded shaped = omega arith
arguments-few law parent c (node place keyword square first others close) bounded shaped =
    let shape = shaped.1 in
    let many = those-many parent c (shape.0 ∷ shape.1.0) (More first others) (shape.1.1.0, (shape.1.1.1.0, shape.1.1.1.1.0)) in
    let few = law (is_same c) (slots_of parent) (shape.0 ∷ shape.1.0) bounded shape.1.1.1.1.1 in
    omega (arith, many, few)

pub nothing : {A : Type 0} (xs : List A) → length xs ≤ 0 → xs ≡ []
nothing [] h = refl
nothing (x ∷ xs) h = absurd (omega (arith, h))

-- ---- one after another

pub found-is : (tree : Item) (parent c : Class) (items : List Item) (at : Option ℕ) → IsFound tree parent c items at → items ≡ from_found tree parent c at
found-is tree parent c items None h = h
found-is tree parent c items (Some id) h = h.0

pub found-holds : (tree : Item) (parent c : Class) (items : List Item) (at : Option ℕ) → IsFound tree parent c items at → Holds tree at
found-holds tree parent c items None h = tt
found-holds tree parent c items (Some id) h = h.1

-- the first found argument of a sound node is sound
pub first-sound : (tree : Item) (parent c : Class) (item : Item) (id : ℕ) → IsSound parent item → IsFound tree parent c (those parent c (arguments item)) (Some id) →
    IsSound c (item_at tree id)
first-sound tree parent c item id sound found = (subst (AllSound c) found.0 (arguments-sound parent c item sound)).0

pub not-none : SlotsCount → (parent c : Class) (item : Item) → Shaped parent item → 0 < least (is_same c) (slots_of parent) → those parent c (arguments item) ≡ [] → ⊥
not-none law parent c item shaped some none =
    let many = arguments-many law parent c item shaped some in
    let e : length (those parent c (arguments item)) ≡ 0 = ap length none in
    omega (arith, many, e)

no-keyword : (keyword : List ℕ) → is_keyword class.Number keyword ≡ false
unfolding is_keyword
no-keyword keyword = refl

pub shaped-number : (item : Item) → Shaped class.Number item → kind_of_item item ≡ kinds.Number
shaped-number (leaf number place raw) shaped = refl
shaped-number (leaf other place raw) shaped = cc
shaped-number (node place keyword square first others close) shaped =
    let h : false ≡ true = sym (no-keyword keyword) ∙ shaped.0 in cc

-- ---- the shape goes down

those-shaped : (parent c : Class) (ds : List Class) (items : Siblings) → AreShaped parent ds items → AllShaped c (those parent c items)
those-shaped parent c ds End shaped = tt
those-shaped parent c [] (More item items) shaped = absurd shaped
those-shaped parent c (d ∷ ds) (More item items) shaped =
    each-if (Shaped c) (is_a parent c item) item (those parent c items)
    (λ e. let same : d ≡ c = same_class d c (rw shaped.0 at e) in subst (λ x. Shaped x item) same shaped.1.0) (those-shaped parent c ds items shaped.1.1)

pub arguments-shaped : (parent c : Class) (item : Item) → Shaped parent item → AllShaped c (those parent c (arguments item))
arguments-shaped parent c (leaf kind place raw) shaped = tt
arguments-shaped parent c (node place keyword square first others close) shaped =
    let shape = shaped.1 in
    those-shaped parent c (shape.0 ∷ shape.1.0) (More first others) (shape.1.1.0, (shape.1.1.1.0, shape.1.1.1.1.0))

pub all-shaped : (c : Class) (items others : List Item) → items ≡ others → AllShaped c items → AllShaped c others
all-shaped c items others e h = subst (AllShaped c) e h

pub found-shaped : (tree : Item) (parent c : Class) (item : Item) (at : Option ℕ) → Shaped parent item → IsFound tree parent c (those parent c (arguments item)) at →
    AllShaped c (from_found tree parent c at)
found-shaped tree parent c item at shaped found = all-shaped c _ _ (found-is tree parent c _ at found) (arguments-shaped parent c item shaped)

pub first-shaped : (tree : Item) (parent c : Class) (item : Item) (id : ℕ) → Shaped parent item → IsFound tree parent c (those parent c (arguments item)) (Some id) →
    Shaped c (item_at tree id)
first-shaped tree parent c item id shaped found = (found-shaped tree parent c item (Some id) shaped found).0

-- ---- loops over the arguments of one class: what has been read so far

-- the list holds the values of those before; with the values of the rest it is that of all
pub record Going {V : Type 0} (R : Item → V → Type 0) (tree : Item) (parent c : Class) (whole : List Item) (list : List V) (at : Option ℕ) : Type 0 where
  pub holds : Holds tree at
  pub sound : AllSound c (from_found tree parent c at)
  pub reads : (values : List V) → ReadsEach R (from_found tree parent c at) values → ReadsEach R whole (list ++ values)

pub going-first : {V : Type 0} (R : Item → V → Type 0) (tree : Item) (parent c : Class) (item : Item) (list : List V) (at : Option ℕ) → IsSound parent item → list ≡ [] →
    IsFound tree parent c (those parent c (arguments item)) at → Going R tree parent c (those parent c (arguments item)) list at
going-first {V = V} R tree parent c item list at sound empty found =
    let e = found-is tree parent c (those parent c (arguments item)) at found in
    record {
      holds = found-holds tree parent c (those parent c (arguments item)) at found;
      sound = subst (AllSound c) e (arguments-sound parent c item sound);
      reads = λ values h.
          let P : List Item → Type 0 = λ xs. ReadsEach R xs values in
          let Q : List V → Type 0 = λ vs. ReadsEach R (those parent c (arguments item)) (vs ++ values) in
          subst Q (sym empty) (subst P (sym e) h);
    }

pub going-end : {V : Type 0} (R : Item → V → Type 0) (tree : Item) (parent c : Class) (whole : List Item) (list : List V) →
    Going R tree parent c whole list None → ReadsEach R whole list
going-end {V = V} R tree parent c whole list going =
    let Q : List V → Type 0 = λ vs. ReadsEach R whole vs in subst Q (append-nil list) (going.reads [] tt)

-- ---- the value in an option

pub some-there : {V : Type 0} (o : Option V) → (o ≡ None → ⊥) → IsSome o
some-there None none = absurd (none refl)
some-there (Some value) none = refl

pub reads-first : {V : Type 0} (R : Item → V → Type 0) (item : Item) (items more : List Item) (value : V) → items ≡ item ∷ more → R item value → ReadsFirst R items value
reads-first {V = V} R item items more value e h = let P : List Item → Type 0 = λ xs. ReadsFirst R xs value in subst P (sym e) h

pub read-some : {V : Type 0} (R : Item → V → Type 0) (items : List Item) (o : Option V) (value : V) → ReadsOptional R items o → o ≡ Some value → ReadsFirst R items value
read-some R items None value reads e = cc
read-some R [] (Some other) value reads e = absurd reads
read-some {V = V} R (item ∷ items) (Some other) value reads e =
    let h : other ≡ value = cc in
    let P : V → Type 0 = λ v. R item v in subst P h reads

-- ---- number k of a list

pub drop-more : (xs : List Item) (k : ℕ) (x : Item) (ys : List Item) → drop k xs ≡ x ∷ ys → drop (suc k) xs ≡ ys
drop-more [] zero x ys e = cc
drop-more [] (suc k) x ys e = cc
drop-more (i ∷ xs) zero x ys e = cc
drop-more (i ∷ xs) (suc k) x ys e = drop-more xs k x ys e

pub drop-short : (xs : List Item) (k : ℕ) → drop k xs ≡ [] → length xs ≤ k
drop-short [] k e = omega arith
drop-short (i ∷ xs) zero e = cc
drop-short (i ∷ xs) (suc k) e = omega (arith, drop-short xs k e)

pub number-shaped : (tree : Item) (parent c : Class) (item : Item) (k id : ℕ) → Shaped parent item → IsFound tree parent c (drop k (those parent c (arguments item))) (Some id) →
    Shaped c (item_at tree id)
number-shaped tree parent c item k id shaped found =
    (all-shaped c _ _ found.0 (each-drop (Shaped c) k (those parent c (arguments item)) (arguments-shaped parent c item shaped))).0

pub number-there : SlotsCount → (tree : Item) (parent c : Class) (item : Item) (k n : ℕ) → Shaped parent item → n < least (is_same c) (slots_of parent) → k ≤ n →
    drop k (those parent c (arguments item)) ≡ [] → ⊥
number-there law tree parent c item k n shaped enough less none =
    let many = arguments-many law parent c item shaped (omega arith) in
    let short = drop-short (those parent c (arguments item)) k none in
    omega (arith, many, short)

pub number-next : (tree : Item) (parent c : Class) (xs : List Item) (k id : ℕ) (at : Option ℕ) → IsFound tree parent c (drop k xs) (Some id) →
    IsFound tree parent c (those parent c (rest_of (here tree id))) at → IsFound tree parent c (drop (k + 1) xs) at
number-next tree parent c xs k id at found next =
    let P : List Item → Type 0 = λ ys. IsFound tree parent c ys at in
    rw add-one (subst P (sym (drop-more xs k (item_at tree id) (those parent c (rest_of (here tree id))) found.0)) next)

pub none-empty : {V : Type 0} (R : Item → V → Type 0) (items : List Item) → ReadsOptional R items None → items ≡ []
none-empty R [] h = refl
none-empty R (item ∷ items) h = absurd h

-- ---- a node whose slots require an argument of one of some classes has one

-- the node has no argument of these classes
abbrev pub HasNone : Class → List Class → Item → Type 0
HasNone c [] item = Unit {0}
HasNone c (d ∷ ds) item = (those c d (arguments item) ≡ []) × HasNone c ds item

abbrev is_one_of : List Class → Class → Bool
is_one_of ds d = list_any (λ e. is_same e d) ds

either : (a b : Bool) → one_if (a || b) ≤ one_if a + one_if b
either true b = omega arith
either false b = omega arith

no-classes : (xs : List Class) → how_many (is_one_of []) xs ≡ 0
no-classes [] = refl
no-classes (x ∷ xs) = omega (arith, no-classes xs)

one-more : (d : Class) (ds xs : List Class) → how_many (is_one_of (d ∷ ds)) xs ≤ how_many (is_same d) xs + how_many (is_one_of ds) xs
one-more d ds [] = omega arith
one-more d ds (x ∷ xs) = omega (arith, one-more d ds xs, either (is_same d x) (is_one_of ds x))

kind-none : (kind : Kind) (ds : List Class) → RequiresOneOf (class_of_kind kind) ds → ⊥
kind-none number ds some = omega arith
kind-none other ds some = omega arith

none-many : (c : Class) (xs : List Class) (item : Item) → ((d : Class) → length (those c d (arguments item)) ≡ how_many (is_same d) xs) → (ds : List Class) → HasNone c ds item →
    how_many (is_one_of ds) xs ≡ 0
none-many c xs item many [] none = no-classes xs
none-many c xs item many (d ∷ ds) none =
    let a : length (those c d (arguments item)) ≡ 0 = ap length none.0 in
    omega (arith, a, many d, none-many c xs item many ds none.1, one-more d ds xs)

pub one-there : SlotsCount → (c : Class) (ds : List Class) (item : Item) → Shaped c item → RequiresOneOf c ds → HasNone c ds item → ⊥
one-there law c ds (leaf kind place raw) shaped some none =
    let P : Class → Type 0 = λ x. RequiresOneOf x ds in
    kind-none kind ds (subst P (sym (same_class (class_of_kind kind) c shaped)) some)
one-there law c ds (node place keyword square first others close) shaped some none =
    let shape = shaped.1 in
    let enough = law (is_one_of ds) (slots_of c) (shape.0 ∷ shape.1.0) shape.1.1.1.1.1 in
    let many : (d : Class) → length (those c d (More first others)) ≡ how_many (is_same d) (shape.0 ∷ shape.1.0) =
    λ d. those-many c d (shape.0 ∷ shape.1.0) (More first others) (shape.1.1.0, (shape.1.1.1.0, shape.1.1.1.1.0)) in
    let empty = none-many c (shape.0 ∷ shape.1.0) (node place keyword square first others close) many ds none in
    omega (arith, enough, empty, some)
