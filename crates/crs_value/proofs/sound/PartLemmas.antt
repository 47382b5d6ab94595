-- What well-formed items of the right shape that break no check say is sound: texts, numbers, identifiers and units.
use Rattle.std.proofs.Common.{◌≡◌, ◌≢◌, ℕ, zero, suc, ◌<◌, Bool, true, false, inl, inr, Option, Some, None, List, [], ◌∷◌, refl, sym, ap, subst, arith, ◌==◌, IfSome, IsSome, IsAscii}
use Rattle.std.specs.List.{list_all}
use Rattle.std.proofs.lemmas.Bool.{and_parts, and_from}
use Rattle.std.proofs.lemmas.Bool.Decides.{nat_tests}
use Rattle.std.proofs.lemmas.Str.{IsUtf8-from_ascii}
use Rattle.std.proofs.lemmas.Str.Ascii.{IsAscii-nil, IsAscii-cons}
use Rattle.crs_decimal.specs.inner.Prelude.{is_run_byte, Value, IsNormal}
use Rattle.crs_text.specs.inner.Prelude.{Item, leaf, node, Siblings, End, More, arguments, raw_of, skip, doubled, RefusedAt, Kind, number, text, word, IsSingle, IsWord, is_letter, is_word_byte, AreFormed, AreAllFormed}
use Rattle.crs_shape.specs.declared.class.Class.{Class}
use Rattle.crs_shape.specs.declared.class.Class.TheVariants as class
use Rattle.crs_shape.specs.inner.Prelude.{keywords_of, Shaped, SpellsWord, unit_word}
use Rattle.crs_shape.specs.declared.unit_kind.UnitKind.{UnitKind}
use Rattle.crs_shape.specs.declared.unit_kind.UnitKind.TheVariants as kinds
use Rattle.crs_value.specs.Checks.{IsAboveZero, NotAbove, at, AnyOf, OfUnit, Own}
use Rattle.crs_value.specs.inner.ReadOnce.{IsSound, IsUnitClass}
use Rattle.crs_value.specs.Reading.{those, ReadsFirst, ReadsOptional, ReadsElse, ReadsEach, ReadsText, ReadsTextOf, single_of, ReadsIdent, ReadsIds, ReadsNamed}
use Rattle.crs_value.specs.Reads.{ReadsNumber, ReadsKind, ReadsNumberOf, ReadsUnit}
use Rattle.crs_value.specs.Sound.{Each, IsText, IsIdent, IsNamed, IsUnit, Suits, IsUnitOf, IsAxisUnit}
use Rattle.crs_value.specs.NamedValues.{IdentParts}
use Rattle.crs_value.proofs.found.ArgumentLemmas.{arguments-sound}
use Rattle.crs_value.proofs.some.DecisionLemmas.{decided-above, decided-suits, stable}
use Rattle.crs_value.proofs.sound.KnownWordLemmas.{NoneOf, no-keyword, own-free}
use Rattle.crs_value.proofs.one.WordLemmas.{kind-one}

-- ---- the bytes of numbers and words are texts too

-- a byte of ASCII that is no quote
record IsCommon (b : ℕ) : Type 0 where
  small : b < 128
  no_quote : (b == 34) ≡ false

unquoted : (test : ℕ → Bool) → ((b : ℕ) → test b ≡ true → IsCommon b) → (raw : List ℕ) → list_all test raw ≡ true → (raw ≡ doubled raw) × IsAscii raw
unquoted test common [] e = (refl, IsAscii-nil)
unquoted test common (b ∷ bs) e =
    let parts = and_parts _ _ e in
    let here = common b parts.0 in
    let rest = unquoted test common bs parts.1 in
    (rw here.no_quote (ap (λ cs. b ∷ cs) rest.0), IsAscii-cons b bs here.small rest.1)

plain-text : (test : ℕ → Bool) → ((b : ℕ) → test b ≡ true → IsCommon b) → (raw : List ℕ) → list_all test raw ≡ true → IsText raw
plain-text test common raw e = let plain = unquoted test common raw e in ((raw, plain.0), IsUtf8-from_ascii raw plain.1)

run-common : (b : ℕ) → is_run_byte b ≡ true → IsCommon b
run-common b e = record { small = grind (arith, nat_tests); no_quote = grind (arith, nat_tests) }

word-common : (b : ℕ) → is_word_byte b ≡ true → IsCommon b
word-common b e = record { small = grind (arith, nat_tests); no_quote = grind (arith, nat_tests) }

word-text : (raw : List ℕ) → IsWord raw → IsText raw
word-text [] h = absurd h
word-text (b ∷ bs) h = plain-text is_word_byte word-common (b ∷ bs) (and_from _ _ (letter-word b h.0) h.1)
  where
    letter-word : (b : ℕ) → is_letter b ≡ true → is_word_byte b ≡ true
    letter-word b e = grind (arith, nat_tests)

single-text : (kind : Kind) (raw : List ℕ) → IsSingle kind raw → IsText raw
single-text number raw h = plain-text is_run_byte run-common raw h.1
single-text text raw h = h
single-text word raw h = word-text raw h

-- the raw bytes of each item are a text
pub formed-text : (item : Item) → AreFormed item → IsText (raw_of item)
formed-text (leaf kind place raw) h = single-text kind raw h
formed-text (node place keyword square first others close) h = word-text keyword h.0

-- ---- from the arguments of a sound item to what is read from them

-- what is read from sound items of this class has the property
abbrev pub Tells : {V : Type 0} → Class → (Item → V → Type 0) → (V → Type 0) → Type 0
Tells {V = V} c R P = (item : Item) (value : V) → IsSound c item → R item value → P value

pub tells-as : {V : Type 0} (R : Class → Item → V → Type 0) (P : V → Type 0) (c d : Class) → c ≡ d → Tells d (R d) P → Tells c (R c) P
tells-as R P c d same tells = let Q : Class → Type 0 = λ x. Tells x (R x) P in subst Q (sym same) tells

-- what is read from items with a property, from the first, from the first if any is, from each of them, or else otherwise
module _ {V : Type 0} (R : Item → V → Type 0) (Q : Item → Type 0) (P : V → Type 0) (tells : (item : Item) (value : V) → Q item → R item value → P value) where
  pub first-of : (items : List Item) (value : V) → Each Q items → ReadsFirst R items value → P value
  first-of [] value all reads = absurd reads
  first-of (item ∷ items) value all reads = tells item value all.0 reads

  pub optional-of : (items : List Item) (value : Option V) → Each Q items → ReadsOptional R items value → IfSome value P
  optional-of items None all reads = tt
  optional-of [] (Some value) all reads = absurd reads
  optional-of (item ∷ items) (Some value) all reads = tells item value all.0 reads

  pub each-of : (items : List Item) (values : List V) → Each Q items → ReadsEach R items values → Each P values
  each-of items [] all reads = tt
  each-of [] (value ∷ values) all reads = absurd reads
  each-of (item ∷ items) (value ∷ values) all reads = (tells item value all.0 reads.0, each-of items values all.1 reads.1)

  pub else-of : (Otherwise : V → Type 0) (items : List Item) (value : V) → (Otherwise value → P value) → Each Q items → ReadsElse R items Otherwise value → P value
  else-of Otherwise [] value other all reads = other reads
  else-of Otherwise (item ∷ items) value other all reads = tells item value all.0 reads

-- each of some values, or of some items that break no check
pub each-as : {V : Type 0} (P Q : V → Type 0) → ((value : V) → P value → Q value) → (values : List V) → Each P values → Each Q values
each-as P Q step [] all = tt
each-as P Q step (value ∷ values) all = (step value all.0, each-as P Q step values all.1)

pub each-free : (Broken : Item → RefusedAt → Type 0) (items : List Item) → ((fault : RefusedAt) → ¬ (AnyOf Broken items fault)) →
    Each (λ item. (fault : RefusedAt) → ¬ (Broken item fault)) items
each-free Broken [] free = tt
each-free Broken (item ∷ items) free = (λ fault h. free fault (inl h), each-free Broken items (λ fault h. free fault (inr h)))

-- the same of the arguments of a class

pub first-tells : {V : Type 0} (R : Item → V → Type 0) (P : V → Type 0) (parent c : Class) → Tells c R P → (item : Item) (value : V) → IsSound parent item →
    ReadsFirst R (those parent c (arguments item)) value → P value
first-tells R P parent c tells item value sound reads = first-of R (IsSound c) P tells (those parent c (arguments item)) value (arguments-sound parent c item sound) reads

pub optional-tells : {V : Type 0} (R : Item → V → Type 0) (P : V → Type 0) (parent c : Class) → Tells c R P → (item : Item) (value : Option V) → IsSound parent item →
    ReadsOptional R (those parent c (arguments item)) value → IfSome value P
optional-tells R P parent c tells item value sound reads = optional-of R (IsSound c) P tells (those parent c (arguments item)) value (arguments-sound parent c item sound) reads

pub each-tells : {V : Type 0} (R : Item → V → Type 0) (P : V → Type 0) (parent c : Class) → Tells c R P → (item : Item) (value : List V) → IsSound parent item →
    ReadsEach R (those parent c (arguments item)) value → Each P value
each-tells R P parent c tells item value sound reads = each-of R (IsSound c) P tells (those parent c (arguments item)) value (arguments-sound parent c item sound) reads

pub else-tells : {V : Type 0} (R : Item → V → Type 0) (Otherwise P : V → Type 0) (parent c : Class) → Tells c R P → (item : Item) (value : V) → (Otherwise value → P value) →
    IsSound parent item → ReadsElse R (those parent c (arguments item)) Otherwise value → P value
else-tells R Otherwise P parent c tells item value other sound reads =
    else-of R (IsSound c) P tells Otherwise (those parent c (arguments item)) value other (arguments-sound parent c item sound) reads

-- ---- optional arguments

pub read-none : {V : Type 0} (R : Item → V → Type 0) (items : List Item) (o : Option V) → ReadsOptional R items o → items ≡ [] → o ≡ None
read-none R items None reads e = refl
read-none R [] (Some value) reads e = absurd reads
read-none R (item ∷ items) (Some value) reads e = cc

pub read-there : {V : Type 0} (R : Item → V → Type 0) (items : List Item) (o : Option V) → ReadsOptional R items o → items ≢ [] → (value : V) × (o ≡ Some value)
read-there R items (Some value) reads some = (value, refl)
read-there R [] None reads some = absurd (some refl)
read-there R (item ∷ items) None reads some = absurd reads

pub some-read : {V : Type 0} (R : Item → V → Type 0) (items : List Item) (o : Option V) → ReadsOptional R items o → items ≢ [] → IsSome o
some-read R items o reads some = rw (read-there R items o reads some).1 refl

-- ---- texts and numbers

said-text : (item : Item) (value : List ℕ) → AreFormed item → ReadsText item value → IsText value
said-text item value formed reads = subst IsText reads (formed-text item formed)

pub text-of-tells : (c : Class) → Tells c (ReadsTextOf c) IsText
text-of-tells c item value sound reads =
    first-tells ReadsText IsText c class.Text (λ text said sound reads. said-text text said sound.formed reads) item value sound reads

-- a node of one text within another
pub optional-text-tells : (parent c : Class) (item : Item) (value : Option (List ℕ)) → IsSound parent item → ReadsOptional (ReadsTextOf c) (those parent c (arguments item)) value →
    IfSome value IsText
optional-text-tells parent c item value sound reads =
    optional-tells (ReadsTextOf c) IsText parent c (text-of-tells c) item value sound reads

pub number-first : (items : List Item) (value : Value) → ReadsFirst ReadsNumber items value → IsNormal value
number-first [] value reads = absurd reads
number-first (item ∷ items) value reads = reads.0

pub number-of-tells : (c : Class) → Tells c (ReadsNumberOf c) IsNormal
number-of-tells c item value sound reads = number-first (those c class.Number (arguments item)) value reads

-- ---- identifiers

single-formed : (items : Siblings) → AreAllFormed items → Each AreFormed (single_of items)
single-formed End formed = tt
single-formed (More (leaf number place raw) items) formed = (formed.0, tt)
single-formed (More (leaf text place raw) items) formed = (formed.0, tt)
single-formed (More (leaf word place raw) items) formed = (formed.0, tt)
single-formed (More (node place keyword square first others close) items) formed = tt

skip-formed : (n : ℕ) (items : Siblings) → AreAllFormed items → AreAllFormed (skip n items)
skip-formed zero items formed = formed
skip-formed (suc n) End formed = skip-formed n End formed
skip-formed (suc n) (More item items) formed = skip-formed n items formed.1

pub arguments-formed : (item : Item) → AreFormed item → AreAllFormed (arguments item)
arguments-formed (leaf kind place raw) formed = tt
arguments-formed (node place keyword square first others close) formed = (formed.1, formed.2)

pub ident-tells : (c : Class) → Tells c (ReadsIdent c) IsIdent
ident-tells c item value sound reads =
    let from : (n : ℕ) → Each AreFormed (single_of (skip n (arguments item)))
    = λ n. single-formed (skip n (arguments item)) (skip-formed n (arguments item) (arguments-formed item sound.formed)) in
    record {
      authority = text-of-tells c item value.authority sound reads.authority;
      code = first-of ReadsText AreFormed IsText said-text (single_of (skip 1 (arguments item))) value.code (from 1) reads.code;
      version = optional-of ReadsText AreFormed IsText said-text (single_of (skip 2 (arguments item))) value.version (from 2) reads.version;
      citation = optional-text-tells c class.Citation item value.citation sound reads.citation;
      uri = optional-text-tells c class.Uri item value.uri sound reads.uri;
    }

pub identifiers-tell : (c : Class) (item : Item) (identifiers : List IdentParts) → IsSound c item → ReadsIds c item identifiers → Each IsIdent identifiers
identifiers-tell c item identifiers sound reads =
    each-tells (ReadsIdent class.Identifier) IsIdent c class.Identifier (ident-tells class.Identifier) item identifiers sound reads

pub named-tells : (c : Class) → Tells c (ReadsNamed c) IsNamed
named-tells c item value sound reads = record {
  name = text-of-tells c item value.name sound reads.name;
  identifiers = identifiers-tell c item value.identifiers sound reads.identifiers;
}

-- ---- units

pub above-first : (items : List Item) (value : Value) → ((fault : RefusedAt) → AnyOf NotAbove items fault → ⊥) → ReadsFirst ReadsNumber items value → IsAboveZero value
above-first [] value free reads = absurd reads
above-first (item ∷ items) value free reads = stable (decided-above value) (λ never. free (at 28 item) (inl (refl, (value, (reads, never)))))

own-unit : (c : Class) (item : Item) (fault : RefusedAt) → IsUnitClass c → OfUnit c item fault → Own c item fault
unfolding Own
own-unit class.LengthUnit item fault is h = h
own-unit class.AngleUnit item fault is h = h
own-unit class.ScaleUnit item fault is h = h
own-unit class.PlainUnit item fault is h = h
own-unit class.AxisUnit item fault is h = h
own-unit other item fault is h = absurd is

pub unit-tells : (c : Class) → IsUnitClass c → Tells c (ReadsUnit c) IsUnit
unit-tells c is item value sound reads = record {
  name = text-of-tells c item value.name sound reads.name;
  factor = number-of-tells c item value.factor sound reads.factor;
  above_zero = above-first (those c class.Number (arguments item)) value.factor (λ fault broken. own-free c item fault sound (own-unit c item fault is broken)) reads.factor;
  identifiers = identifiers-tell c item value.identifiers sound reads.identifiers;
}

apart : (raw : List ℕ) (j k : UnitKind) → j ≢ k → SpellsWord raw (unit_word j) → ¬ (SpellsWord raw (unit_word k))
apart raw j k other p q = other (kind-one raw j k p q)

-- a unit of a class with two keywords is of the kind of the first, or of any
suits-kind : (c : Class) (asked kind : UnitKind) (item : Item) → IsUnitClass c → Shaped c item → ReadsKind item kind →
    ((raw : List ℕ) → ¬ (SpellsWord raw (unit_word asked)) → ¬ (SpellsWord raw (unit_word kinds.Plain)) → NoneOf (keywords_of c) raw) → Suits asked kind
suits-kind c asked kind item is shaped reads none =
    stable (decided-suits asked kind)
    (λ never. no-keyword c item is shaped
    (none (raw_of item) (apart (raw_of item) kind asked (λ e. never (inl e)) reads) (apart (raw_of item) kind kinds.Plain (λ e. never (inr e)) reads)))

axis-kind : (item : Item) → Shaped class.AxisUnit item → ReadsKind item kinds.Scale → ⊥
axis-kind item shaped reads =
    let other : (k : UnitKind) → kinds.Scale ≢ k → ¬ (SpellsWord (raw_of item) (unit_word k)) = λ k unlike. apart (raw_of item) kinds.Scale k unlike reads in
    no-keyword class.AxisUnit item tt shaped (other kinds.Length (λ e. cc), (other kinds.Angle (λ e. cc), (other kinds.Plain (λ e. cc), tt)))

pub length-tells : Tells class.LengthUnit (ReadsUnit class.LengthUnit) (IsUnitOf kinds.Length)
length-tells item value sound reads = (unit-tells class.LengthUnit tt item value sound reads, suits-kind class.LengthUnit kinds.Length value.kind item tt sound.shaped reads.kind (λ raw a b. (a, (b, tt))))

pub angle-tells : Tells class.AngleUnit (ReadsUnit class.AngleUnit) (IsUnitOf kinds.Angle)
angle-tells item value sound reads = (unit-tells class.AngleUnit tt item value sound reads, suits-kind class.AngleUnit kinds.Angle value.kind item tt sound.shaped reads.kind (λ raw a b. (a, (b, tt))))

pub axis-unit-tells : Tells class.AxisUnit (ReadsUnit class.AxisUnit) IsAxisUnit
axis-unit-tells item value sound reads =
    (unit-tells class.AxisUnit tt item value sound reads, λ scale. axis-kind item sound.shaped (subst (ReadsKind item) scale reads.kind))
