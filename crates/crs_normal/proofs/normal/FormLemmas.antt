-- From the arguments of a normal node to what is written for what is read from them.
use Rattle.std.proofs.Common.{IsTrue, IsFalse, ◌≡◌, ◌≢◌, ◌⊎◌, ℕ, ◌≤◌, length, map, Bool, true, Option, Some, None, List, [], ◌∷◌, ◌++◌, refl, sym, ◌∙◌, ap, ap₂, subst, arith}
use Rattle.std.specs.Option.{option_map}
use denote.Enum.Bare.{sameb}
use Rattle.crs_text.specs.inner.Prelude.{Item, leaf, node, Siblings, End, More, Kind, number, RefusedAt, arguments, item_text, others_text, raw_of}
use Rattle.crs_shape.specs.contracts.class.Class.{the_type}
use Rattle.crs_shape.specs.declared.class.Class.{Class}
use Rattle.crs_shape.specs.inner.Prelude.{Shaped, AreShaped, SlotParts, class_of_kind, slots_of}
use Rattle.crs_value.specs.inner.Prelude.{AtClass, Breaks, BreaksAmong, Own, those, ReadsFirst, ReadsOptional, ReadsEach, kept, kept-where_none}
use Rattle.crs_value.specs.declared.values.level.Level.{Level}
use Rattle.crs_normal.proofs.WithoutPlaces.{without_places, all_without_places}
use Rattle.crs_normal.specs.Normal.{IsNormalIn, AreNormalIn, IsFirstKeyword, KeepsAll, Ascend, HasSets, HasOwnForm, Ascends, Below}
use Rattle.crs_value.specs.Sound.{Each}
use Rattle.crs_normal.specs.inner.SpelledItems.{in_order, each, node_from, opt}
use Rattle.crs_normal.proofs.members.SetLemmas.{in_order-of}
use Rattle.crs_normal.proofs.read.ViewLemmas.{View, looked, spread, those-at, those-looked, view, without_places_onto, without_places-spread, Front, alone, front-at, front_at, same_class, slot_at}

-- ---- the text of an item doesn't depend on places

mutual
  pub without_places-text : (item : Item) → item_text (without_places item) ≡ item_text item
  without_places-text (leaf kind place raw) = refl
  without_places-text (node place keyword square first others close) =
      ap₂ (λ a b. keyword ++ 91 ∷ (a ++ (b ++ 93 ∷ []))) (without_places-text first) (all-without_places-text others)

  all-without_places-text : (items : Siblings) → others_text (all_without_places items) ≡ others_text items
  all-without_places-text End = refl
  all-without_places-text (More item items) =
      ap₂ (λ a b. 44 ∷ (a ++ b)) (without_places-text item) (all-without_places-text items)

-- nor do the bytes of a single item
raw-kept : (item : Item) → raw_of (without_places item) ≡ raw_of item
raw-kept (leaf kind place raw) = refl
raw-kept (node place keyword square first others close) = refl

-- ---- the items of a class in a normal node are of its shape and normal

pub record IsGood (level : Level) (c d : Class) (item : Item) : Type 0 where
  pub shaped : Shaped d item
  pub normal : IsNormalIn level c d item

pub record Kept (level : Level) (c : Class) (items : Siblings) : Type 0 where
  pub classes : List Class
  pub shaped : AreShaped c classes items
  pub normal : AreNormalIn level c items
  pub left : KeepsAll level c items

pub kept-good : (level : Level) (c d : Class) (items : Siblings) → Kept level c items →
    Each (IsGood level c d) (those c d items)
kept-good level c d items k =
    those-at c d (IsGood level c) (AreNormalIn level c) (λ item items e named shaped normal. (
      record {
        shaped = shaped;
        normal = subst (λ (o : Option Class). AtClass o (λ x. IsNormalIn level c x item)) named normal.0;
      },
      normal.1,
    )) k.classes items k.shaped k.normal

-- ---- a node, opened

pub record Opened (level : Level) (c : Class) (shape : List SlotParts) (item : Item) (keyword : List ℕ) : Type 0 where
  pub written : IsFirstKeyword c keyword
  pub own : HasOwnForm c item
  pub sets : HasSets c item
  pub kept : Kept level c (arguments item)
  pub slots : View c shape (arguments item)
  pub raw : raw_of item ≡ keyword
  pub without : without_places item ≡ node_from keyword (all_without_places (arguments item))
  pub breaks : (fault : RefusedAt) → Own c item fault ⊎ BreaksAmong c (arguments item) fault → Breaks c item fault

-- a class with slots is none of a single item
pub no-leaf : (c : Class) {slot : SlotParts} {slots : List SlotParts} → slots_of c ≡ slot ∷ slots → (kind : Kind) →
    sameb the_type (class_of_kind kind) c ≡ true → ⊥
no-leaf c {slot = slot} {slots = slots} are kind same =
    none kind (ap slots_of (same_class (class_of_kind kind) c same) ∙ are)
  where
    none : (kind : Kind) → slots_of (class_of_kind kind) ≡ slot ∷ slots → ⊥
    none number e = cc
    none other e = cc

pub opened : {level : Level} {parent c : Class} {slot : SlotParts} {slots : List SlotParts} (item : Item) →
    slots_of c ≡ slot ∷ slots → IsGood level parent c item → (keyword : List ℕ) × Opened level c (slot ∷ slots) item keyword
opened {c = c} (leaf kind place raw) are_slots good = absurd (no-leaf c are_slots kind good.shaped)
opened {c = c} (node place keyword square first others close) are_slots good =
    let s = good.shaped.1 in
    let normal = good.normal in
    let are : AreShaped c (s.0 ∷ s.1.0) (More first others) = (s.1.1.0, (s.1.1.1.0, s.1.1.1.1.0)) in (
      keyword,
      record {
        written = normal.first_keyword;
        own = normal.own_form;
        sets = normal.ascending_sets;
        kept = record {
          classes = s.0 ∷ s.1.0;
          shaped = are;
          normal = normal.normal_arguments;
          left = normal.at_level;
        };
        slots = subst (λ (ss : List SlotParts). View c ss (More first others)) are_slots
            (view c (s.0 ∷ s.1.0) (More first others) s.1.1.1.1.1 are);
        raw = refl;
        without = refl;
        breaks = λ fault b. b;
      },
    )

pub node-spelled : (place : ℕ) (keyword word : List ℕ) (square : Bool) (first : Item) (others : Siblings) (close : ℕ)
    (items : Siblings) → keyword ≡ word →
    all_without_places (More first others) ≡ items → without_places (node place keyword square first others close) ≡ node_from word items
node-spelled place keyword word square first others close items e f = ap₂ node_from e f

-- ---- what is written for the values

-- the item of a class in another, without its places, is what is written for the value
abbrev pub Form : {V : Type 0} → Level → Class → Class → (Item → V → Type 0) → (V → Item) → Type 0
Form {V = V} level c d R spell = (item : Item) (value : V) → IsGood level c d item → R item value →
    without_places item ≡ spell value

-- a node is what is written for its slots, one after another
pub spelled-by : {level : Level} {c : Class} {slots : List SlotParts} {item : Item} {keyword word : List ℕ}
    {items : Siblings} (o : Opened level c slots item keyword) → keyword ≡ word →
    spread c slots (arguments item) o.slots ≡ items → without_places item ≡ node_from word items
spelled-by {c = c} {slots = slots} {item = item} o e f =
    o.without ∙ ap₂ node_from e (without_places-spread c slots (arguments item) o.slots ∙ f)

-- it is enough to show of an opened node that it is what is written for the value
pub by-slots : {V : Type 0} {level : Level} {parent c : Class} {slot : SlotParts} {slots : List SlotParts}
    {R : Item → V → Type 0} {spell : V → Item} → slots_of c ≡ slot ∷ slots →
    ((item : Item) (keyword : List ℕ) (x : V) → Opened level c (slot ∷ slots) item keyword → R item x →
    without_places item ≡ spell x) → Form level parent c R spell
by-slots are_slots by item x good reads = let q = opened item are_slots good in by item q.0 x q.1 reads

-- an optional part, where a good item is what is written for its value
pub optional-by : {V : Type 0} (Good : Item → Type 0) {R : Item → V → Type 0} {spell : V → Item} →
    ((item : Item) (value : V) → Good item → R item value → without_places item ≡ spell value) →
    (found front : List Item) → Each Good found → found ≡ front → length front ≤ 1 → (value : Option V) →
    ReadsOptional R found value → {rest after : Siblings} → rest ≡ after →
    without_places_onto front rest ≡ opt spell value after
optional-by {V = V} Good {R = R} {spell = spell} form found front good e few value reads {rest = rest} f =
    alone front few (subst (Each Good) e good) value
    (subst (λ (xs : List Item). ReadsOptional R xs value) e reads) ∙ ap (opt spell value) f
  where
    alone : (front : List Item) → length front ≤ 1 → Each Good front → (value : Option V) →
        ReadsOptional R front value → without_places_onto front rest ≡ opt spell value rest
    alone [] few good None reads = refl
    alone [] few good (Some v) reads = absurd reads
    alone (item ∷ items) few good None reads = absurd reads
    alone (item ∷ []) few good (Some v) reads = ap (λ i. More i rest) (form item v good.0 reads)
    alone (item ∷ other ∷ others) few good (Some v) reads = absurd (omega arith)

pub optional-spelled : {V : Type 0} {level : Level} {c d : Class} {R : Item → V → Type 0} {spell : V → Item} →
    Form level c d R spell →
    (found front : List Item) → Each (IsGood level c d) found → found ≡ front → length front ≤ 1 → (value : Option V) →
    ReadsOptional R found value →
    {rest after : Siblings} → rest ≡ after → without_places_onto front rest ≡ opt spell value after
optional-spelled {level = level} {c = c} {d = d} form = optional-by (IsGood level c d) form

as-optional : {V : Type 0} (R : Item → V → Type 0) (found : List Item) (value : V) → ReadsFirst R found value →
    ReadsOptional R found (Some value)
as-optional R found value reads = grind (arith, reads)

pub one-spelled : {V : Type 0} {level : Level} {c d : Class} {R : Item → V → Type 0} {spell : V → Item} →
    Form level c d R spell →
    (found front : List Item) → Each (IsGood level c d) found → found ≡ front → length front ≤ 1 → (value : V) →
    ReadsFirst R found value →
    {rest after : Siblings} → rest ≡ after → without_places_onto front rest ≡ More (spell value) after
one-spelled {R = R} form found front good e few value reads f =
    optional-spelled form found front good e few (Some value) (as-optional R found value reads) f

pub opt-mapped : {V W : Type 0} (spell : W → Item) (norm : V → W) (value : Option V) (rest : Siblings) →
    opt (λ v. spell (norm v)) value rest ≡ opt spell (option_map norm value) rest
opt-mapped spell norm value rest = grind arith

-- one that is there
opt-there : {V W : Type 0} (R : Item → V → Type 0) (spell : W → Item) (norm : V → W) (all : Option V → Option W) →
    ((v : V) → all (Some v) ≡ Some (norm v)) → (found : List Item) (value : Option V) → found ≢ [] →
    ReadsOptional R found value → (rest : Siblings) →
    opt (λ v. spell (norm v)) value rest ≡ opt spell (all value) rest
opt-there R spell norm all are found value some reads rest = grind (arith, are, some, reads)

-- from no items nothing is read
reads-none : {V : Type 0} (R : Item → V → Type 0) (items : List Item) (values : List V) → ReadsEach R items values →
    items ≡ [] → values ≡ []
reads-none R items values reads none = grind (arith, reads, none)

-- what is read from items that the level keeps, it keeps
pub reads-kept : {V : Type 0} (level : Level) (R : Item → V → Type 0) (items : List Item) (values : List V) →
    ReadsEach R items values →
    kept level items ≡ items → kept level values ≡ values
reads-kept level R items values reads =
    kept-where_none level items values (reads-none R items values reads)

-- ---- sets

module _ {V W : Type 0} {level : Level} {c d : Class} {R : Item → V → Type 0} (spell : W → Item) (norm : V → W) (form : Form level c d R (λ v. spell (norm v))) where
  each-onto : (items : List Item) → Each (IsGood level c d) items → (values : List V) → ReadsEach R items values →
      {rest after : Siblings} → rest ≡ after → without_places_onto items rest ≡ each spell (map norm values) after
  each-onto [] good [] reads e = e
  each-onto [] good (v ∷ vs) reads e = absurd reads
  each-onto (item ∷ items) good [] reads e = absurd reads
  each-onto (item ∷ items) good (v ∷ vs) reads e =
      ap₂ More (form item v good.0 reads.0) (each-onto items good.1 vs reads.1 e)

  text-as : (item : Item) (v : V) → IsGood level c d item → R item v → item_text item ≡ item_text (spell (norm v))
  text-as item v good reads = sym (without_places-text item) ∙ ap item_text (form item v good reads)

  -- what is below ascending items is below the values, which ascend too
  each-below : (bytes : List ℕ) (items : List Item) → Each (IsGood level c d) items → (values : List V) →
      ReadsEach R items values → Each (λ i. Below bytes (item_text i)) items →
      Each (λ w. Below bytes (item_text (spell w))) (map norm values)
  each-below bytes items good [] reads below = tt
  each-below bytes [] good (v ∷ vs) reads below = absurd reads
  each-below bytes (item ∷ items) good (v ∷ vs) reads below = (
    subst (Below bytes) (text-as item v good.0 reads.0) below.0,
    each-below bytes items good.1 vs reads.1 below.1,
  )

  each-ascend : (items : List Item) → Each (IsGood level c d) items → (values : List V) → ReadsEach R items values →
      Ascend items → Ascends (λ w. item_text (spell w)) (map norm values)
  each-ascend items good [] reads up = tt
  each-ascend [] good (v ∷ vs) reads up = absurd reads
  each-ascend (item ∷ items) good (v ∷ vs) reads up = (
    subst (λ bytes. Each (λ w. Below bytes (item_text (spell w))) (map norm vs)) (text-as item v good.0 reads.0)
        (each-below (item_text item) items good.1 vs reads.1 up.0),
    each-ascend items good.1 vs reads.1 up.1,
  )

  -- a set, in order
  pub set-spelled : (found front : List Item) → Each (IsGood level c d) found → found ≡ front → Ascend found →
      (values : List V) → ReadsEach R found values → {rest after : Siblings} → rest ≡ after →
      without_places_onto front rest ≡ each spell (in_order (λ w. item_text (spell w)) (map norm values)) after
  set-spelled found front good e up values reads {rest = rest} {after = after} f =
      ap (λ xs. without_places_onto xs rest) (sym e) ∙ each-onto found good values reads f
      ∙ ap (λ ws. each spell ws after)
      (sym (in_order-of (λ w. item_text (spell w)) (map norm values) (each-ascend found good values reads up)))

-- ---- the arguments in a slot, which those of a class are

module _ {level : Level} {c : Class} {slots : List SlotParts} {item : Item} {keyword : List ℕ} (o : Opened level c slots item keyword) where
  abbrev pub Looked : Class → List Item → Type 0
  Looked d front = looked c d slots (arguments item) o.slots ≡ front

  pub found-in : (d : Class) {front : List Item} → Looked d front → those c d (arguments item) ≡ front
  found-in d same = those-looked c d slots (arguments item) o.slots ∙ same

  pub good-in : (d : Class) → Each (IsGood level c d) (those c d (arguments item))
  good-in d = kept-good level c d (arguments item) o.kept

  -- those in the slot at this position
  abbrev pub front_in : ℕ → List Item
  front_in k = front_at c slots (arguments item) o.slots k

  pub front-in : (k : ℕ) → Front c (slot_at slots k) (front_in k)
  front-in k = front-at c slots (arguments item) o.slots k

  pub only-in : (k : ℕ) → IsTrue (slot_at slots k).required → IsFalse (slot_at slots k).many →
      (i : Item) × (front_in k ≡ i ∷ [])
  only-in k required single = alone (front_in k) (front-in k) required single

  module _ (k : ℕ) {d : Class} {V : Type 0} {R : Item → V → Type 0} {spell : V → Item} (form : Form level c d R spell) (same : Looked d (front_in k)) (single : IsFalse (slot_at slots k).many) where
    pub one-in : (value : V) → ReadsFirst R (those c d (arguments item)) value → {rest after : Siblings} → rest ≡ after →
        without_places_onto (front_in k) rest ≡ More (spell value) after
    one-in = one-spelled form _ (front_in k) (good-in d) (found-in d same) ((front-in k).not_more single)

    pub optional-in : (value : Option V) → ReadsOptional R (those c d (arguments item)) value →
        {rest after : Siblings} → rest ≡ after → without_places_onto (front_in k) rest ≡ opt spell value after
    optional-in = optional-spelled form _ (front_in k) (good-in d) (found-in d same) ((front-in k).not_more single)

    -- the bytes of the one item of the class
    pub raws-in : IsTrue (slot_at slots k).required → (value : V) → ReadsFirst R (those c d (arguments item)) value →
        map raw_of (those c d (arguments item)) ≡ raw_of (spell value) ∷ []
    raws-in required value reads =
        let p = only-in k required single in
        let are = found-in d same ∙ p.1 in
        let good = (subst (Each (IsGood level c d)) are (good-in d)).0 in
        ap (map raw_of) are ∙ ap (λ raw. raw ∷ [])
        (sym (raw-kept p.0) ∙ ap raw_of (form p.0 value good (subst (λ (xs : List Item). ReadsFirst R xs value) are reads)))

  -- an optional part in its normal form
  module _ {d : Class} {V W : Type 0} {R : Item → V → Type 0} (spell : W → Item) (norm : V → W) (form : Form level c d R (λ v. spell (norm v))) where
    pub mapped-in : (k : ℕ) → Looked d (front_in k) → IsFalse (slot_at slots k).many → (value : Option V) →
        ReadsOptional R (those c d (arguments item)) value → {rest after : Siblings} → rest ≡ after →
        without_places_onto (front_in k) rest ≡ opt spell (option_map norm value) after
    mapped-in k same single value reads f = optional-in k form same single value reads f ∙ opt-mapped spell norm value _

    -- one that is there, as a part that may be missing is written
    pub there-in : (all : Option V → Option W) → ((v : V) → all (Some v) ≡ Some (norm v)) → (k : ℕ) →
        Looked d (front_in k) → IsFalse (slot_at slots k).many → those c d (arguments item) ≢ [] → (value : Option V) →
        ReadsOptional R (those c d (arguments item)) value → {rest after : Siblings} → rest ≡ after →
        without_places_onto (front_in k) rest ≡ opt spell (all value) after
    there-in all are k same single some value reads f =
        optional-in k form same single value reads f ∙ opt-there R spell norm all are _ value some reads _

    -- where no slot takes it
    pub missing-in : Looked d [] → (value : Option V) → ReadsOptional R (those c d (arguments item)) value →
        {rest after : Siblings} → rest ≡ after → rest ≡ opt spell (option_map norm value) after
    missing-in same value reads f =
        optional-spelled form _ [] (good-in d) (found-in d same) (omega arith) value reads f ∙ opt-mapped spell norm value _

  pub set-in : {d : Class} {V W : Type 0} {R : Item → V → Type 0} (spell : W → Item) (norm : V → W) →
      Form level c d R (λ v. spell (norm v)) → (k : ℕ) → Looked d (front_in k) →
      Ascend (those c d (arguments item)) → (values : List V) → ReadsEach R (those c d (arguments item)) values →
      {rest after : Siblings} → rest ≡ after →
      without_places_onto (front_in k) rest ≡ each spell (in_order (λ w. item_text (spell w)) (map norm values)) after
  set-in {d = d} spell norm form k same =
      set-spelled spell norm form _ (front_in k) (good-in d) (found-in d same)
