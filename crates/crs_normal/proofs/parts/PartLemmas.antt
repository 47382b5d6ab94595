-- Values of one kind: from the laws of their one form and its item, what their spellings have in
-- common.
use Rattle.std.proofs.Common.{◌≡◌, ◌≤◌, ◌∙◌, ℕ, List, sym, ap, subst, arith}
use Rattle.crs_text.specs.inner.Prelude.{Item, SpellsNode, at_place, item_text}
use Rattle.crs_shape.specs.declared.class.Class.{Class}
use Rattle.crs_value.specs.inner.Prelude.{IsSound, IsReadAs, IsReadOnce}
use Rattle.crs_value.specs.declared.values.level.Level.{Level}
use Rattle.crs_normal.specs.inner.Prelude.{IsWrittenForm, IsClosed}
use Rattle.crs_normal.specs.inner.Decides.{FormDecides}
use Rattle.crs_normal.proofs.WithoutPlaces.{without_places}
use Rattle.crs_normal.specs.Normal.{IsNormalIn}
use Rattle.crs_normal.specs.inner.LowerLaws.{LowerLaws}
use Rattle.crs_normal.specs.PartSpellings.{IsSpelledAs, IsSpelledBy}
use Rattle.crs_normal.proofs.texts.ClosedLemmas.{node-closed}
use Rattle.crs_normal.proofs.normal.CheckedLemmas.{Checked}
use Rattle.crs_normal.proofs.normal.FormLemmas.{Form, IsGood, without_places-text}
use Rattle.crs_normal.proofs.texts.ItemLemmas.{IsWritable, one-by-text}
use Rattle.crs_normal.proofs.made.PlaceLemmas.{text-at, placed-twice}
use Rattle.crs_normal.proofs.texts.WrittenFormLemmas.{written-form}
use Rattle.crs_normal.proofs.made.NodeLemmas.{IsAcceptedNormal, Stands, fine-as}
use Rattle.crs_normal.proofs.texts.RootLemmas.{written-at}

-- an item that is accepted as one of its class, and normal in this sense
abbrev pub IsStanding : Class → (Item → Type 0) → Item → Type 0
IsStanding c N item = Stands N c 8 item

-- it is sound
sound-of : {c : Class} {N : Item → Type 0} {item : Item} → IsStanding c N item → IsSound c item
sound-of m = record { formed = m.1.formed; shaped = m.1.shaped; unbroken = m.1.unbroken }

pub made-stands : {level : Level} {c : Class} {n : ℕ} {item : Item} → n ≤ 8 → IsAcceptedNormal level c n item →
    IsStanding c (IsNormalIn level c c) item
made-stands {c = c} l made = (made.0, fine-as l (λ n. n c) made.1)

-- it is good
pub good-of : {level : Level} {c : Class} {item : Item} → IsSound c item → IsNormalIn level c c item → IsGood level c c item
good-of sound normal = record { shaped = sound.shaped; normal = normal }

-- a normal item that is sound is what is written for the value that is read from it
abbrev pub IsItsFormSound : {V : Type 0} → Level → Class → (Class → Item → V → Type 0) → (V → Item) → Type 0
IsItsFormSound {V = V} level c Reads form =
    (item : Item) (value : V) → IsSound c item → IsNormalIn level c c item → Reads c item value → without_places item ≡ form value

-- what holds of the values of one kind
pub record IsKnownBy {V : Type 0} (c : V → Class) (N : V → Item → Type 0) (Reads : Class → Item → V → Type 0) (Is : V → Type 0) (Same : V → V → Type 0) (form : V → V) (item : V → Item) : Type 0 where
  pub decides : FormDecides Is form Same
  pub made : (x : V) → Is x → IsStanding (c x) (N x) (at_place 0 (item (form x)))
  pub reads : (x : V) → Is x → Reads (c x) (at_place 0 (item (form x))) (form x)
  pub told : (a b : V) → Is a → Is b → item_text (item (form a)) ≡ item_text (item (form b)) → form a ≡ form b
  pub sound : (x : V) → Is x → IsReadAs Reads Is (c x)
  pub own : (x : V) → Is x → (i : Item) (v : V) → IsSound (c x) i → N x i → Reads (c x) i v → without_places i ≡ item (form v)

-- the text of an item, which doesn't depend on the place
writable-at : (c : Class) (N : Item → Type 0) (i : Item) → IsStanding c N (at_place 0 i) → IsWritable (at_place 0 i)
writable-at c N i m =
    record { formed = m.1.formed; is_node = m.0; within = omega arith }

-- equal texts are of equal values, where all are read as items of one class
pub told-by : {V : Type 0} → LowerLaws → (c : V → Class) (N : V → Item → Type 0) (d : Class) (Reads : Class → Item → V → Type 0) (Is : V → Type 0) (form : V → V) (item : V → Item) →
    IsReadOnce Reads → ((x : V) → Is x → IsStanding (c x) (N x) (at_place 0 (item (form x)))) →
    ((x : V) → Is x → Reads d (at_place 0 (item (form x))) (form x)) →
    (a b : V) → Is a → Is b → item_text (item (form a)) ≡ item_text (item (form b)) → form a ≡ form b
told-by laws c N d Reads Is form item once made reads a b p q e =
    let i = item (form a) in
    let j = item (form b) in
    let same : at_place 0 i ≡ at_place 0 j =
    sym (placed-twice 0 0 i)
    ∙ one-by-text laws (at_place 0 i) (at_place 0 j) (writable-at (c a) (N a) i (made a p))
    (writable-at (c b) (N b) j (made b q)) (text-at 0 i ∙ e ∙ sym (text-at 0 j))
    ∙ placed-twice 0 0 j in
    once d (at_place 0 j) (form a) (form b) (subst (λ k. Reads d k (form a)) same (reads a p)) (reads b q)

pub told-of : {V : Type 0} → LowerLaws → {level : Level} {c : Class} {most : ℕ} {Reads : Class → Item → V → Type 0} {Is : V → Type 0} {form : V → V} (item : V → Item) →
    IsReadOnce Reads → most ≤ 8 →
    ((x : V) → Is x → (place : ℕ) → IsAcceptedNormal level c most (at_place place (item (form x)))) →
    ((x : V) → Is x → (place : ℕ) → Reads c (at_place place (item (form x))) (form x)) →
    (a b : V) → Is a → Is b → item_text (item (form a)) ≡ item_text (item (form b)) → form a ≡ form b
told-of laws {level = level} {c = c} {Reads = Reads} {Is = Is} {form = form} item once few made reads =
    told-by laws (λ x. c) (λ x. IsNormalIn level c c) c Reads Is form item once (λ x s. made-stands few (made x s 0)) (λ x s. reads x s 0)

module _ {V : Type 0} (laws : LowerLaws) {c : V → Class} {N : V → Item → Type 0} {Reads : Class → Item → V → Type 0} {Is : V → Type 0} {Same : V → V → Type 0} {form : V → V} (item : V → Item) (known : IsKnownBy c N Reads Is Same form item) where
  abbrev at-start : V → Item
  at-start x = at_place 0 (item (form x))

  form-kept : (x : V) → Is x → Is (form x)
  form-kept x s = known.sound x s (at-start x) (form x) (sound-of (known.made x s)) (known.reads x s)

  -- the form of a value is its own
  form-twice : (x : V) → Is x → form x ≡ form (form x)
  form-twice x s =
      let m = known.made x s in
      let f : without_places (at-start x) ≡ item (form (form x)) =
      known.own x s (at-start x) (form x) (sound-of m) m.1.normal (known.reads x s) in
      known.told x (form x) s (form-kept x s)
      (sym (text-at 0 (item (form x))) ∙ sym (without_places-text (at-start x)) ∙ ap item_text f)

  form-same : (x : V) → Is x → Same x (form x)
  form-same x s = (known.decides x (form x) s (form-kept x s)).0 (form-twice x s)

  stands : (x : V) → Is x → SpellsNode (item_text (item (form x))) (at-start x)
  stands x s =
      written-at laws.spells (item (form x)) (writable-at (c x) (N x) (item (form x)) (known.made x s))

  form-spelled : (x : V) → Is x → IsSpelledBy (c x) (N x) Reads Same x (item_text (item (form x)))
  form-spelled x s =
      let m = known.made x s in
      record {
        item = at-start x;
        spells = stands x s;
        written = sym (text-at 0 (item (form x)));
        shaped = m.1.shaped;
        unbroken = m.1.unbroken;
        normal = m.1.normal;
        read = form x;
        reads = known.reads x s;
        same = form-same x s;
      }

  form-one : (x : V) (bytes : List ℕ) → Is x → IsSpelledBy (c x) (N x) Reads Same x bytes →
      bytes ≡ item_text (item (form x))
  form-one x bytes s h =
      let v = h.read in
      let all : IsSound (c x) h.item =
      record { formed = laws.formed bytes h.item h.spells; shaped = h.shaped; unbroken = h.unbroken } in
      let k : Is v = known.sound x s h.item v all h.reads in
      let f : without_places h.item ≡ item (form v) = known.own x s h.item v all h.normal h.reads in
      h.written ∙ sym (without_places-text h.item) ∙ ap item_text f
      ∙ ap (λ y. item_text (item y)) (sym ((known.decides x v s k).1 h.same))

  pub canonical-by : IsWrittenForm Is Same (λ x. IsSpelledBy (c x) (N x) Reads Same x) (λ x. item_text (item (form x)))
  canonical-by =
      written-form (record {
        spelled = form-spelled;
        one = form-one;
        equal_bytes = λ a b p q. (
          λ e. (known.decides a b p q).0 (known.told a b p q e),
          λ same. ap (λ y. item_text (item y)) ((known.decides a b p q).1 same),
        );
        closed = λ x s.
            let m = known.made x s in
            subst IsClosed (text-at 0 (item (form x))) (node-closed (at-start x) m.1.formed m.0);
      })

-- ---- values of which all items are of one class

pub record IsKnownOf {V : Type 0} (level : Level) (c : Class) (most : ℕ) (Reads : Class → Item → V → Type 0) (Is : V → Type 0) (Same : V → V → Type 0) (form : V → V) (item : V → Item) : Type 0 where
  pub decides : FormDecides Is form Same
  pub made : (x : V) → Is x → (place : ℕ) → IsAcceptedNormal level c most (at_place place (item (form x)))
  pub reads : (x : V) → Is x → (place : ℕ) → Reads c (at_place place (item (form x))) (form x)
  pub once : IsReadOnce Reads
  pub sound : IsReadAs Reads Is c
  pub own : Form level c c (Checked c (Reads c)) (λ v. item (form v))

pub canonical-of : {V : Type 0} → LowerLaws → {level : Level} {c : Class} {most : ℕ} {Reads : Class → Item → V → Type 0} {Is : V → Type 0} {Same : V → V → Type 0} {form : V → V} (item : V → Item) →
    IsKnownOf level c most Reads Is Same form item → most ≤ 8 →
    IsWrittenForm Is Same (λ x. IsSpelledAs level c Reads Same x) (λ x. item_text (item (form x)))
canonical-of laws {level = level} {c = c} item k few =
    canonical-by laws item (record {
      decides = k.decides;
      made = λ x s. made-stands few (k.made x s 0);
      reads = λ x s. k.reads x s 0;
      told = told-of laws item k.once few k.made k.reads;
      sound = λ x s. k.sound;
      own = λ x s i v sound normal reads. k.own i v (good-of sound normal) (sound.unbroken, reads);
    })

-- the form of an item where whether it breaks a check doesn't matter
pub unchecked : {V : Type 0} {level : Level} {c d : Class} {R : Item → V → Type 0} {spell : V → Item} →
    Form level c d R spell → Form level c d (Checked d R) spell
unchecked form item value good reads = form item value good reads.1
