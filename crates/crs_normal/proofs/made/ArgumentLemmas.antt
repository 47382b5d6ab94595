-- A node is made of arguments that say how many they are: whether they fit its slots is computed.
use Rattle.std.proofs.Common.{◌≡◌, ◌≢◌, ◌∙◌, ℕ, suc, ◌≤◌, Bool, true, false, true≢false, IsTrue, IfSome, Option, Some, None, List, [], ◌∷◌, map, length, if◌then◌else◌, refl, sym, ap, subst, arith, ◌&&◌}
use Rattle.std.specs.Option.{is_some, option_map}
use Rattle.crs_decimal.specs.inner.Prelude.{Value, IsNormal}
use Rattle.crs_text.specs.inner.Prelude.{Item, Siblings, End, More, arguments, RefusedAt, IsWord, at_place, item_text}
use Rattle.crs_shape.specs.declared.class.Class.{Class}
use Rattle.crs_shape.specs.declared.class.Class.TheVariants as class
use Rattle.crs_shape.specs.inner.Prelude.{is_keyword, Allowed, SlotParts, class_in, class_named, one, slots_of, takes}
use Rattle.crs_value.specs.declared.values.level.Level.{Level}
use Rattle.crs_value.specs.inner.Prelude.{IsText, those, Own as BreaksOwn}
use Rattle.crs_value.specs.Sound.{Each}
use Rattle.crs_normal.specs.inner.LowerLaws.{LowerLaws}
use Rattle.crs_normal.specs.Normal.{IsFirstKeyword, IsNormalIn, AreNormalIn, IsNormalNode, HasOwnForm, Rise, set_classes, Ascend}
use Rattle.crs_normal.specs.inner.Prelude.{each, node_of, number_item, number_node, opt, text_item, text_node, in_order}
use Rattle.crs_normal.proofs.made.AscendLemmas.{set-each, set-some}
use Rattle.crs_normal.proofs.made.FitLemmas.{given-few, held, more-fit, none-fit, slot-fits}
use Rattle.crs_normal.proofs.read.ViewLemmas.{each-so}
use Rattle.crs_normal.proofs.made.PlaceLemmas.{placed-ascend}
use Rattle.crs_normal.proofs.made.LeafLemmas.{number-made, text-made}
use Rattle.crs_normal.proofs.made.NodeLemmas.{IsAcceptedNormal, fine-as, IsOrderly, Made, MadeBy, Run, RunsMadeBy, Sees, as-argument, at-level, classes, each-line, given, line, lines, node-stands, none-orderly, opt-line, AreNormalBy, Stands, sees-by, IsFree, items_in, has-rise}
use Rattle.crs_normal.proofs.texts.SegmentLemmas.{given-each, some-imp, some-mapped}
use Rattle.std.proofs.lemmas.Bool.{and_parts}

-- arguments of one class, before others: that there is one at least, and that there is one at most, where that is known
pub record ArgumentBy (N : Class → Class → Item → Type 0) (most : ℕ) (parent : Class) : Type 0 where
  pub of : Class
  pub items : List Item
  pub onto : Siblings → Siblings
  pub lined : (rest : Siblings) → onto rest ≡ line items rest
  pub made : Each (MadeBy N most parent of) items
  pub some : Option (items ≢ [])
  pub few : Option (length items ≤ 1)

abbrev pub Argument : Level → ℕ → Class → Type 0
Argument level = ArgumentBy (IsNormalIn level)

pub not-none : (j : Item) → j ∷ [] ≢ []
not-none j e = cc

pub just-one : (j : Item) → length (j ∷ []) ≤ 1
just-one j = omega arith

module _ {N : Class → Class → Item → Type 0} {most : ℕ} {parent : Class} where
  abbrev pub one-of : {of : Class} {j : Item} → MadeBy N most parent of j → ArgumentBy N most parent
  one-of {of = of} {j = j} m = record {
    of = of;
    items = j ∷ [];
    onto = More j;
    lined = λ rest. refl;
    made = (m, tt);
    some = Some (not-none j);
    few = Some (just-one j);
  }

  module _ {A : Type 0} (of : Class) (spell : A → Item) where
    abbrev pub may-of : (o : Option A) → IfSome o (λ a. MadeBy N most parent of (spell a)) → ArgumentBy N most parent
    may-of o m = record {
      of = of;
      items = given spell o;
      onto = opt spell o;
      lined = opt-line spell o;
      made = given-each (MadeBy N most parent of) spell o m;
      some = None;
      few = Some (given-few spell o);
    }

    abbrev pub each-of : (xs : List A) → Option (map spell xs ≢ []) → Each (MadeBy N most parent of) (map spell xs) →
        ArgumentBy N most parent
    each-of xs some m = record {
      of = of;
      items = map spell xs;
      onto = each spell xs;
      lined = each-line spell xs;
      made = m;
      some = some;
      few = None;
    }

module _ {level : Level} {most : ℕ} {parent : Class} where
  -- a node that is made as an argument
  abbrev pub node-of : {n : ℕ} {of : Class} (j : Item) → n ≤ most → class_in parent j ≡ Some of →
      ((p : ℕ) → IsAcceptedNormal level of n (at_place p j)) → Argument level most parent
  node-of j deep named made = one-of {j = j} (as-argument deep named made)

  -- nodes that may be missing, and the members of a set, in normal form
  module _ {n : ℕ} {V A : Type 0} {P : V → Type 0} (of : Class) (norm : V → A) (spell : A → Item) where
    abbrev pub may-node : (x : Option V) → n ≤ most → ((v : V) → class_in parent (spell (norm v)) ≡ Some of) →
        IfSome x P → ((v : V) → P v → (p : ℕ) → IsAcceptedNormal level of n (at_place p (spell (norm v)))) →
        Argument level most parent
    may-node x deep named h made =
        may-of of spell (option_map norm x)
        (some-mapped norm P (λ a. Made level most parent of (spell a)) (λ v q. as-argument deep (named v) (made v q)) x h)

    abbrev pub set-of : (xs : List V) → Option (xs ≢ []) → n ≤ most →
        ((v : V) → class_in parent (spell (norm v)) ≡ Some of) → Each P xs →
        ((v : V) → P v → (p : ℕ) → IsAcceptedNormal level of n (at_place p (spell (norm v)))) →
        Argument level most parent
    set-of xs some deep named h made =
        each-of of spell (in_order (λ a. item_text (spell a)) (map norm xs)) (option_map (set-some norm spell xs) some)
        (set-each norm spell P (Made level most parent of) xs h
        (λ v q. as-argument deep (named v) (made v q)))

  abbrev pub text-of : (raw : List ℕ) → IsText raw → Argument level most parent
  text-of raw h = one-of (text-made level most parent raw h)

  abbrev pub number-of : LowerLaws → (v : Value) → IsNormal v → Argument level most parent
  number-of l v h = one-of (number-made l level most parent v h)

-- ---- all arguments

module _ {N : Class → Class → Item → Type 0} {most : ℕ} {parent : Class} where
  abbrev pub as_runs : List (ArgumentBy N most parent) → List Run
  as_runs [] = []
  as_runs (a ∷ rest) = record { of = a.of; items = a.items } ∷ as_runs rest

  abbrev pub lay : List (ArgumentBy N most parent) → Siblings
  lay [] = End
  lay (a ∷ rest) = a.onto (lay rest)

  pub laid : (all : List (ArgumentBy N most parent)) → lay all ≡ lines (as_runs all)
  laid [] = refl
  laid (a ∷ rest) = a.lined (lay rest) ∙ ap (line a.items) (laid rest)

  pub runs-made : (all : List (ArgumentBy N most parent)) → RunsMadeBy N most parent (as_runs all)
  runs-made [] = tt
  runs-made (a ∷ rest) = (a.made, runs-made rest)

  -- whether the arguments fill the slots, one after the other
  abbrev pub fit : List SlotParts → List (ArgumentBy N most parent) → Bool
  fit [] [] = true
  fit [] (a ∷ rest) = false
  fit (s ∷ ss) [] = if s.required then false else fit ss []
  fit (s ∷ ss) (a ∷ rest) =
      if takes s a.of
      then (if s.required
      then is_some a.some && ((if s.many then true else is_some a.few) && fit ss rest)
      else (if s.many then fit (s ∷ ss) rest else is_some a.few && fit ss rest))
      else (if s.required then false else fit ss (a ∷ rest))

  pub fits : (ss : List SlotParts) (all : List (ArgumentBy N most parent)) → fit ss all ≡ true →
      Allowed ss (classes (as_runs all))
  fits [] [] e = ([], (tt, refl))
  fits [] (a ∷ rest) e = absurd (true≢false (sym e))
  fits (s ∷ ss) [] e = by (fits ss []) s.required refl
    where
      by : (fit ss [] ≡ true → Allowed ss []) → (r : Bool) → s.required ≡ r → Allowed (s ∷ ss) []
      by skip true q = absurd (true≢false (sym (rw q at e)))
      by skip false q = none-fit s ss [] q (skip (rw q at e))
  fits (s ∷ ss) (a ∷ rest) e =
      by (fits ss rest) (fits (s ∷ ss) rest) (fits ss (a ∷ rest)) (takes s a.of) s.required s.many refl refl refl
    where
      by : (fit ss rest ≡ true → Allowed ss (classes (as_runs rest))) →
          (fit (s ∷ ss) rest ≡ true → Allowed (s ∷ ss) (classes (as_runs rest))) →
          (fit ss (a ∷ rest) ≡ true → Allowed ss (classes (as_runs (a ∷ rest)))) →
          (t r m : Bool) → takes s a.of ≡ t → s.required ≡ r → s.many ≡ m →
          Allowed (s ∷ ss) (classes (as_runs (a ∷ rest)))
      by next again skip true true m p q n =
          let x = and_parts (is_some a.some) _ (rw (p, q) at e) in
          let y = and_parts (if s.many then true else is_some a.few) _ x.1 in
          slot-fits s ss a.of a.items _ p (λ h. held a.some x.0)
          (λ h. held a.few (subst (λ b. (if b then true else is_some a.few) ≡ true) h y.0)) (next y.1)
      by next again skip true false true p q n = more-fit s ss a.of a.items _ p q n (again (rw (p, q, n) at e))
      by next again skip true false false p q n =
          let x = and_parts (is_some a.few) _ (rw (p, q, n) at e) in
          slot-fits s ss a.of a.items _ p (λ h. absurd (true≢false (sym h ∙ q))) (λ h. held a.few x.0) (next x.1)
      by next again skip false true m p q n = absurd (true≢false (sym (rw (p, q) at e)))
      by next again skip false false m p q n = none-fit s ss _ q (skip (rw (p, q) at e))

module _ {N : Class → Class → Item → Type 0} (level : Level) (most : ℕ) (c : Class) (keyword : List ℕ) (first : Item) (others : Siblings) (all : List (ArgumentBy N most c)) (same : More first others ≡ lay all) where
  -- what the item of such a node has of each class
  pub arguments-seen : (p : ℕ) → Sees c (as_runs all) (at_place p (node_of keyword first others))
  arguments-seen p = sees-by N most c keyword first others (as_runs all) p (same ∙ laid all) (runs-made all)

  -- a node of these arguments is accepted and normal, where they fit its slots and are in order
  pub node-made : IsWord keyword → IsTrue (is_keyword c keyword) → IsFirstKeyword c keyword →
      fit (slots_of c) all ≡ true → IsOrderly level (as_runs all) →
      ((item : Item) → Sees c (as_runs all) item → Rise c 0 (arguments item) → HasOwnForm c item) →
      ((item : Item) (fault : RefusedAt) → Sees c (as_runs all) item → ¬ (BreaksOwn c item fault)) →
      (AreNormal : Siblings → Type 0) → ((items : Siblings) → AreNormalBy N c items → AreNormal items) → (p : ℕ) →
      Stands (λ i. AreNormalBy N c (arguments i)) c (suc most) (at_place p (node_of keyword first others))
      × IsNormalNode level c keyword
      (at_place p (node_of keyword first others)) (AreNormal (arguments (at_place p (node_of keyword first others))))
  node-made letters known written fitting orderly own unbroken AreNormal normal p =
      let i : Item = at_place p (node_of keyword first others) in
      let runs : List Run = as_runs all in
      let look : Sees c runs i = arguments-seen p in
      let s = node-stands N most c keyword first others runs (same ∙ laid all) letters known (runs-made all)
      (fits (slots_of c) all fitting) unbroken p in (
        s,
        record {
          first_keyword = written;
          at_level = at-level level c runs i look orderly.1.0;
          own_form = own i look (has-rise N most c runs i look (runs-made all) orderly.1.1);
          ascending_sets = each-so (λ d. Ascend (items_in d runs)) (λ d. Ascend (those c d (arguments i)))
              (λ d. placed-ascend (those c d (arguments i)) (items_in d runs) (look.view d)) set_classes orderly.0;
          normal_arguments = normal (arguments i) s.1.normal;
        },
      )

all-normal : (level : Level) (c : Class) (items : Siblings) → AreNormalBy (IsNormalIn level) c items →
    AreNormalIn level c items
all-normal level c End h = tt
all-normal level c (More item items) h = (h.0, all-normal level c items h.1)

pub made-of : (level : Level) (most : ℕ) (c : Class) (keyword : List ℕ) (first : Item) (others : Siblings)
    (all : List (Argument level most c)) → More first others ≡ lay all → IsWord keyword →
    IsTrue (is_keyword c keyword) → IsFirstKeyword c keyword → fit (slots_of c) all ≡ true →
    IsOrderly level (as_runs all) →
    ((item : Item) → Sees c (as_runs all) item → Rise c 0 (arguments item) → HasOwnForm c item) →
    ((item : Item) (fault : RefusedAt) → Sees c (as_runs all) item → ¬ (BreaksOwn c item fault)) → (p : ℕ) →
    IsAcceptedNormal level c (suc most) (at_place p (node_of keyword first others))
made-of level most c keyword first others all same letters known written fitting orderly own unbroken p =
    let m = node-made level most c keyword first others all same letters known written fitting orderly own unbroken
    (AreNormalIn level c) (all-normal level c) p in
    (m.0.0, fine-as (omega arith) (λ n parent. m.1) m.0.1)

-- ---- nodes of one text or number

module _ {level : Level} (of : Class) (keyword : List ℕ) (letters : IsWord keyword) (known : IsTrue (is_keyword of keyword)) (written : IsFirstKeyword of keyword) (own : (item : Item) → HasOwnForm of item) (unbroken : (item : Item) (fault : RefusedAt) → ¬ (BreaksOwn of item fault)) where
  single-made : (d : Class) (first : Item) → Made level 0 of d first → slots_of of ≡ one d ∷ [] →
      takes (one d) d ≡ true → IsFree d → (p : ℕ) → IsAcceptedNormal level of 1 (at_place p (node_of keyword first End))
  single-made d first m slots t free =
      made-of level 0 of keyword _ _ (one-of m ∷ []) refl letters known written
      (rw slots (rw t refl)) (free level (first ∷ []) [] (none-orderly level)) (λ item s r. own item)
      (λ item fault s. unbroken item fault)

  text-node-made : slots_of of ≡ one class.Text ∷ [] → (raw : List ℕ) → IsText raw → (p : ℕ) →
      IsAcceptedNormal level of 1 (at_place p (text_node keyword raw))
  text-node-made slots raw h =
      single-made class.Text (text_item raw) (text-made level 0 of raw h) slots refl (λ level items runs k. k)

  number-node-made : LowerLaws → slots_of of ≡ one class.Number ∷ [] → (v : Value) → IsNormal v → (p : ℕ) →
      IsAcceptedNormal level of 1 (at_place p (number_node keyword v))
  number-node-made l slots v h =
      single-made class.Number (number_item v) (number-made l level 0 of v h) slots refl (λ level items runs k. k)

  module _ {most : ℕ} {parent : Class} (named : class_named parent keyword ≡ Some of) (deep : 1 ≤ most) where
    pub a-text : slots_of of ≡ one class.Text ∷ [] → (raw : List ℕ) → IsText raw →
        Made level most parent of (text_node keyword raw)
    a-text slots raw h = as-argument deep named (text-node-made slots raw h)

    abbrev pub may-text : slots_of of ≡ one class.Text ∷ [] → (o : Option (List ℕ)) → IfSome o IsText →
        Argument level most parent
    may-text slots o h = may-of of (text_node keyword) o (some-imp IsText _ (a-text slots) o h)

    pub a-number : LowerLaws → slots_of of ≡ one class.Number ∷ [] → (v : Value) → IsNormal v →
        Made level most parent of (number_node keyword v)
    a-number l slots v h = as-argument deep named (number-node-made l slots v h)

    abbrev pub may-number : LowerLaws → slots_of of ≡ one class.Number ∷ [] → (o : Option Value) → IfSome o IsNormal →
        Argument level most parent
    may-number l slots o h = may-of of (number_node keyword) o (some-imp IsNormal _ (a-number l slots) o h)

    abbrev pub one-number : LowerLaws → slots_of of ≡ one class.Number ∷ [] → (v : Value) → IsNormal v →
        Argument level most parent
    one-number l slots v h = one-of (a-number l slots v h)
