-- The arguments of a node as segments: what it has of each class, wherever it is, is read off them.
use Rattle.std.proofs.Common.{◌≡◌, ◌⊎◌, ℕ, Bool, true, false, if◌then◌else◌, IfSome, Option, Some, None, List, [], ◌∷◌, ◌++◌, map, inl, inr, refl, sym, ◌∙◌, ap, subst, rules}
use Rattle.std.specs.Option.{option_map}
use denote.Enum.Bare.{same_true}
use Rattle.crs_decimal.specs.inner.Prelude.{Value}
use Rattle.crs_text.specs.inner.Prelude.{Item, Siblings, End, More, arguments, at_place, at_places}
use Rattle.crs_shape.specs.contracts.class.Class.{the_type}
use Rattle.crs_shape.specs.declared.class.Class.{Class}
use Rattle.crs_shape.specs.declared.class.Class.TheVariants as class
use Rattle.crs_shape.specs.inner.Prelude.{class_in, is_class}
use Rattle.crs_value.specs.inner.Prelude.{those, ReadsEach, ReadsFirst, ReadsIfAny, ReadsOptional, ReadsTextOf}
use Rattle.crs_value.specs.Reading.{Each}
use Rattle.crs_normal.specs.inner.Prelude.{in_order, each, number_item, opt, text_item, text_node, word_item}
use Rattle.crs_normal.proofs.made.PlaceLemmas.{ArePlaced, those-placed}
use Rattle.crs_normal.proofs.members.SetLemmas.{each-in_order}
use Rattle.crs_normal.proofs.read.ViewLemmas.{each-so, onto as line}

-- the item is of class k in a node of class c
abbrev pub IsIn : Class → Class → Item → Type 0
IsIn c k item = class_in c item ≡ Some k

abbrev pub MayIn : {V : Type 0} → Class → Class → (V → Item) → Option V → Type 0
MayIn c k spell o = IfSome o (λ x. IsIn c k (spell x))

abbrev pub AreIn : {V : Type 0} → Class → Class → (V → Item) → List V → Type 0
AreIn c k spell xs = Each (λ x. IsIn c k (spell x)) xs

-- the value is read from its item, wherever that is
abbrev pub ReadsBack : {V : Type 0} → (V → Item) → (Item → V → Type 0) → V → Type 0
ReadsBack spell R x = (place : ℕ) → R (at_place place (spell x)) x

-- ---- what holds of each

pub each-all : {V : Type 0} (Q : V → Type 0) → ((x : V) → Q x) → (xs : List V) → Each Q xs
each-all Q f [] = tt
each-all Q f (x ∷ xs) = (f x, each-all Q f xs)

pub some-all : {V : Type 0} (Q : V → Type 0) → ((x : V) → Q x) → (o : Option V) → IfSome o Q
some-all Q f None = tt
some-all Q f (Some x) = f x

pub some-imp : {V : Type 0} (P Q : V → Type 0) → ((x : V) → P x → Q x) → (o : Option V) → IfSome o P → IfSome o Q
some-imp P Q f None p = tt
some-imp P Q f (Some x) p = f x p

pub some-mapped : {V W : Type 0} (norm : V → W) (P : V → Type 0) (Q : W → Type 0) → ((x : V) → P x → Q (norm x)) →
    (o : Option V) → IfSome o P → IfSome (option_map norm o) Q
some-mapped norm P Q f None p = tt
some-mapped norm P Q f (Some x) p = f x p

pub each-map : {V W : Type 0} (f : V → W) (Q : W → Type 0) (xs : List V) → Each (λ x. Q (f x)) xs → Each Q (map f xs)
each-map f Q [] h = tt
each-map f Q (x ∷ xs) h = (h.0, each-map f Q xs h.1)

-- the one forms of a set
pub set-kept : {V W : Type 0} (norm : V → W) (bytes : W → List ℕ) (P : V → Type 0) (Q : W → Type 0) →
    ((x : V) → P x → Q (norm x)) → (xs : List V) → Each P xs → Each Q (in_order bytes (map norm xs))
set-kept norm bytes P Q f xs p = each-in_order bytes Q (map norm xs) (each-map norm Q xs (each-so _ _ f xs p))

-- ---- segments

-- the item of a value that may be missing
abbrev pub given : {V : Type 0} → (V → Item) → Option V → List Item
given spell None = []
given spell (Some x) = spell x ∷ []

pub given-each : {V : Type 0} (Q : Item → Type 0) (spell : V → Item) (o : Option V) → IfSome o (λ x. Q (spell x)) →
    Each Q (given spell o)
given-each Q spell None h = tt
given-each Q spell (Some x) h = (h, tt)

pub opt-line : {V : Type 0} (spell : V → Item) (o : Option V) (rest : Siblings) →
    opt spell o rest ≡ line (given spell o) rest
opt-line spell None rest = refl
opt-line spell (Some x) rest = refl

pub each-line : {V : Type 0} (spell : V → Item) (xs : List V) (rest : Siblings) →
    each spell xs rest ≡ line (map spell xs) rest
each-line spell [] rest = refl
each-line spell (x ∷ xs) rest = ap (More (spell x)) (each-line spell xs rest)

-- those of a class among items of one class and others
pub those-line : (c d k : Class) (b : Bool) → is_class d (Some k) ≡ b → (js : List Item) (rest : Siblings) →
    Each (IsIn c k) js → those c d (line js rest) ≡ (if b then js ++ those c d rest else those c d rest)
those-line c d k true e [] rest h = refl
those-line c d k true e (j ∷ js) rest h = rw (h.0, e) (ap (λ l. j ∷ l) (those-line c d k true e js rest h.1))
those-line c d k false e [] rest h = refl
those-line c d k false e (j ∷ js) rest h = rw (h.0, e) (those-line c d k false e js rest h.1)

-- arguments of a node of class c before others, and those of each class among them
pub record Segment (c : Class) : Type 0 where
  pub onto : Siblings → Siblings
  pub among : Class → List Item → List Item
  pub holds : (d : Class) (rest : Siblings) → those c d (onto rest) ≡ among d (those c d rest)

same-if : (b : Bool) (js : List Item) → js ≡ (if b then js else js)
same-if true js = refl
same-if false js = refl

-- an item, before others, where it is of the one sort or of the other
abbrev pub if_left : {A B : Type 0} → Item → A ⊎ B → List Item → List Item
if_left item (inl a) rest = item ∷ rest
if_left item (inr b) rest = rest

abbrev pub if_right : {A B : Type 0} → Item → A ⊎ B → List Item → List Item
if_right item (inl a) rest = rest
if_right item (inr b) rest = item ∷ rest

module _ (c : Class) where
  named : (d k : Class) (item : Item) (rest : Siblings) → IsIn c k item →
      those c d (More item rest) ≡ (if is_class d (Some k) then item ∷ those c d rest else those c d rest)
  named d k item rest e = ap (λ o. if is_class d o then item ∷ those c d rest else those c d rest) e

  module _ (k l : Class) (apart : is_class k (Some l) ≡ false) (item : Item) where
    not-both : (d : Class) (b : Bool) → is_class d (Some k) ≡ b → (js : List Item) →
        (if is_class d (Some l) then item ∷ js else js)
        ≡ (if b then js else (if is_class d (Some l) then item ∷ js else js))
    not-both d true e js =
        ap (λ b. if b then item ∷ js else js)
        (subst (λ x. is_class x (Some l) ≡ false) (same_true the_type (search rules) k d e) apart)
    not-both d false e js = refl

    only-left : (b : Bool) (d : Class) (js : List Item) →
        (if b then item ∷ js else js) ≡ (if b then item ∷ js else (if is_class d (Some l) then js else js))
    only-left true d js = refl
    only-left false d js = same-if (is_class d (Some l)) js

    pub either-holds : (side : IsIn c k item ⊎ IsIn c l item) (d : Class) (rest : Siblings) →
        those c d (More item rest)
        ≡ (if is_class d (Some k) then if_left item side (those c d rest)
        else (if is_class d (Some l) then if_right item side (those c d rest) else those c d rest))
    either-holds (inl e) d rest =
        named d k item rest e ∙ only-left (is_class d (Some k)) d (those c d rest)
    either-holds (inr e) d rest =
        named d l item rest e ∙ not-both d (is_class d (Some k)) refl (those c d rest)

module _ {c : Class} where
  -- items of one class
  abbrev run : (k : Class) (items : List Item) (before : Siblings → Siblings) →
      ((rest : Siblings) → before rest ≡ line items rest) → Each (IsIn c k) items → Segment c
  run k items before lined e = record {
    onto = before;
    among = λ d rest. if is_class d (Some k) then items ++ rest else rest;
    holds = λ d rest. ap (those c d) (lined rest) ∙ those-line c d k (is_class d (Some k)) refl items rest e;
  }

  abbrev pub one-item : (k : Class) (item : Item) → IsIn c k item → Segment c
  one-item k item e = run k (item ∷ []) (More item) (λ rest. refl) (e, tt)

  abbrev pub a-text : List ℕ → Segment c
  a-text raw = one-item class.Text (text_item raw) refl

  abbrev pub a-number : Value → Segment c
  a-number value = one-item class.Number (number_item value) refl

  abbrev pub a-word : List ℕ → Segment c
  a-word raw = one-item class.Word (word_item raw) refl

  module _ {V : Type 0} (k : Class) (spell : V → Item) where
    -- an item that may be missing
    abbrev pub if-any : (o : Option V) → MayIn c k spell o → Segment c
    if-any o e = run k (given spell o) (opt spell o) (opt-line spell o) (given-each (IsIn c k) spell o e)

    abbrev pub may-be : (o : Option V) → ((x : V) → IsIn c k (spell x)) → Segment c
    may-be o e = if-any o (some-all (λ x. IsIn c k (spell x)) e o)

    -- an item for each of these
    abbrev pub for-each : (xs : List V) → AreIn c k spell xs → Segment c
    for-each xs e = run k (map spell xs) (each spell xs) (each-line spell xs) (each-map spell (IsIn c k) xs e)

    abbrev pub all-of : (xs : List V) → ((x : V) → IsIn c k (spell x)) → Segment c
    all-of xs e = for-each xs (each-all (λ x. IsIn c k (spell x)) e xs)

  -- an item of one class or the other
  abbrev pub either-item : (k l : Class) → is_class k (Some l) ≡ false → (item : Item) → IsIn c k item ⊎ IsIn c l item →
      Segment c
  either-item k l apart item side = record {
    onto = More item;
    among = λ d rest. if is_class d (Some k) then if_left item side rest
        else (if is_class d (Some l) then if_right item side rest else rest);
    holds = either-holds c k l apart item side;
  }

-- ---- all arguments

abbrev pub lay : {c : Class} → List (Segment c) → Siblings
lay [] = End
lay (s ∷ ss) = s.onto (lay ss)

abbrev pub items_of : {c : Class} → Class → List (Segment c) → List Item
items_of d [] = []
items_of d (s ∷ ss) = s.among d (items_of d ss)

those-laid : {c : Class} (d : Class) (ss : List (Segment c)) → those c d (lay ss) ≡ items_of d ss
those-laid d [] = refl
those-laid d (s ∷ ss) = s.holds d (lay ss) ∙ ap (s.among d) (those-laid d ss)

-- the arguments of the item are these, somewhere
pub record Seen (c : Class) (ss : List (Segment c)) (item : Item) : Type 0 where
  pub view : (d : Class) → ArePlaced (those c d (arguments item)) (items_of d ss)

pub seen : (c : Class) (ss : List (Segment c)) (item : Item) (start : ℕ) → arguments item ≡ at_places start (lay ss) →
    Seen c ss item
seen c ss item start same = record {
  view = λ d.
      subst (λ items. ArePlaced (those c d items) (items_of d ss)) (sym same)
      (subst (ArePlaced (those c d (at_places start (lay ss)))) (those-laid d ss) (those-placed c d start (lay ss)));
}

-- ---- what is read of the arguments of a class

pub placed-none : (items : List Item) → ArePlaced items [] → items ≡ []
placed-none [] h = refl
placed-none (item ∷ items) h = absurd h

placed-opt : {V : Type 0} (spell : V → Item) (R : Item → V → Type 0) (o : Option V) (items : List Item) →
    ArePlaced items (given spell o ++ []) → IfSome o (ReadsBack spell R) → ReadsOptional R items o
placed-opt spell R None [] p r = tt
placed-opt spell R None (item ∷ items) p r = absurd p
placed-opt spell R (Some x) [] p r = absurd p
placed-opt spell R (Some x) (item ∷ items) p r = subst (λ i. R i x) (sym p.0.1) (r p.0.0)

placed-each : {V : Type 0} (spell : V → Item) (R : Item → V → Type 0) (xs : List V) (items : List Item) →
    ArePlaced items (map spell xs ++ []) → Each (ReadsBack spell R) xs → ReadsEach R items xs
placed-each spell R [] [] p r = tt
placed-each spell R [] (item ∷ items) p r = absurd p
placed-each spell R (x ∷ xs) [] p r = absurd p
placed-each spell R (x ∷ xs) (item ∷ items) p r =
    (subst (λ i. R i x) (sym p.0.1) (r.0 p.0.0), placed-each spell R xs items p.1 r.1)

pub placed-first : (P : List Item → Type 0) (j : Item) (items : List Item) → ArePlaced items (j ∷ []) →
    ((place : ℕ) → P (at_place place j ∷ [])) → P items
placed-first P j [] p r = absurd p
placed-first P j (item ∷ []) p r = subst (λ i. P (i ∷ [])) (sym p.0.1) (r p.0.0)
placed-first P j (item ∷ x ∷ items) p r = absurd p.1

module _ {c : Class} {ss : List (Segment c)} {item : Item} (look : Seen c ss item) (d : Class) where
  abbrev Shows : List Item → Type 0
  Shows js = items_of d ss ≡ js

  shown : (js : List Item) → Shows js → ArePlaced (those c d (arguments item)) js
  shown js same = subst (ArePlaced (those c d (arguments item))) same (look.view d)

  pub lacks : Shows [] → those c d (arguments item) ≡ []
  lacks same = placed-none (those c d (arguments item)) (shown [] same)

  pub placed-at : (P : List Item → Type 0) (j : Item) → Shows (j ∷ []) → ((place : ℕ) → P (at_place place j ∷ [])) →
      P (those c d (arguments item))
  placed-at P j same r = placed-first P j (those c d (arguments item)) (shown (j ∷ []) same) r

  module _ {V : Type 0} (spell : V → Item) (Reads : Item → V → Type 0) where
    pub one-field : (x : V) → Shows (spell x ∷ []) → ReadsBack spell Reads x → ReadsFirst Reads (those c d (arguments item)) x
    one-field x same r = placed-at (λ l. ReadsFirst Reads l x) (spell x) same r

    pub opt-field : (o : Option V) → Shows (given spell o ++ []) → IfSome o (ReadsBack spell Reads) →
        ReadsOptional Reads (those c d (arguments item)) o
    opt-field o same r = placed-opt spell Reads o (those c d (arguments item)) (shown (given spell o ++ []) same) r

    pub each-field : (xs : List V) → Shows (map spell xs ++ []) → Each (ReadsBack spell Reads) xs →
        ReadsEach Reads (those c d (arguments item)) xs
    each-field xs same r = placed-each spell Reads xs (those c d (arguments item)) (shown (map spell xs ++ []) same) r

  -- a node of one text, if there is one
  pub text-field : (keyword : List ℕ) (o : Option (List ℕ)) → Shows (given (text_node keyword) o ++ []) →
      ReadsIfAny ReadsTextOf d c item o
  text-field keyword o same = opt-field (text_node keyword) (ReadsTextOf d) o same (some-all _ (λ x p. refl) o)
