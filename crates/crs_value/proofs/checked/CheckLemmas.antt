-- Checks over the items of one class, one after another, and of coordinate systems and the orders of axes.
use Rattle.std.proofs.Common.{◌≡◌, ℕ, length, true, false, Option, Some, None, take, drop, List, [], ◌∷◌, ◌++◌, sym, ◌∙◌, ap, subst, arith, append_assoc, suc, ◌*◌, ◌≤◌, Bool, if◌then◌else◌, ◌≢◌, zero, ◌+◌, ◌<◌, IsTrue, ◌↔◌, inl, inr, ◌⊎◌, ⊎_elim, refl, length-append}
use Rattle.crs_decimal.specs.inner.Prelude.{Denotes, Value, IsNormal, exact, SameNumber, whole_number, Number}
use Rattle.crs_text.specs.inner.Prelude.{Item, arguments, rest_of, raw_of, here, RefusedAt, Siblings, End, More, count}
use Rattle.crs_shape.specs.declared.class.Class.{Class}
use Rattle.crs_shape.specs.inner.Prelude.{Shaped, IsOneOf}
use Rattle.crs_value.specs.Checks.{IsAboveZero, NotAbove, IsNegative, AnyOf, IsLeast, AxisCount, BadSystem, orders_in, SomeHasOrder, AllHaveOrder, LacksOrder, ReadsOrder, IsPosition, HasThis, OneHas, IsWrongOrder, IsBadOrder, BadOrders, BadOrder, at}
use Rattle.crs_value.specs.inner.Arguments.{from_found, AllShaped, lesser, item_at, Holds, IsFound, TakesOne}
use Rattle.crs_value.specs.Reading.{those, is_a, ReadsFirst, OneIs}
use Rattle.crs_value.specs.Reads.{ReadsNumber, HasType, HasDimension, ReadsType}
use Rattle.crs_value.proofs.found.ArgumentLemmas.{SlotsBound, arguments-few, found-is, found-holds, all-shaped, found-shaped, nothing, drop-more, drop-short}
use Rattle.crs_value.proofs.checked.LeastLemmas.{least-more, least-single, least-same, least-at, either-is, or-alone, or-more}
use Rattle.crs_shape.specs.declared.system_type.SystemType.{SystemType}
use Rattle.crs_value.proofs.one.WordLemmas.{type-one}
use Rattle.std.proofs.lemmas.List.{append-nil}
use Rattle.std.proofs.Math.Seq.{take-append_seam}
use Rattle.crs_shape.specs.declared.class.Class.TheVariants as class

-- the first break among those before
pub record Checked (B : Item → RefusedAt → Type 0) (tree : Item) (parent c : Class) (whole : List Item) (least : Option RefusedAt) (at : Option ℕ) : Type 0 where
  pub done : List Item
  pub parts : whole ≡ done ++ from_found tree parent c at
  pub holds : Holds tree at
  pub shaped : AllShaped c (from_found tree parent c at)
  pub is_least : IsLeast (AnyOf B done) least

pub checked-on : (B : Item → RefusedAt → Type 0) (tree : Item) (parent c : Class) (whole : List Item) (least next one : Option RefusedAt) (id : ℕ) (at : Option ℕ) →
    Checked B tree parent c whole least (Some id) → IsLeast (B (item_at tree id)) one → next ≡ lesser least one →
    IsFound tree parent c (those parent c (rest_of (here tree id))) at → Checked B tree parent c whole next at
checked-on B tree parent c whole least next one id at so here-least is found =
    let e = found-is tree parent c (those parent c (rest_of (here tree id))) at found in
    record {
      done = so.done ++ item_at tree id ∷ [];
      parts = so.parts ∙ ap (λ xs. so.done ++ item_at tree id ∷ xs) e ∙ sym (append_assoc so.done (item_at tree id ∷ []) (from_found tree parent c at));
      holds = found-holds tree parent c (those parent c (rest_of (here tree id))) at found;
      shaped = all-shaped c _ _ e so.shaped.1;
      is_least = rw is (least-more B so.done (item_at tree id) least one so.is_least here-least);
    }

-- ---- numbers

abbrev pub DenotesOne : Type 0
DenotesOne = (bytes : List ℕ) (a b : Value) → IsNormal a → IsNormal b → Denotes bytes (exact a) → Denotes bytes (exact b) → a ≡ b

pub number-one : DenotesOne → (item : Item) (a b : Value) → ReadsNumber item a → ReadsNumber item b → a ≡ b
number-one law item a b p q = law (raw_of item) a b p.0 q.0 p.1 q.1

pub above-none : DenotesOne → (item : Item) (value : Value) → ReadsNumber item value → IsAboveZero value → IsLeast (NotAbove item) None
above-none law item value reads above = λ f h. h.1.1.1 (subst IsAboveZero (number-one law item value h.1.0 reads h.1.1.0) above)

pub negative-none : DenotesOne → (item : Item) (value : Value) → ReadsNumber item value → value.negative ≡ false → IsLeast (IsNegative item) None
negative-none law item value reads not_below = λ f h.
    let e = number-one law item value h.1.0 reads h.1.1.0 in
    let k : true ≡ false = sym h.1.1.1 ∙ sym (ap (λ (v : Value). v.negative) e) ∙ not_below in
    cc

-- ---- the first one and those after it

pub later-shaped : (tree : Item) (parent c : Class) (item : Item) (id : ℕ) (at : Option ℕ) → Shaped parent item → IsFound tree parent c (those parent c (arguments item)) (Some id) →
    IsFound tree parent c (those parent c (rest_of (here tree id))) at → AllShaped c (from_found tree parent c at)
later-shaped tree parent c item id at shaped found next =
    all-shaped c _ _ (found-is tree parent c _ at next) (found-shaped tree parent c item (Some id) shaped found).1

pub any-later : (B : Item → RefusedAt → Type 0) (tree : Item) (parent c : Class) (items : List Item) (id : ℕ) (at : Option ℕ) (o : Option RefusedAt) →
    IsFound tree parent c items (Some id) → IsFound tree parent c (those parent c (rest_of (here tree id))) at → IsLeast (AnyOf B (from_found tree parent c at)) o →
    IsLeast (λ f. AnyOf B (drop 1 items) f) o
any-later B tree parent c items id at o found next h = rw (found.0, found-is tree parent c _ at next) h

pub any-first : (B : Item → RefusedAt → Type 0) (tree : Item) (parent c : Class) (items : List Item) (id : ℕ) (o : Option RefusedAt) →
    IsFound tree parent c items (Some id) → IsLeast (B (item_at tree id)) o → IsLeast (λ f. AnyOf B (take 1 items) f) o
any-first B tree parent c items id o found h = rw found.0 (least-single B (item_at tree id) o h)

pub none-of : (B : Item → RefusedAt → Type 0) (items : List Item) → items ≡ [] → IsLeast (AnyOf B items) None
none-of B items e = rw e (λ f h. h)

-- the only argument of a class that a node takes one of at most
pub only-of : SlotsBound → (B : Item → RefusedAt → Type 0) (tree item : Item) (parent c : Class) (id : ℕ) (o : Option RefusedAt) → TakesOne parent c → Shaped parent item →
    IsFound tree parent c (those parent c (arguments item)) (Some id) → IsLeast (B (item_at tree id)) o → IsLeast (AnyOf B (those parent c (arguments item))) o
only-of law B tree item parent c id o once shaped found h =
    let rest = those parent c (rest_of (here tree id)) in
    let few = arguments-few law parent c item once.0 shaped in
    let none : rest ≡ [] = nothing rest (omega (arith, few, once.1, ap length found.0)) in
    rw (found.0, none) (least-single B (item_at tree id) o h)

-- those from the first found one on are all of the class
pub found-any : (B : Item → RefusedAt → Type 0) (tree : Item) (parent c : Class) (items : List Item) (at : Option ℕ) (o : Option RefusedAt) →
    IsFound tree parent c items at → IsLeast (AnyOf B (from_found tree parent c at)) o → IsLeast (AnyOf B items) o
found-any B tree parent c items at o found h = rw (found-is tree parent c items at found) h

-- ---- the checks of a coordinate system's type, dimension and number of axes

pub first-one : {V : Type 0} (R : Item → V → Type 0) → ((i : Item) (a b : V) → R i a → R i b → a ≡ b) → (items : List Item) (a b : V) → ReadsFirst R items a → ReadsFirst R items b → a ≡ b
first-one R one [] a b p q = absurd p
first-one R one (i ∷ items) a b p q = one i a b p q

pub type-is-one : (cs : Item) (a b : SystemType) → HasType cs a → HasType cs b → a ≡ b
type-is-one cs a b p q = first-one ReadsType (λ i x y. type-one (raw_of i) x y) (those class.CoordinateSystem class.Word (arguments cs)) a b p q

pub dimension-is-one : DenotesOne → (cs : Item) (a b : Value) → HasDimension cs a → HasDimension cs b → a ≡ b
dimension-is-one law cs a b p q = first-one ReadsNumber (number-one law) (those class.CoordinateSystem class.Number (arguments cs)) a b p q

pub system-none : DenotesOne → (dims : SystemType → List ℕ) (cs : Item) (t : SystemType) (v : Value) → HasType cs t → HasDimension cs v → IsOneOf v (dims t) → IsLeast (BadSystem dims cs) None
system-none law dims cs t v ht hv is = λ f h.
    let e = type-is-one cs t h.1.0 ht h.1.1.1.0 in
    let d = dimension-is-one law cs v h.1.1.0 hv h.1.1.1.1 in
    let P : SystemType → Type 0 = λ x. IsOneOf v (dims x) in
    let Q : Value → Type 0 = λ x. IsOneOf x (dims h.1.0) in
    h.1.1.1.2 (subst Q d (subst P e is))

pub count-none : DenotesOne → (axes : ℕ) (cs : Item) (v : Value) → HasDimension cs v → SameNumber (exact v) (whole_number axes) → IsLeast (AxisCount axes cs) None
count-none law axes cs v hv same = λ f h.
    let d = dimension-is-one law cs v h.1.0 hv h.1.1.0 in
    let Q : Value → Type 0 = λ x. SameNumber (exact x) (whole_number axes) in
    h.1.1.1 (subst Q d same)

few-by : (b : Bool) (item : Item) (xs : List Item) (n : ℕ) → length xs ≤ n → length (if b then item ∷ xs else xs) ≤ suc n
few-by true item xs n e = omega (arith, e)
few-by false item xs n e = omega (arith, e)

pub those-few : (parent c : Class) (items : Siblings) → length (those parent c items) ≤ count items
those-few parent c End = omega arith
those-few parent c (More item items) = few-by (is_a parent c item) item (those parent c items) (count items) (those-few parent c items)

pub wholes-same : (m n : ℕ) → SameNumber (whole_number m) (whole_number n) → m ≡ n
wholes-same m n h = let s : m * 1 ≡ n * 1 = h.0 in omega (arith, s)

-- ---- the checks of the orders of axes

pub position-test : ((a b : Number) → SameNumber a b → SameNumber b a) → ((a b c : Number) → SameNumber a b → SameNumber b c → SameNumber a c) →
    (v : Value) (m n : ℕ) (b : Bool) → SameNumber (exact v) (whole_number m) → (IsTrue b ↔ ((1 ≤ m) × (m ≤ n))) → IsTrue b ↔ IsPosition n v
position-test symmetric transitive v m n b same test = (
  λ e. let h = test.0 e in (m, (h.0, h.1, same)),
  λ h. let e : m ≡ h.0 = wholes-same m h.0 (transitive (whole_number m) (exact v) (whole_number h.0) (symmetric (exact v) (whole_number m) same) h.1.2) in
      test.1 (omega (arith, h.1.0), omega (arith, h.1.1)),
)

pub order-one : DenotesOne → (order : Item) (a b : Value) → ReadsOrder order a → ReadsOrder order b → a ≡ b
order-one law order a b p q = first-one ReadsNumber (number-one law) (those class.Order class.Number (arguments order)) a b p q

pub this-test : DenotesOne → (tree axis : Item) (order : ℕ) (number value : Value) (b : Bool) → IsFound tree class.Axis class.Order (orders_in axis) (Some order) →
    ReadsOrder (item_at tree order) number → (IsTrue b ↔ (number ≡ value)) → IsTrue b ↔ HasThis value axis
this-test law tree axis order number value b found reads test =
    let P : List Item → Type 0 = λ xs. ReadsFirst ReadsOrder xs value in
    let Q : Value → Type 0 = λ v. ReadsOrder (item_at tree order) v in (
      λ e. subst P (sym found.0) (subst Q (test.0 e) reads),
      λ h. test.1 (order-one law (item_at tree order) number value reads (subst P found.0 h)),
    )

-- ---- one of the first axes has an order

has-at : (v : Value) (xs : List Item) (i k : ℕ) (x : Item) (ys : List Item) → drop i xs ≡ x ∷ ys → i < k → HasThis v x → OneHas v (take k xs)
has-at v [] zero k x ys e lt h = cc
has-at v [] (suc i) k x ys e lt h = cc
has-at v (z ∷ xs) zero zero x ys e lt h = absurd (omega arith)
has-at v (z ∷ xs) zero (suc k) x ys e lt h =
    let same : x ≡ z = cc in
    let P : Item → Type 0 = λ i. HasThis v i in inl (subst P same h)
has-at v (z ∷ xs) (suc i) zero x ys e lt h = absurd (omega arith)
has-at v (z ∷ xs) (suc i) (suc k) x ys e lt h = inr (has-at v xs i k x ys e (omega arith) h)

one-more : {V : Type 0} (P : V → Type 0) (xs : List V) (x : V) → OneIs P (xs ++ x ∷ []) ↔ (OneIs P xs ⊎ P x)
one-more P [] x = or-alone
one-more P (y ∷ ys) x = or-more (one-more P ys x)

take-more : (xs : List Item) (i : ℕ) (x : Item) (ys : List Item) → drop i xs ≡ x ∷ ys → take (suc i) xs ≡ take i xs ++ x ∷ []
take-more [] zero x ys e = cc
take-more [] (suc i) x ys e = cc
take-more (z ∷ xs) zero x ys e = let same : z ≡ x = cc in ap (λ y. y ∷ []) same
take-more (z ∷ xs) (suc i) x ys e = ap (λ t. z ∷ t) (take-more xs i x ys e)

pub record Seeking (tree : Item) (parent : Class) (whole : List Item) (v : Value) (i : ℕ) (at : Option ℕ) : Type 0 where
  pub rest : drop i whole ≡ from_found tree parent class.Axis at
  pub holds : Holds tree at
  pub shaped : AllShaped class.Axis (from_found tree parent class.Axis at)
  pub none : OneHas v (take i whole) → ⊥

pub seek-first : (tree : Item) (parent : Class) (v : Value) (at : Option ℕ) → Holds tree at → AllShaped class.Axis (from_found tree parent class.Axis at) →
    Seeking tree parent (from_found tree parent class.Axis at) v 0 at
seek-first tree parent v at holds shaped = record { rest = refl; holds = holds; shaped = shaped; none = λ h. h }

pub seek-on : (tree : Item) (parent : Class) (whole : List Item) (v : Value) (i id : ℕ) (at : Option ℕ) → Seeking tree parent whole v i (Some id) → (HasThis v (item_at tree id) → ⊥) →
    IsFound tree parent class.Axis (those parent class.Axis (rest_of (here tree id))) at → Seeking tree parent whole v (i + 1) at
seek-on tree parent whole v i id at so other found =
    let e = found-is tree parent class.Axis (those parent class.Axis (rest_of (here tree id))) at found in
    let P : ℕ → Type 0 = λ k. Seeking tree parent whole v k at in
    let more : suc i ≡ i + 1 = omega arith in
    let next : Seeking tree parent whole v (suc i) at = record {
      rest = drop-more whole i (item_at tree id) (those parent class.Axis (rest_of (here tree id))) so.rest ∙ e;
      holds = found-holds tree parent class.Axis _ at found;
      shaped = all-shaped class.Axis _ _ e so.shaped.1;
      none = λ h. ⊎_elim so.none other ((one-more (HasThis v) (take i whole) (item_at tree id)).0 (subst (OneHas v) (take-more whole i (item_at tree id) _ so.rest) h));
    } in
    subst P more next

pub seek-here : (tree : Item) (parent : Class) (whole : List Item) (v : Value) (i k id : ℕ) → Seeking tree parent whole v i (Some id) → i < k → HasThis v (item_at tree id) → OneHas v (take k whole)
seek-here tree parent whole v i k id so lt h = has-at v whole i k (item_at tree id) (those parent class.Axis (rest_of (here tree id))) so.rest lt h

pub seek-there : (tree : Item) (parent : Class) (whole : List Item) (v : Value) (i k : ℕ) (at : Option ℕ) → Seeking tree parent whole v i at → at ≡ None → i < k → k ≤ length whole → ⊥
seek-there tree parent whole v i k at so none lt le =
    let e : drop i whole ≡ [] = so.rest ∙ ap (from_found tree parent class.Axis) none in
    omega (arith, drop-short whole i e)

-- ---- some axis has an order

pub record Some-left (tree : Item) (parent : Class) (whole : List Item) (at : Option ℕ) : Type 0 where
  pub forth : SomeHasOrder (from_found tree parent class.Axis at) → SomeHasOrder whole
  pub back : SomeHasOrder whole → SomeHasOrder (from_found tree parent class.Axis at)
  pub holds : Holds tree at

pub some-on : (tree : Item) (parent : Class) (whole : List Item) (id : ℕ) (at : Option ℕ) → Some-left tree parent whole (Some id) → ((orders_in (item_at tree id) ≢ []) → ⊥) →
    IsFound tree parent class.Axis (those parent class.Axis (rest_of (here tree id))) at → Some-left tree parent whole at
some-on tree parent whole id at so other found =
    let e = found-is tree parent class.Axis (those parent class.Axis (rest_of (here tree id))) at found in
    record {
      forth = λ h. so.forth (inr (subst SomeHasOrder (sym e) h));
      back = λ h. subst SomeHasOrder e (⊎_elim (λ k. absurd (other k)) (λ k. k) (so.back h));
      holds = found-holds tree parent class.Axis _ at found;
    }

-- ---- an order by itself

pub wrong-none : DenotesOne → (n : ℕ) (before : List Item) (order : Item) (value : Value) → ReadsOrder order value → IsPosition n value → (OneHas value before → ⊥) →
    IsLeast (IsBadOrder n before order) None
wrong-none law n before order value reads position one = λ f h.
    let e = order-one law order value h.1.0 reads h.1.1.0 in
    ⊎_elim (λ wrong. wrong (subst (IsPosition n) e position)) (λ has. let P : Value → Type 0 = λ v. OneHas v before in one (subst P (sym e) has)) h.1.1.1

pub wrong-again : (n : ℕ) (before : List Item) (order : Item) (value : Value) (r : RefusedAt) → r ≡ at 26 order → ReadsOrder order value → OneHas value before →
    IsLeast (IsBadOrder n before order) (Some r)
wrong-again n before order value r e reads one = least-at (at 26 order) r (IsWrongOrder n before order) e (value, (reads, inr one))

-- ---- the orders of all axes

-- the bad orders with one axis more
bad-last : (n : ℕ) (b xs : List Item) (x : Item) (f : RefusedAt) → BadOrders n b (xs ++ x ∷ []) f ↔ (BadOrders n b xs f ⊎ AnyOf (IsBadOrder n (b ++ xs)) (orders_in x) f)
bad-last n b [] x f = rw (append-nil b) or-alone
bad-last n b (y ∷ ys) x f = or-more (rw append_assoc at (bad-last n (b ++ y ∷ []) ys x f))

bad-more : (n : ℕ) (done : List Item) (axis : Item) (a b r : Option RefusedAt) → r ≡ lesser a b → IsLeast (BadOrders n [] done) a → IsLeast (AnyOf (IsBadOrder n done) (orders_in axis)) b →
    IsLeast (BadOrders n [] (done ++ axis ∷ [])) r
bad-more n done axis a b r e p q =
    least-same (λ f. BadOrders n [] done f ⊎ AnyOf (IsBadOrder n done) (orders_in axis) f) (BadOrders n [] (done ++ axis ∷ [])) r
    (λ f. (bad-last n [] done axis f).1) (λ f. (bad-last n [] done axis f).0)
    (either-is (BadOrders n [] done) (AnyOf (IsBadOrder n done) (orders_in axis)) a b r e p q)

pub record Ordering (tree : Item) (parent : Class) (whole : List Item) (count before : ℕ) (least : Option RefusedAt) (at : Option ℕ) : Type 0 where
  pub done : List Item
  pub parts : whole ≡ done ++ from_found tree parent class.Axis at
  pub many : before ≡ length done
  pub all : count ≡ length whole
  pub holds : Holds tree at
  pub shaped : AllShaped class.Axis (from_found tree parent class.Axis at)
  pub is_least : IsLeast (BadOrders (length whole) [] done) least

-- where an axis is left, those before it aren't all
pub more-are-left : (tree : Item) (parent : Class) (whole : List Item) (count before : ℕ) (least : Option RefusedAt) (id : ℕ) → Ordering tree parent whole count before least (Some id) →
    before + 1 ≤ length whole
more-are-left tree parent whole count before least id so =
    omega (arith, so.many, ap length so.parts, length-append so.done (from_found tree parent class.Axis (Some id)))

pub ordering-first : (tree : Item) (parent : Class) (item : Item) (count : ℕ) (at : Option ℕ) → Shaped parent item → count ≡ length (those parent class.Axis (arguments item)) →
    IsFound tree parent class.Axis (those parent class.Axis (arguments item)) at → Ordering tree parent (those parent class.Axis (arguments item)) count 0 None at
ordering-first tree parent item count at shaped is found = record {
  done = [];
  parts = found-is tree parent class.Axis (those parent class.Axis (arguments item)) at found;
  many = refl;
  all = is;
  holds = found-holds tree parent class.Axis _ at found;
  shaped = found-shaped tree parent class.Axis item at shaped found;
  is_least = λ f h. h;
}

pub ordering-on : (tree : Item) (parent : Class) (whole : List Item) (count before : ℕ) (least one next : Option RefusedAt) (id : ℕ) (at : Option ℕ) →
    Ordering tree parent whole count before least (Some id) → IsLeast (AnyOf (IsBadOrder count (take before whole)) (orders_in (item_at tree id))) one → next ≡ lesser least one →
    IsFound tree parent class.Axis (those parent class.Axis (rest_of (here tree id))) at → Ordering tree parent whole count (before + 1) next at
ordering-on tree parent whole count before least one next id at so here-least e found =
    let f = found-is tree parent class.Axis (those parent class.Axis (rest_of (here tree id))) at found in
    let t : take before whole ≡ so.done = ap (λ k. take k whole) so.many ∙ ap (take (length so.done)) so.parts ∙ take-append_seam so.done (from_found tree parent class.Axis (Some id)) in
    let P : List Item → Type 0 = λ xs. IsLeast (AnyOf (IsBadOrder count xs) (orders_in (item_at tree id))) one in
    let Q : ℕ → Type 0 = λ n. IsLeast (AnyOf (IsBadOrder n so.done) (orders_in (item_at tree id))) one in
    record {
      done = so.done ++ item_at tree id ∷ [];
      parts = so.parts ∙ ap (λ xs. so.done ++ item_at tree id ∷ xs) f ∙ sym (append_assoc so.done (item_at tree id ∷ []) (from_found tree parent class.Axis at));
      many = ap (λ k. k + 1) so.many ∙ sym (length-append so.done (item_at tree id ∷ []));
      all = so.all;
      holds = found-holds tree parent class.Axis _ at found;
      shaped = all-shaped class.Axis _ _ f so.shaped.1;
      is_least = bad-more (length whole) so.done (item_at tree id) least one next e so.is_least (subst Q so.all (subst P t here-least));
    }

-- ---- the two cases

all-have : (axes : List Item) → ((f : RefusedAt) → ¬ (AnyOf LacksOrder axes f)) → AllHaveOrder axes
all-have [] none = tt
all-have (axis ∷ axes) none = (λ e. none (at 26 axis) (inl (refl, e)), all-have axes (λ f h. none f (inr h)))

not-all : (axes : List Item) (f : RefusedAt) → AnyOf LacksOrder axes f → AllHaveOrder axes → ⊥
not-all [] f h all = h
not-all (axis ∷ axes) f (inl h) all = all.0 h.1
not-all (axis ∷ axes) f (inr h) all = not-all axes f h all.1

pub order-all : (axes : List Item) (o : Option RefusedAt) → IsLeast (AnyOf LacksOrder axes) None → IsLeast (BadOrders (length axes) [] axes) o → IsLeast (BadOrder axes) o
order-all axes o none h =
    least-same (BadOrders (length axes) [] axes) (BadOrder axes) o (λ f k. inr (all-have axes none, k)) (λ f. ⊎_elim (λ k. absurd (none f k.1)) (λ k. k.1)) h

pub order-some : (axes : List Item) (g : RefusedAt) → IsLeast (AnyOf LacksOrder axes) (Some g) → SomeHasOrder axes → IsLeast (BadOrder axes) (Some g)
order-some axes g h some =
    least-same (AnyOf LacksOrder axes) (BadOrder axes) (Some g) (λ f k. inl (some, k)) (λ f. ⊎_elim (λ k. k.1) (λ k. absurd (not-all axes g h.0 k.0))) h

pub order-none : (axes : List Item) (g : RefusedAt) → IsLeast (AnyOf LacksOrder axes) (Some g) → (SomeHasOrder axes → ⊥) → IsLeast (BadOrder axes) None
order-none axes g h other = λ f. ⊎_elim (λ k. other k.0) (λ k. not-all axes g h.0 k.0)
