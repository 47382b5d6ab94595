-- A node of arguments that are accepted and normal is accepted and normal itself: what it asks of
-- its arguments is said of them as runs of one class each, with all places left out.
use Rattle.std.proofs.Common.{◌≡◌, ℕ, suc, ◌+◌, ◌≤◌, Bool, true, IsTrue, Option, Some, List, [], ◌∷◌, ◌++◌, length, if◌then◌else◌, refl, sym, ap, subst, ◌∙◌, arith, nat_le, None, leb-true, ◌&&◌}
use Rattle.std.proofs.Math.Logic.{⊎_elim}
use Rattle.crs_text.specs.inner.Prelude.{Item, IsNode, Siblings, End, More, arguments, depth, depths, RefusedAt, IsWord, AreFormed, AreAllFormed, at_place, at_places, item_text}
use Rattle.crs_shape.specs.declared.class.Class.{Class}
use Rattle.crs_shape.specs.inner.Prelude.{is_keyword, Allowed, class_in, Shaped, AreShaped, slots_of}
use Rattle.crs_value.specs.inner.Prelude.{AtClass, Breaks, BreaksAmong, kept, kept-none, kept-where_none, is_same, those, Own as BreaksOwn}
use Rattle.crs_value.specs.declared.values.level.Level.{Level}
use Rattle.crs_normal.specs.Normal.{AtLevel, IsNormalIn, left_out, Ascend, rank, set_classes, Rise}
use Rattle.crs_value.specs.Sound.{Each}
use Rattle.crs_normal.specs.inner.SpelledItems.{node_of}
use Rattle.crs_normal.proofs.texts.SegmentLemmas.{placed-none, those-line}
use Rattle.crs_normal.proofs.read.ViewLemmas.{each-so}
pub use Rattle.crs_normal.proofs.read.ViewLemmas.{onto as line}
pub use Rattle.crs_normal.proofs.texts.SegmentLemmas.{each-line, given, opt-line}
use Rattle.crs_normal.proofs.made.PlaceLemmas.{ArePlaced, class-at, those-placed}
use Rattle.std.proofs.lemmas.Bool.{and_parts}

-- ---- runs: arguments of one class, in order

pub record Run : Type 0 where
  pub of : Class
  pub items : List Item

abbrev pub alone : Class → Item → Run
alone c j = record { of = c; items = j ∷ [] }

abbrev pub lines : List Run → Siblings
lines [] = End
lines (run ∷ runs) = line run.items (lines runs)

abbrev pub repeated : Class → List Item → List Class → List Class
repeated c [] rest = rest
repeated c (j ∷ js) rest = c ∷ repeated c js rest

abbrev pub classes : List Run → List Class
classes [] = []
classes (run ∷ runs) = repeated run.of run.items (classes runs)

-- the arguments of a class
abbrev pub items_in : Class → List Run → List Item
items_in e [] = []
items_in e (run ∷ runs) = if is_same e run.of then run.items ++ items_in e runs else items_in e runs

-- ---- arguments

-- an item is accepted as one of this class, is nested no deeper, and this holds of it
pub record IsFine (N : Item → Type 0) (most : ℕ) (c : Class) (item : Item) : Type 0 where
  pub formed : AreFormed item
  pub within : depth item ≤ most
  pub shaped : Shaped c item
  pub unbroken : (fault : RefusedAt) → ¬ (Breaks c item fault)
  pub normal : N item

pub fine-as : {M N : Item → Type 0} {m n : ℕ} {c : Class} {item : Item} → m ≤ n → (M item → N item) →
    IsFine M m c item → IsFine N n c item
fine-as h f x =
    record { formed = x.formed; within = omega arith; shaped = x.shaped; unbroken = x.unbroken; normal = f x.normal }

-- such a node
abbrev pub Stands : (Item → Type 0) → Class → ℕ → Item → Type 0
Stands N c most item = IsNode item × IsFine N most c item

-- such a node, which is normal in whichever node it is
abbrev pub IsAcceptedNormal : Level → Class → ℕ → Item → Type 0
IsAcceptedNormal level c = Stands (λ i. (parent : Class) → IsNormalIn level parent c i) c

-- an argument at any place
pub record MadeBy (N : Class → Class → Item → Type 0) (most : ℕ) (parent c : Class) (item : Item) : Type 0 where
  pub named : class_in parent item ≡ Some c
  pub fine : (p : ℕ) → IsFine (N parent c) most c (at_place p item)

abbrev pub Made : Level → ℕ → Class → Class → Item → Type 0
Made level = MadeBy (IsNormalIn level)

abbrev pub RunsMadeBy : (Class → Class → Item → Type 0) → ℕ → Class → List Run → Type 0
RunsMadeBy N most c [] = Unit {0}
RunsMadeBy N most c (run ∷ runs) = Each (MadeBy N most c run.of) run.items × RunsMadeBy N most c runs

those-lines : (N : Class → Class → Item → Type 0) (most : ℕ) (c e : Class) (runs : List Run) → RunsMadeBy N most c runs →
    those c e (lines runs) ≡ items_in e runs
those-lines N most c e [] h = refl
those-lines N most c e (run ∷ runs) h =
    those-line c e run.of (is_same e run.of) refl run.items (lines runs) (each-so _ _ (λ j m. m.named) run.items h.0)
    ∙ ap (λ t. if is_same e run.of then run.items ++ t else t) (those-lines N most c e runs h.1)

-- ---- what holds of the arguments of a node

pub at-class : (P : Class → Type 0) (o : Option Class) (d : Class) → o ≡ Some d → P d → AtClass o P
at-class P o d e h = subst (λ o. AtClass o P) (sym e) h

not-at-class : (P : Class → Type 0) (o : Option Class) (d : Class) → o ≡ Some d → ¬ (P d) → ¬ (AtClass o P)
not-at-class P o d e h a = h (subst (λ o. AtClass o P) e a)

-- each of these arguments of a node of class `c` is normal there, in this sense
abbrev pub AreNormalBy : (Class → Class → Item → Type 0) → Class → Siblings → Type 0
AreNormalBy N c End = Unit {0}
AreNormalBy N c (More item items) = AtClass (class_in c item) (λ d. N c d item) × AreNormalBy N c items

record AreStanding (N : Class → Class → Item → Type 0) (most : ℕ) (c : Class) (ds : List Class) (items : Siblings) :
    Type 0 where
  formed : AreAllFormed items
  within : depths items ≤ most
  shaped : AreShaped c ds items
  unbroken : (fault : RefusedAt) → ¬ (BreaksAmong c items fault)
  normal : AreNormalBy N c items

standing-line : (N : Class → Class → Item → Type 0) (most : ℕ) (c d : Class) (js : List Item) (ds : List Class)
    (rest : Siblings) (s : ℕ) → Each (MadeBy N most c d) js → ((s : ℕ) → AreStanding N most c ds (at_places s rest)) →
    AreStanding N most c (repeated d js ds) (at_places s (line js rest))
standing-line N most c d [] ds rest s h more = more s
standing-line N most c d (j ∷ js) ds rest s h more =
    let i : Item = at_place (s + 1) j in
    let f = h.0.fine (s + 1) in
    let n : class_in c i ≡ Some d = class-at c (s + 1) j ∙ h.0.named in
    let others = standing-line N most c d js ds rest (s + 1 + length (item_text j)) h.1 more in
    record {
      formed = (f.formed, others.formed);
      within = omega arith;
      shaped = (n, (f.shaped, others.shaped));
      unbroken = λ fault.
          ⊎_elim (not-at-class (λ e. Breaks e i fault) (class_in c i) d n (f.unbroken fault)) (others.unbroken fault);
      normal = (at-class (λ e. N c e i) (class_in c i) d n f.normal, others.normal);
    }

standing-lines : (N : Class → Class → Item → Type 0) (most : ℕ) (c : Class) (runs : List Run) (s : ℕ) →
    RunsMadeBy N most c runs → AreStanding N most c (classes runs) (at_places s (lines runs))
standing-lines N most c [] s h =
    record { formed = tt; within = omega arith; shaped = tt; unbroken = λ fault b. b; normal = tt }
standing-lines N most c (run ∷ runs) s h =
    standing-line N most c run.of run.items (classes runs) (lines runs) s h.0 (λ q. standing-lines N most c runs q h.1)

-- ---- nodes

-- an item whose arguments are these
pub record Sees (c : Class) (runs : List Run) (item : Item) : Type 0 where
  pub start : ℕ
  pub are : arguments item ≡ at_places start (lines runs)
  pub view : (e : Class) → ArePlaced (those c e (arguments item)) (items_in e runs)

-- whether the ranks of the runs never fall, from this one on
abbrev pub rises : ℕ → List Run → Bool
rises least [] = true
rises least (run ∷ runs) = nat_le least (rank run.of) && rises (rank run.of) runs

-- the level keeps all of these runs
abbrev KeepsRuns : Level → List Run → Type 0
KeepsRuns level runs = Each (λ d. kept level (items_in d runs) ≡ items_in d runs) left_out

-- the members of each set ascend, the level keeps all of these runs, and their ranks never fall
abbrev pub IsOrderly : Level → List Run → Type 0
IsOrderly level runs = Each (λ d. Ascend (items_in d runs)) set_classes × (KeepsRuns level runs × (rises 0 runs ≡ true))

pub none-orderly : (level : Level) → IsOrderly level []
none-orderly level =
    ((tt, (tt, (tt, (tt, (tt, tt))))), ((kept-none level, (kept-none level, (kept-none level, tt))), refl))

-- arguments of this class leave those behind them in order: it is of no set, and ranks below all
abbrev pub IsFree : Class → Type 0
IsFree c = (level : Level) (items : List Item) (runs : List Run) → IsOrderly level runs →
    IsOrderly level (record { of = c; items = items } ∷ runs)

-- where none is written, none is found
pub none-shown : (items js : List Item) → js ≡ [] → ArePlaced items js → items ≡ []
none-shown items js none h = placed-none items (subst (ArePlaced items) none h)

pub at-level : (level : Level) (c : Class) (runs : List Run) (item : Item) → Sees c runs item → KeepsRuns level runs →
    AtLevel level c item
at-level level c runs item s =
    each-so (λ d. kept level (items_in d runs) ≡ items_in d runs)
    (λ d. kept level (those c d (arguments item)) ≡ those c d (arguments item))
    (λ d. kept-where_none level (items_in d runs) (those c d (arguments item))
    (λ none. none-shown (those c d (arguments item)) (items_in d runs) none (s.view d))) left_out

pub sees-by : (N : Class → Class → Item → Type 0) (most : ℕ) (c : Class) (keyword : List ℕ) (first : Item) (others : Siblings) (runs : List Run)
    (p : ℕ) →
    More first others ≡ lines runs → RunsMadeBy N most c runs →
    Sees c runs (at_place p (node_of keyword first others))
sees-by N most c keyword first others runs p same made = record {
  start = p + length keyword;
  are = ap (at_places (p + length keyword)) same;
  view = λ e. subst (ArePlaced (those c e (at_places (p + length keyword) (More first others))))
      (ap (those c e) same ∙ those-lines N most c e runs made) (those-placed c e (p + length keyword)
      (More first others));
}

module _ (N : Class → Class → Item → Type 0) (most : ℕ) (c : Class) (keyword : List ℕ) (first : Item) (others : Siblings) (runs : List Run) (same : More first others ≡ lines runs) (letters : IsWord keyword) (known : IsTrue (is_keyword c keyword)) (made : RunsMadeBy N most c runs) (allowed : Allowed (slots_of c) (classes runs)) (unbroken : (item : Item) (fault : RefusedAt) → Sees c runs item → ¬ (BreaksOwn c item fault)) where
  stands-at : (ds : List Class) (p : ℕ) → ds ≡ classes runs →
      AreStanding N most c ds (at_places (p + length keyword) (More first others)) →
      Stands (λ i. AreNormalBy N c (arguments i)) c (suc most) (at_place p (node_of keyword first others))
  stands-at [] p q a = absurd a.shaped
  stands-at (d ∷ ds) p q a =
      let look = sees-by N most c keyword first others runs p same made in (
        tt,
        record {
          formed = (letters, a.formed.0, a.formed.1);
          within = omega arith;
          shaped = (
            known,
            (d, (ds, (a.shaped.0, (a.shaped.1.0, (a.shaped.1.1, subst (Allowed (slots_of c)) (sym q) allowed))))),
          );
          unbroken = λ fault. ⊎_elim (unbroken (at_place p (node_of keyword first others)) fault look) (a.unbroken fault);
          normal = a.normal;
        },
      )

  pub node-stands : (p : ℕ) →
      Stands (λ i. AreNormalBy N c (arguments i)) c (suc most) (at_place p (node_of keyword first others))
  node-stands p =
      stands-at (classes runs) p refl
      (subst (λ js. AreStanding N most c (classes runs) (at_places (p + length keyword) js)) (sym same)
      (standing-lines N most c runs (p + length keyword) made))

-- a made node as an argument of another
pub as-argument : {level : Level} {n most : ℕ} {parent c : Class} {j : Item} → n ≤ most → class_in parent j ≡ Some c →
    ((p : ℕ) → IsAcceptedNormal level c n (at_place p j)) → Made level most parent c j
as-argument {parent = parent} h named made =
    record { named = named; fine = λ p. fine-as h (λ n. n parent) (made p).1 }

-- what is in a node of these classes
pub views : {c : Class} {runs : List Run} {item : Item} (es : List Class) → Sees c runs item →
    Each (λ e. ArePlaced (those c e (arguments item)) (items_in e runs)) es
views [] s = tt
views (e ∷ es) s = (s.view e, views es s)

-- ---- ranks

rise-lower : (c : Class) (m n : ℕ) (items : Siblings) → m ≤ n → Rise c n items → Rise c m items
rise-lower c m n End h r = tt
rise-lower c m n (More item items) h r = by (class_in c item) r
  where
    by : (o : Option Class) → AtClass o (λ d. (n ≤ rank d) × Rise c (rank d) items) →
        AtClass o (λ d. (m ≤ rank d) × Rise c (rank d) items)
    by None q = q
    by (Some d) q = (omega arith, q.1)

rise-line : (N : Class → Class → Item → Type 0) (most : ℕ) (c d : Class) (js : List Item) (rest : Siblings)
    (least s : ℕ) →
    Each (MadeBy N most c d) js → least ≤ rank d →
    ((s : ℕ) → Rise c (rank d) (at_places s rest)) → Rise c least (at_places s (line js rest))
rise-line N most c d [] rest least s h low more = rise-lower c least (rank d) (at_places s rest) low (more s)
rise-line N most c d (j ∷ js) rest least s h low more =
    at-class (λ e. (least ≤ rank e) × Rise c (rank e) (at_places (s + 1 + length (item_text j)) (line js rest)))
    (class_in c (at_place (s + 1) j)) d
    (class-at c (s + 1) j ∙ h.0.named) (
      low,
      rise-line N most c d js rest (rank d) (s + 1 + length (item_text j))
          h.1 (omega arith) more,
    )

rise-lines : (N : Class → Class → Item → Type 0) (most : ℕ) (c : Class) (runs : List Run) (least s : ℕ) →
    RunsMadeBy N most c runs → rises least runs ≡ true → Rise c least (at_places s (lines runs))
rise-lines N most c [] least s h e = tt
rise-lines N most c (run ∷ runs) least s h e =
    let r = and_parts (nat_le least (rank run.of)) (rises (rank run.of) runs) e in
    rise-line N most c run.of run.items (lines runs) least s h.0 (leb-true least (rank run.of) r.0)
    (λ q. rise-lines N most c runs (rank run.of) q h.1 r.1)

pub has-rise : (N : Class → Class → Item → Type 0) (most : ℕ) (c : Class) (runs : List Run) (item : Item) → Sees c
    runs item →
    RunsMadeBy N most c runs → rises 0 runs ≡ true → Rise c 0 (arguments item)
has-rise N most c runs item s m r =
    subst (Rise c 0) (sym s.are) (rise-lines N most c runs 0 s.start m r)
