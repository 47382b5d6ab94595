-- Slots that are apart: the walk is exact, and an allowed list fits them in one way.
use Rattle.std.proofs.Common.{◌≡◌, ◌≤◌, Bool, true, false, not, ◌&&◌, Some, None, List, [], ◌∷◌, ◌++◌, length, if◌then◌else◌, refl, sym, ◌∙◌, ap, subst, subst₂, arith, rules, ◌+◌, inl, inr, ◌||◌}
use Rattle.std.specs.List.{list_any, list_all}
use Rattle.std.proofs.Math.Bool.{and-false, or-false}
use Rattle.std.proofs.lemmas.List.{append_cancel_left}
use Rattle.std.proofs.lemmas.Bool.{both_ways, and_parts, and_from, or_left, or_right, not-true, not_from_false, false_from_ne_true, cases_Bool}
use denote.Enum.Bare.{sameb, same_true, true_same}
use Rattle.crs_shape.specs.contracts.class.Class.{the_type}
use Rattle.crs_shape.specs.declared.class.Class.{Class}
use Rattle.crs_shape.specs.Shape.{SlotParts, takes, AllTaken, Fills, AllFilled, joined, Allowed, reaches, has_class, is_apart}
use Rattle.crs_shape.specs.inner.Walk.{again, after, may_end}
use Rattle.crs_shape.proofs.naming.ListLemmas.{passes-none, passes-all}
use Rattle.crs_shape.specs.inner.Counts.{one_if, how_many, least, most, is_bounded}

-- what is apart

apart-tail : (s : SlotParts) (ss : List SlotParts) → is_apart (s ∷ ss) ≡ true → is_apart ss ≡ true
apart-tail s ss e = (and_parts _ _ e).1

apart-class : (s : SlotParts) (ss : List SlotParts) → is_apart (s ∷ ss) ≡ true → has_class s.classes ≡ true
apart-class s ss e = (and_parts _ _ (and_parts _ _ e).0).0

loose-apart : (s : SlotParts) (ss : List SlotParts) → is_apart (s ∷ ss) ≡ true → (s.required && not s.many) ≡ false →
    (c : Class) → takes s c ≡ true → reaches ss c ≡ false
loose-apart s ss e loose c taken =
    passes-none (reaches ss) (λ d. sameb the_type d c) c (λ d. same_true the_type (search rules) d c) s.classes taken (not-true _ (and_parts _ _ (and_parts _ _ (rw loose at e)).0).1)

-- a slot that is required has a class, so a slot with none isn't required
free-none : (s : SlotParts) → Fills s [] → s.required ≡ false
free-none s f = false_from_ne_true s.required (λ e. let h : 1 ≤ 0 = f.enough e in absurd (omega (arith, h)))

-- the first of all the classes in slots is reached by them
reaches-first : (ss : List SlotParts) (runs : List (List Class)) (c : Class) (cs : List Class) → AllFilled ss runs → joined runs ≡ c ∷ cs →
    reaches ss c ≡ true
reaches-first [] [] c cs fit e = cc
reaches-first (s ∷ ss) ([] ∷ runs) c cs fit e =
    or_right _ _ (and_from _ _ (ap not (free-none s fit.0)) (reaches-first ss runs c cs fit.1 e))
reaches-first (s ∷ ss) ((d ∷ run) ∷ runs) c cs fit e =
    let same : c ≡ d = cc in
    or_left _ _ (ap (takes s) same ∙ fit.0.taken.0)
reaches-first ss runs c cs fit e = absurd fit

-- at most one way

same_run : (s : SlotParts) (ss : List SlotParts) → ((c : Class) → takes s c ≡ true → reaches ss c ≡ false) →
    (a b : List Class) (xs ys : List (List Class)) → AllTaken s a → AllTaken s b → AllFilled ss xs → AllFilled ss ys →
    a ++ joined xs ≡ b ++ joined ys → a ≡ b
same_run s ss loose [] [] xs ys p q fx fy e = refl
same_run s ss loose [] (d ∷ b) xs ys p q fx fy e =
    absurd (both_ways (reaches ss d) (loose d q.0) (reaches-first ss xs d (b ++ joined ys) fx e))
same_run s ss loose (c ∷ a) [] xs ys p q fx fy e =
    absurd (both_ways (reaches ss c) (loose c p.0) (reaches-first ss ys c (a ++ joined xs) fy (sym e)))
same_run s ss loose (c ∷ a) (d ∷ b) xs ys p q fx fy e =
    let later : a ≡ b = same_run s ss loose a b xs ys p.1 q.1 fx fy cc in
    cc

single_run : (a b xs ys : List Class) → 1 ≤ length a → length a ≤ 1 → 1 ≤ length b → length b ≤ 1 → a ++ xs ≡ b ++ ys → a ≡ b
single_run (c ∷ []) (d ∷ []) xs ys p q r s e = cc
single_run a b xs ys p q r s e = absurd (omega arith)

first_run : (s : SlotParts) (ss : List SlotParts) → is_apart (s ∷ ss) ≡ true → (a b : List Class) (xs ys : List (List Class)) →
    Fills s a → Fills s b → AllFilled ss xs → AllFilled ss ys → a ++ joined xs ≡ b ++ joined ys → a ≡ b
first_run s ss apart a b xs ys fa fb fx fy e =
    elim (s.required && not s.many) as (λ t. (s.required && not s.many) ≡ t → a ≡ b) [
      | true ↦ λ single.
          let (needed, many) = and_parts _ _ single in
          let few : s.many ≡ false = not-true _ many in
          single_run a b (joined xs) (joined ys) (fa.enough needed) (fa.not_more few) (fb.enough needed) (fb.not_more few) e
      | false ↦ λ loose. same_run s ss (loose-apart s ss apart loose) a b xs ys fa.taken fb.taken fx fy e
    ] refl

pub one_way : (ss : List SlotParts) → is_apart ss ≡ true → (a b : List (List Class)) → AllFilled ss a → AllFilled ss b → joined a ≡ joined b → a ≡ b
one_way [] apart [] [] fa fb e = refl
one_way (s ∷ ss) apart (x ∷ xs) (y ∷ ys) fa fb e =
    let first : x ≡ y = first_run s ss apart x y xs ys fa.0 fb.0 fa.1 fb.1 e in
    let later : joined xs ≡ joined ys = append_cancel_left x (joined xs) (joined ys) (e ∙ ap (λ r. r ++ joined ys) (sym first)) in
    let rest : xs ≡ ys = one_way ss (apart-tail s ss apart) xs ys fa.1 fb.1 later in
    cc
one_way [] apart [] (y ∷ ys) fa fb e = absurd fb
one_way (s ∷ ss) apart (x ∷ xs) [] fa fb e = absurd fb
one_way ss apart a b fa fb e = absurd fa

-- the walk

-- an argument that may go is taken by the first slot, which stays where it takes many, or goes past that
after-cases : (Goal : List SlotParts → Type 0) (s : SlotParts) (ss : List SlotParts) (c : Class) (next : List SlotParts) →
    (takes s c ≡ true → s.many ≡ true → Goal (again s ∷ ss)) → (takes s c ≡ true → s.many ≡ false → Goal ss) →
    (takes s c ≡ false → s.required ≡ false → after ss c ≡ Some next → Goal next) → after (s ∷ ss) c ≡ Some next → Goal next
after-cases Goal s ss c next many few past e = by (takes s c) s.many s.required refl refl refl e
  where
    by : (t m r : Bool) → takes s c ≡ t → s.many ≡ m → s.required ≡ r →
        (if t then Some (if m then again s ∷ ss else ss) else (if r then None else after ss c)) ≡ Some next → Goal next
    by true true r t m f h = let same : again s ∷ ss ≡ next = cc in subst Goal same (many t m)
    by true false r t m f h = let same : ss ≡ next = cc in subst Goal same (few t m)
    by false m true t n f h = cc
    by false m false t n f h = past t f h

pub after-apart : (ss : List SlotParts) (c : Class) (next : List SlotParts) → is_apart ss ≡ true → after ss c ≡ Some next → is_apart next ≡ true
after-apart [] c next apart e = cc
after-apart (s ∷ ss) c next apart e =
    after-cases (λ n. is_apart n ≡ true) s ss c next (λ taken many. rw (many, and-false s.required) at apart)
    (λ taken few. apart-tail s ss apart) (λ missed free. after-apart ss c next (apart-tail s ss apart)) e

-- an argument of this class is allowed there, and the rest is allowed by the slots that are left
abbrev pub Goes : List SlotParts → Class → List Class → Type 0
Goes ss c cs = (next : List SlotParts) × ((after ss c ≡ Some next) × Allowed next cs)

-- a slot of the same classes takes the same
taken-as : (s t : SlotParts) → s.classes ≡ t.classes → (cs : List Class) → AllTaken s cs → AllTaken t cs
taken-as s t same [] h = tt
taken-as s t same (c ∷ cs) h = (ap (list_any (λ d. sameb the_type d c)) (sym same) ∙ h.0, taken-as s t same cs h.1)

fills-again : (s : SlotParts) (d : Class) (run : List Class) → s.many ≡ true → Fills s (d ∷ run) → Fills (again s) run
fills-again s d run many f = record {
  taken = taken-as s (again s) refl run f.taken.1;
  enough = λ e. cc;
  not_more = λ e. cc;
}

few-none : (s : SlotParts) (d : Class) (run : List Class) → s.many ≡ false → Fills s (d ∷ run) → run ≡ []
few-none s d [] few f = refl
few-none s d (x ∷ run) few f = let h : length (d ∷ (x ∷ run)) ≤ 1 = f.not_more few in absurd (omega arith)

goes-here : (s : SlotParts) (ss : List SlotParts) (d : Class) (run : List Class) (runs : List (List Class)) → takes s d ≡ true →
    Fills s (d ∷ run) → AllFilled ss runs → Goes (s ∷ ss) d (run ++ joined runs)
goes-here s ss d run runs taken f fit =
    elim s.many as (λ m. s.many ≡ m → Goes (s ∷ ss) d (run ++ joined runs)) [
      | true ↦ λ many. (again s ∷ ss, (rw (taken, many) refl, (run ∷ runs, ((fills-again s d run many f, fit), refl))))
      | false ↦ λ few. (ss, (rw (taken, few) refl, (runs, (fit, ap (λ r. r ++ joined runs) (few-none s d run few f)))))
    ] refl

pub goes-along : (ss : List SlotParts) → is_apart ss ≡ true → (runs : List (List Class)) → AllFilled ss runs → (c : Class) (cs : List Class) →
    joined runs ≡ c ∷ cs → Goes ss c cs
goes-along [] apart [] fit c cs e = cc
goes-along (s ∷ ss) apart ([] ∷ runs) fit c cs e =
    let free : s.required ≡ false = free-none s fit.0 in
    let loose : (s.required && not s.many) ≡ false = ap (λ r. r && not s.many) free in
    let missed : takes s c ≡ false = false_from_ne_true (takes s c) (λ t. both_ways (reaches ss c) (loose-apart s ss apart loose c t) (reaches-first ss runs c cs fit.1 e)) in
    let below : Goes ss c cs = goes-along ss (apart-tail s ss apart) runs fit.1 c cs e in
    (below.0, (simp (missed, free) below.1.0, below.1.1))
goes-along (s ∷ ss) apart ((d ∷ run) ∷ runs) fit c cs e =
    let same : d ≡ c = cc in
    let rest : run ++ joined runs ≡ cs = cc in
    subst₂ (Goes (s ∷ ss)) same rest (goes-here s ss d run runs fit.0.taken.0 fit.0 fit.1)
goes-along ss apart runs fit c cs e = absurd fit

-- a class may come first where it is allowed
fills-more : (s : SlotParts) (d : Class) (run : List Class) → s.many ≡ true → takes s d ≡ true → AllTaken (again s) run → Fills s (d ∷ run)
fills-more s d run many taken h = record {
  taken = (taken, taken-as (again s) s refl run h);
  enough = λ e. omega arith;
  not_more = λ e. cc;
}

fills-one : (s : SlotParts) (d : Class) → takes s d ≡ true → Fills s (d ∷ [])
fills-one s d taken = record { taken = (taken, tt); enough = λ e. omega arith; not_more = λ e. omega arith }

fills-none : (s : SlotParts) → s.required ≡ false → Fills s []
fills-none s free = record { taken = tt; enough = λ e. cc; not_more = λ e. omega arith }

-- a run that fills a slot may go before what the later slots allow
before : (s : SlotParts) (ss : List SlotParts) (run cs : List Class) → Fills s run → Allowed ss cs → Allowed (s ∷ ss) (run ++ cs)
before s ss run cs f (runs, (fit, e)) = (run ∷ runs, ((f, fit), ap (λ r. run ++ r) e))

front-many : (s : SlotParts) (ss : List SlotParts) (d : Class) (cs : List Class) → s.many ≡ true → takes s d ≡ true →
    Allowed (again s ∷ ss) cs → Allowed (s ∷ ss) (d ∷ cs)
front-many s ss d cs many taken ([], (fit, e)) = absurd fit
front-many s ss d cs many taken (run ∷ runs, (fit, e)) =
    ((d ∷ run) ∷ runs, ((fills-more s d run many taken fit.0.taken, fit.1), ap (λ r. d ∷ r) e))

pub goes-back : (ss : List SlotParts) (c : Class) (next : List SlotParts) (cs : List Class) → after ss c ≡ Some next → Allowed next cs →
    Allowed ss (c ∷ cs)
goes-back [] c next cs e allowed = cc
goes-back (s ∷ ss) c next cs e allowed =
    after-cases (λ n. Allowed n cs → Allowed (s ∷ ss) (c ∷ cs)) s ss c next (λ taken many. front-many s ss c cs many taken)
    (λ taken few. before s ss (c ∷ []) cs (fills-one s c taken))
    (λ missed free h rest. before s ss [] (c ∷ cs) (fills-none s free) (goes-back ss c next cs h rest)) e allowed

-- slots that are apart allow some list
takes-own : (s : SlotParts) → has_class s.classes ≡ true → (d : Class) × (takes s d ≡ true)
takes-own s e = own s.classes e
  where
    own : (cs : List Class) → has_class cs ≡ true → (d : Class) × (list_any (λ x. sameb the_type x d) cs ≡ true)
    own [] h = cc
    own (c ∷ cs) h = (c, or_left _ _ (true_same the_type c c refl))

pub allows-some : (ss : List SlotParts) → is_apart ss ≡ true → (cs : List Class) × Allowed ss cs
allows-some [] apart = ([], ([], (tt, refl)))
allows-some (s ∷ ss) apart =
    let (d, taken) = takes-own s (apart-class s ss apart) in
    let (cs, below) = allows-some ss (apart-tail s ss apart) in
    (d ∷ cs, before s ss (d ∷ []) cs (fills-one s d taken) below)

-- where the walk may end
pub end-allowed : (ss : List SlotParts) → may_end ss ≡ true → Allowed ss []
end-allowed [] e = ([], (tt, refl))
end-allowed (s ∷ ss) e =
    let (free, below) = and_parts _ _ e in
    before s ss [] [] (fills-none s (not-true _ free)) (end-allowed ss below)

pub allowed-end : (ss : List SlotParts) (runs : List (List Class)) → AllFilled ss runs → [] ≡ joined runs → may_end ss ≡ true
allowed-end [] [] fit e = refl
allowed-end (s ∷ ss) ([] ∷ runs) fit e = and_from _ _ (not_from_false _ (free-none s fit.0)) (allowed-end ss runs fit.1 e)
allowed-end (s ∷ ss) ((d ∷ run) ∷ runs) fit e = cc
allowed-end ss runs fit e = absurd fit

-- ---- how many arguments of some classes an allowed list has: at least the slots that are required for them, and at most the slots that take them

how_many-append : (p : Class → Bool) (xs ys : List Class) → how_many p (xs ++ ys) ≡ how_many p xs + how_many p ys
how_many-append p [] ys = omega arith
how_many-append p (x ∷ xs) ys = omega (arith, how_many-append p xs ys)

few-if : (b : Bool) → one_if b ≤ 1
few-if true = omega arith
few-if false = omega arith

-- at least

run-least : (p : Class → Bool) (s : SlotParts) (run : List Class) → Fills s run → s.required ≡ true → list_all p s.classes ≡ true → 1 ≤ how_many p run
run-least p s [] f needed all = let h : 1 ≤ 0 = f.enough needed in absurd (omega (arith, h))
run-least p s (c ∷ run) f needed all =
    let one : one_if (p c) ≡ 1 = ap one_if (passes-all p (λ d. sameb the_type d c) c (λ d. same_true the_type (search rules) d c) s.classes f.taken.0 all) in
    omega (arith, one)

slot-least : (p : Class → Bool) (s : SlotParts) (run : List Class) → Fills s run → one_if (s.required && list_all p s.classes) ≤ how_many p run
slot-least p s run f =
    elim (s.required && list_all p s.classes) as (λ b. (s.required && list_all p s.classes) ≡ b → one_if b ≤ how_many p run) [
      | true ↦ λ e. run-least p s run f (and_parts _ _ e).0 (and_parts _ _ e).1
      | false ↦ λ e. omega arith
    ] refl

fit-least : (p : Class → Bool) (ss : List SlotParts) (runs : List (List Class)) → AllFilled ss runs → least p ss ≤ how_many p (joined runs)
fit-least p [] [] fit = omega arith
fit-least p (s ∷ ss) (run ∷ runs) fit =
    omega (arith, how_many-append p run (joined runs), slot-least p s run fit.0, fit-least p ss runs fit.1)
fit-least p ss runs fit = absurd fit

pub allowed-least : (p : Class → Bool) (ss : List SlotParts) (cs : List Class) → Allowed ss cs → least p ss ≤ how_many p cs
allowed-least p ss cs (runs, (fit, e)) = omega (arith, ap (how_many p) e, fit-least p ss runs fit)

-- at most

run-none : (p : Class → Bool) (s : SlotParts) (run : List Class) → AllTaken s run → list_any p s.classes ≡ false → how_many p run ≡ 0
run-none p s [] taken none = refl
run-none p s (c ∷ run) taken none =
    omega (arith, ap one_if (passes-none p (λ d. sameb the_type d c) c (λ d. same_true the_type (search rules) d c) s.classes taken.0 none), run-none p s run taken.1 none)

run-few : (p : Class → Bool) (run : List Class) → length run ≤ 1 → how_many p run ≤ 1
run-few p [] few = omega arith
run-few p (c ∷ []) few = omega (arith, few-if (p c))
run-few p (c ∷ d ∷ run) few = absurd (omega arith)

slot-most : (p : Class → Bool) (s : SlotParts) (run : List Class) → Fills s run → (not s.many || not (list_any p s.classes)) ≡ true →
    how_many p run ≤ one_if (list_any p s.classes)
slot-most p s run f bounded =
    elim (cases_Bool (list_any p s.classes)) [
      | inl some ↦ rw some (run-few p run (f.not_more (not-true _ (rw (some, or-false (not s.many)) at bounded))))
      | inr none ↦ omega (arith, run-none p s run f.taken none)
    ]

fit-most : (p : Class → Bool) (ss : List SlotParts) (runs : List (List Class)) → AllFilled ss runs → is_bounded p ss ≡ true → how_many p (joined runs) ≤ most p ss
fit-most p [] [] fit bounded = omega arith
fit-most p (s ∷ ss) (run ∷ runs) fit bounded =
    omega (arith, how_many-append p run (joined runs), slot-most p s run fit.0 (and_parts _ _ bounded).0, fit-most p ss runs fit.1 (and_parts _ _ bounded).1)
fit-most p ss runs fit bounded = absurd fit

pub allowed-most : (p : Class → Bool) (ss : List SlotParts) (cs : List Class) → is_bounded p ss ≡ true → Allowed ss cs → how_many p cs ≤ most p ss
allowed-most p ss cs bounded (runs, (fit, e)) = omega (arith, ap (how_many p) e, fit-most p ss runs fit bounded)
