-- The unit of length that all axes have, and the units that parameters leave out: what is filled in stays.
use Rattle.std.proofs.Common.{◌≡◌, ◌≢◌, ◌&&◌, ℕ, zero, suc, ◌+◌, Bool, true, false, Decides, Option, Some, None, List, [], ◌∷◌, IfSome, refl, subst, sym, ap, ◌∙◌, map, rules, if◌then◌else◌, arith, length}
use Rattle.std.specs.Cmp.{first_so, second_so}
use Rattle.std.specs.List.{list_all}
use Rattle.std.specs.Option.{option_map}
use Rattle.std.specs.Str.{bytes_eq}
use Rattle.std.proofs.lemmas.List.{length-map}
use Rattle.std.proofs.lemmas.Slice.Eq.{bytes_eq-Decides}
use denote.Enum.Bare.{sameb, same_true, true_same}
use Rattle.crs_shape.specs.declared.class.Class.TheVariants as class
use Rattle.crs_shape.specs.declared.unit_kind.UnitKind.{UnitKind}
use Rattle.crs_shape.specs.declared.unit_kind.UnitKind.TheVariants as kinds
use Rattle.crs_shape.specs.contracts.unit_kind.UnitKind.{the_type}
use Rattle.crs_shape.specs.inner.Prelude.{asked_kind, kind_as}
use Rattle.crs_value.specs.Sound.{Each}
use Rattle.crs_value.specs.inner.Prelude.{own_or, AxisParts, MeridianParts, ParameterParts, SystemParts, UnitParts}
use Rattle.crs_value.specs.declared.values.level.Level.{Level}
use Rattle.crs_normal.specs.inner.Prelude.{axes_from, axis_at, greenwich, is_at, is_zero, norm_given, norm_meridian, norm_axis, norm_parameter, norm_system, norm_unit, norm_units, set_parameters, with_axis}
use Rattle.crs_rules.specs.inner.LowerLaws.{SetLaws}
use Rattle.crs_rules.specs.Rewritten.{ascending, among, axis, bare, completed, completed_meridian, counted, meridian, first_unit_of, is_same_unit, one_of, parameter, shared, units_of, with_unit_of, system, unit_of_kind, units}
use Rattle.crs_rules.specs.Rules.{Meaning, factors_equal}
use Rattle.crs_rules.specs.inner.EqualityLaws.{factors-decide, joined}
use Rattle.crs_rules.proofs.AgainLemmas.{any-axis, unit-again, each-fixed, kind-twice, mapped, each-all}
use Rattle.crs_rules.proofs.PartLemmas.{choice, one-has}
use Rattle.crs_rules.proofs.ArrangedLemmas.{idents-kept}
use Rattle.crs_rules.proofs.CrsLemmas.{among-cases, each-ascending}
use Rattle.crs_rules.proofs.SteadyLemmas.{IsSteady}

-- ---- tests

kinds-decide : (c d : UnitKind) → Decides (sameb the_type c d) (c ≡ d)
kinds-decide c d = (same_true the_type (search rules) c d, true_same the_type c d)

units-decide : (u v : UnitParts) → Decides (is_same_unit u v) (bare u ≡ bare v)
units-decide u v =
    joined (sameb the_type u.kind v.kind) (bytes_eq u.name v.name && factors_equal u.factor v.factor)
    (kinds-decide u.kind v.kind)
    (joined {C = (u.name ≡ v.name) × (u.factor ≡ v.factor)} (bytes_eq u.name v.name) (factors_equal u.factor v.factor)
    (bytes_eq-Decides u.name v.name) (factors-decide u.factor v.factor) (λ c. c.0) (λ c. c.1) (λ n f. (n, f)))
    (λ e. ap (λ (w : UnitParts). w.kind) e) (λ e. (ap (λ (w : UnitParts). w.name) e, ap (λ (w : UnitParts). w.factor) e))
    (λ k r. λ i. record { kind = k i; name = r.0 i; factor = r.1 i; identifiers = [] })

-- ---- the one unit among some

abbrev IsBare : UnitParts → Type 0
IsBare u = bare u ≡ u

all-so : (u : UnitParts) → IsBare u → (us : List UnitParts) → Each IsBare us → list_all (is_same_unit u) us ≡ true →
    Each (λ v. v ≡ u) us
all-so u b [] k e = tt
all-so u b (v ∷ us) k e =
    let so = first_so (is_same_unit u v) (list_all (is_same_unit u) us) e in (
      sym k.0 ∙ (sym ((units-decide u v).0 so) ∙ b),
      all-so u b us k.1 (second_so (is_same_unit u v) (list_all (is_same_unit u) us) e),
    )

so-all : (u : UnitParts) (us : List UnitParts) → Each (λ v. v ≡ u) us → list_all (is_same_unit u) us ≡ true
so-all u [] h = refl
so-all u (v ∷ us) h = rw ((units-decide u v).1 (ap bare (sym h.0)), so-all u us h.1)

-- there are some, and each is this one
record IsOne (u : UnitParts) (us : List UnitParts) : Type 0 where
  pub some : us ≢ []
  pub each : Each (λ v. v ≡ u) us

abbrev one : List UnitParts → Option UnitParts
one us = one_of (first_unit_of us) us

picked : {A : Type 0} (b : Bool) (v u : A) → (if b then Some v else None) ≡ Some u → (b ≡ true) × (v ≡ u)
picked true v u e = (refl, cc)
picked false v u e = absurd cc

one-is : (u : UnitParts) (us : List UnitParts) → Each IsBare us → one us ≡ Some u → IsOne u us
one-is u [] k e = absurd cc
one-is u (v ∷ us) k e =
    let p = picked (list_all (is_same_unit v) (v ∷ us)) v u e in
    record { some = λ n. absurd cc; each = subst (λ w. Each (λ x. x ≡ w) (v ∷ us)) p.1 (all-so v k.0 (v ∷ us) k p.0) }

is-one : (u : UnitParts) (us : List UnitParts) → IsOne u us → one us ≡ Some u
is-one u [] s = absurd (s.some refl)
is-one u (v ∷ us) s =
    let all = so-all v (v ∷ us) (subst (λ w. Each (λ x. x ≡ w) (v ∷ us)) (sym s.each.0) s.each) in
    rw all (ap (λ w. Some w) s.each.0)

options-agree : {A : Type 0} (a b : Option A) → ((u : A) → a ≡ Some u → b ≡ Some u) → ((u : A) → b ≡ Some u → a ≡ Some u) → a ≡ b
options-agree None None f g = refl
options-agree None (Some v) f g = g v refl
options-agree (Some u) b f g = sym (f u refl)

-- what each of the first list has, each of the second has
abbrev Carries : List UnitParts → List UnitParts → Type 1
Carries us vs = (P : UnitParts → Type 0) → Each P us → Each P vs

carried-some : (us vs : List UnitParts) → Carries vs us → us ≢ [] → vs ≢ []
carried-some [] vs c n e = n refl
carried-some (u ∷ us) vs c n e = (c (λ v. ⊥) (subst (Each (λ v. ⊥)) (sym e) tt)).0

same-one : (us vs : List UnitParts) → Each IsBare us → Each IsBare vs → Carries us vs → Carries vs us → one us ≡ one vs
same-one us vs k l f g =
    options-agree (one us) (one vs)
    (λ u e. let s = one-is u us k e in is-one u vs (record { some = carried-some us vs g s.some; each = f (λ v. v ≡ u) s.each }))
    (λ u e. let s = one-is u vs l e in is-one u us (record { some = carried-some vs us f s.some; each = g (λ v. v ≡ u) s.each }))

-- ---- the units of a kind that axes have

abbrev pub key : AxisParts → Option UnitParts
key a = option_map bare a.unit

module _ (kind : UnitKind) where
  abbrev Head : (UnitParts → Type 0) → AxisParts → Type 0
  Head P a = Each P (with_unit_of kind a.unit [])

  if-forth : (P : UnitParts → Type 0) (b : Bool) (u : UnitParts) (us : List UnitParts) → Each P (if b then u ∷ us else us) →
      Each P (if b then u ∷ [] else []) × Each P us
  if-forth P true u us h = ((h.0, tt), h.1)
  if-forth P false u us h = (tt, h)

  if-back : (P : UnitParts → Type 0) (b : Bool) (u : UnitParts) (us : List UnitParts) → Each P (if b then u ∷ [] else []) → Each P us →
      Each P (if b then u ∷ us else us)
  if-back P true u us h k = (h.0, k)
  if-back P false u us h k = k

  with-forth : (P : UnitParts → Type 0) (o : Option UnitParts) (us : List UnitParts) → Each P (with_unit_of kind o us) →
      Each P (with_unit_of kind o []) × Each P us
  with-forth P None us h = (tt, h)
  with-forth P (Some u) us h = if-forth P (sameb the_type u.kind kind) (bare u) us h

  with-back : (P : UnitParts → Type 0) (o : Option UnitParts) (us : List UnitParts) → Each P (with_unit_of kind o []) → Each P us →
      Each P (with_unit_of kind o us)
  with-back P None us h k = k
  with-back P (Some u) us h k = if-back P (sameb the_type u.kind kind) (bare u) us h k

  heads : (P : UnitParts → Type 0) (xs : List AxisParts) → Each P (units_of kind xs) → Each (Head P) xs
  heads P [] h = tt
  heads P (a ∷ xs) h = let k = with-forth P a.unit (units_of kind xs) h in (k.0, heads P xs k.1)

  of-heads : (P : UnitParts → Type 0) (xs : List AxisParts) → Each (Head P) xs → Each P (units_of kind xs)
  of-heads P [] h = tt
  of-heads P (a ∷ xs) h = with-back P a.unit (units_of kind xs) h.0 (of-heads P xs h.1)

  head-has : (P : UnitParts → Type 0) → ((u : UnitParts) → u.kind ≡ kind → P (bare u)) → (o : Option UnitParts) →
      Each P (with_unit_of kind o [])
  head-has P f None = tt
  head-has P f (Some u) = by (sameb the_type u.kind kind) refl
    where
      by : (b : Bool) → sameb the_type u.kind kind ≡ b → Each P (if b then bare u ∷ [] else [])
      by true e = (f u ((kinds-decide u.kind kind).0 e), tt)
      by false e = tt

  units-have : (P : UnitParts → Type 0) → ((u : UnitParts) → u.kind ≡ kind → P (bare u)) → (xs : List AxisParts) →
      Each P (units_of kind xs)
  units-have P f xs = of-heads P xs (each-all (Head P) (λ a. head-has P f a.unit) xs)

  are-bare : (xs : List AxisParts) → Each IsBare (units_of kind xs)
  are-bare xs = units-have IsBare (λ u e. refl) xs

  -- the one unit is of the kind
  pub shared-kind : (xs : List AxisParts) → IfSome (shared kind xs) (λ u. u.kind ≡ kind)
  shared-kind xs = one-has (λ u. u.kind ≡ kind) (units_of kind xs) (units-have (λ u. u.kind ≡ kind) (λ u e. e) xs)

  -- ---- the order of axes is nothing to it

  module _ (text : AxisParts → List ℕ) where
    among-back : (P : AxisParts → Type 0) (x : AxisParts) (xs : List AxisParts) → Each P (among text x xs) → P x × Each P xs
    among-back P x [] h = (h.0, tt)
    among-back P x (y ∷ ys) h =
        among-cases text (λ zs. Each P zs → P x × Each P (y ∷ ys)) x y ys (λ n h. (h.0, h.1))
        (λ g h. let k = among-back P x ys h.1 in (k.0, (h.0, k.1))) h

    each-back : (P : AxisParts → Type 0) (xs : List AxisParts) → Each P (ascending text xs) → Each P xs
    each-back P [] h = tt
    each-back P (x ∷ xs) h = let k = among-back P x (ascending text xs) h in (k.0, each-back P xs k.1)

    pub shared-ascending : (xs : List AxisParts) → shared kind (ascending text xs) ≡ shared kind xs
    shared-ascending xs =
        let ys : List AxisParts = ascending text xs in
        same-one (units_of kind ys) (units_of kind xs) (are-bare ys) (are-bare xs)
        (λ P h. of-heads P xs (each-back (Head P) xs (heads P ys h)))
        (λ P h. of-heads P ys (each-ascending text (Head P) xs (heads P xs h)))

  -- ---- axes with the same units, one by one

  abbrev of_keys : List (Option UnitParts) → List UnitParts
  of_keys [] = []
  of_keys (o ∷ os) = with_unit_of kind o (of_keys os)

  with-key : (o : Option UnitParts) (us : List UnitParts) → with_unit_of kind o us ≡ with_unit_of kind (option_map bare o) us
  with-key None us = refl
  with-key (Some u) us = refl

  units-keys : (xs : List AxisParts) → units_of kind xs ≡ of_keys (map key xs)
  units-keys [] = refl
  units-keys (a ∷ xs) = with-key a.unit (units_of kind xs) ∙ ap (with_unit_of kind (key a)) (units-keys xs)

  pub shared-by-keys : (xs ys : List AxisParts) → map key xs ≡ map key ys → shared kind xs ≡ shared kind ys
  shared-by-keys xs ys e = ap one (units-keys xs ∙ (ap of_keys e ∙ sym (units-keys ys)))

-- ---- what is filled in stays

-- units that are missing stay so
abbrev pub StayMissing : (UnitKind → Option UnitParts) → (UnitKind → Option UnitParts) → Type 0
StayMissing f g = (k : UnitKind) → f k ≡ None → g k ≡ None

pub stay-missing : (a l b n : Option UnitParts) → (a ≡ None → b ≡ None) → (l ≡ None → n ≡ None) →
    StayMissing (unit_of_kind a l) (unit_of_kind b n)
stay-missing a l b n f g kinds.Plain e = refl
stay-missing a l b n f g kinds.Angle e = f e
stay-missing a l b n f g kinds.Length e = g e
stay-missing a l b n f g kinds.Scale e = absurd cc

module _ (m : Meaning) (s : IsSteady m) (o : SetLaws) (level : Level) where
  -- ---- prime meridians

  -- the unit of an angle, by its kind
  abbrev pub IsAngle : Option UnitParts → Type 0
  IsAngle p = IfSome p (λ u. kind_as kinds.Angle u.kind ≡ u.kind)

  unit-left : (z : Bool) (p : Option UnitParts) → IsAngle p →
      units m (if z then None else norm_units level kinds.Angle (units m p)) ≡ (if z then None else norm_units level kinds.Angle (units m p))
  unit-left true p h = refl
  unit-left false None h = refl
  unit-left false (Some u) h = ap (λ w. Some w) (unit-again m s o level kinds.Angle u h)

  pub meridian-left : (y : MeridianParts) → IsAngle y.unit →
      meridian m (norm_given level (meridian m y)) ≡ norm_given level (meridian m y)
  meridian-left y h =
      let n = s.name class.PrimeMeridian y.name in
      let u = unit-left (is_zero y.longitude) y.unit h in
      λ i. record (norm_given level (meridian m y)) { name = n i; unit = u i }

  -- a prime meridian in its one form, where a missing one is Greenwich
  abbrev pub given : Option MeridianParts → MeridianParts
  given None = greenwich
  given (Some x) = norm_given level x

  pub is-given : (x : Option MeridianParts) → norm_meridian level x ≡ Some (given x)
  is-given None = refl
  is-given (Some x) = refl

  angle-by : (z : Bool) (p q : Option UnitParts) → IsAngle q →
      IsAngle (if z then (if z then None else norm_units level kinds.Angle p) else own_or (if z then None else norm_units level kinds.Angle p) q)
  angle-by true p q h = search arith
  angle-by false None q h = h
  angle-by false (Some u) q h = kind-twice kinds.Angle u.kind

  pub given-angle : (q : Option UnitParts) → IsAngle q → (x : Option MeridianParts) → IsAngle (completed_meridian q (given x)).unit
  given-angle q h None = search arith
  given-angle q h (Some x) = angle-by (is_zero x.longitude) x.unit q h

  angle-fixed : (p q t : Option UnitParts) → (q ≡ None → t ≡ None) →
      own_or (norm_units level kinds.Angle (units m (own_or p q))) t ≡ norm_units level kinds.Angle (units m (own_or p q))
  angle-fixed (Some u) q t h = refl
  angle-fixed None (Some v) t h = refl
  angle-fixed None None t h = h refl

  unit-complete : (z : Bool) (p q t : Option UnitParts) → (q ≡ None → t ≡ None) →
      (if z then (if z then None else norm_units level kinds.Angle (units m (if z then p else own_or p q)))
      else own_or (if z then None else norm_units level kinds.Angle (units m (if z then p else own_or p q))) t)
      ≡ (if z then None else norm_units level kinds.Angle (units m (if z then p else own_or p q)))
  unit-complete true p q t h = refl
  unit-complete false p q t h = angle-fixed p q t h

  pub meridian-complete : (q t : Option UnitParts) → (q ≡ None → t ≡ None) → (y : MeridianParts) →
      completed_meridian t (norm_given level (meridian m (completed_meridian q y))) ≡ norm_given level (meridian m (completed_meridian q y))
  meridian-complete q t h y =
      let u = unit-complete (is_zero y.longitude) y.unit q t h in
      λ i. record (norm_given level (meridian m (completed_meridian q y))) { unit = u i }

  -- ---- parameters

  own-fixed : (p q t : Option UnitParts) → (q ≡ None → t ≡ None) →
      own_or (norm_units level kinds.Plain (units m (own_or p q))) t ≡ norm_units level kinds.Plain (units m (own_or p q))
  own-fixed (Some u) q t h = refl
  own-fixed None (Some v) t h = refl
  own-fixed None None t h = h refl

  completed-fixed : (f g : UnitKind → Option UnitParts) → StayMissing f g → (p : ParameterParts) →
      completed m g (norm_parameter level (parameter m (completed m f p))) ≡ norm_parameter level (parameter m (completed m f p))
  completed-fixed f g h p =
      rw (s.name class.Parameter p.name)
      (ap (λ u. record (norm_parameter level (parameter m (completed m f p))) { unit = u })
      (own-fixed p.unit (f (m.kind (m.name class.Parameter p.name))) (g (m.kind (m.name class.Parameter p.name))) (h _)))

  pub parameters-complete : (f g : UnitKind → Option UnitParts) → StayMissing f g → (ps : List ParameterParts) →
      map (completed m g) (set_parameters level (map (parameter m) (map (completed m f) ps)))
      ≡ set_parameters level (map (parameter m) (map (completed m f) ps))
  unfolding set_parameters
  parameters-complete f g h ps =
      let P : ParameterParts → Type 0 = λ x. completed m g x ≡ x in
      let all : Each P (map (norm_parameter level) (map (parameter m) (map (completed m f) ps))) =
      mapped (norm_parameter level) P _
      (mapped (parameter m) (λ x. P (norm_parameter level x)) _
      (mapped (completed m f) (λ x. P (norm_parameter level (parameter m x))) ps (each-all _ (completed-fixed f g h) ps))) in
      each-fixed (completed m g) _ (o.parameters.alike (completed m g) (λ x. x) _ all)

  -- ---- where the order of axes counts: axes that are put in their one form have the units that were written

  module _ (c : m.uncounted.axis_order ≡ false) (t : SystemParts) (n : t.unit ≡ None) where
    -- the unit of an axis is in its one form
    abbrev IsDone : AxisParts → Type 0
    IsDone a = norm_units level (asked_kind t.system_type a.direction) a.unit ≡ a.unit

    unit-key : (asked : UnitKind) (u : UnitParts) → norm_unit level asked u ≡ u →
        ◌≡◌ {A = UnitParts} (bare (m.unit (norm_unit level asked u))) (bare (norm_unit level asked (m.unit u)))
    unit-key asked u e =
        let k : kind_as asked (m.unit u).kind ≡ (m.unit u).kind = rw (s.kinds.kind u) (ap (λ (w : UnitParts). w.kind) e) in
        rw (e, k) refl

    own-key : (asked : UnitKind) (p : Option UnitParts) → norm_units level asked p ≡ p →
        option_map bare (units m (norm_units level asked (own_or p None))) ≡ option_map bare (norm_units level asked (own_or (units m p) None))
    own-key asked None e = refl
    own-key asked (Some u) e = ap (λ w. Some w) (unit-key asked u cc)

    counted-when : {A : Type 0} (b : Bool) → b ≡ false → (p : Option A) → counted b p ≡ p
    counted-when true e p = absurd cc
    counted-when false e p = refl

    at-step : (b d : Bool) (x : AxisParts) (p q : Option AxisParts) → b ≡ d → p ≡ option_map (axis m) q →
        (if b then Some (axis m x) else p) ≡ option_map (axis m) (if d then Some x else q)
    at-step true true x p q e f = refl
    at-step true false x p q e f = absurd cc
    at-step false true x p q e f = absurd cc
    at-step false false x p q e f = f

    at-mapped : (k place : ℕ) (xs : List AxisParts) → axis_at k place (map (axis m) xs) ≡ option_map (axis m) (axis_at k place xs)
    at-mapped k place [] = refl
    at-mapped k place (x ∷ xs) =
        at-step (is_at k place (axis m x).order) (is_at k place x.order) x _ _
        (ap (is_at k place) (counted-when m.uncounted.axis_order c x.order)) (at-mapped k (place + 1) xs)

    at-done : (k place : ℕ) (xs : List AxisParts) → Each IsDone xs → IfSome (axis_at k place xs) IsDone
    at-done k place [] h = search arith
    at-done k place (x ∷ xs) h =
        choice (λ o. IfSome o IsDone) (is_at k place x.order) (Some x) (axis_at k (place + 1) xs) h.0 (at-done k (place + 1) xs h.1)

    with-keys : (k : ℕ) (p : Option AxisParts) (rest others : List AxisParts) → IfSome p IsDone →
        map key (map (axis m) rest) ≡ map key others →
        map key (map (axis m) (with_axis level t k p rest)) ≡ map key (with_axis level (system m t) k (option_map (axis m) p) others)
    unfolding norm_axis
    with-keys k None rest others d e = e
    with-keys k (Some a) rest others d e =
        rw n (λ i. own-key (asked_kind t.system_type a.direction) a.unit d i ∷ e i)

    from-keys : Each IsDone t.axes → (k j : ℕ) →
        map key (map (axis m) (axes_from level t k j)) ≡ map key (axes_from level (system m t) k j)
    from-keys h k zero = refl
    from-keys h k (suc j) =
        rw (at-mapped k 1 t.axes)
        (with-keys k (axis_at k 1 t.axes) _ _ (at-done k 1 t.axes h) (from-keys h (k + 1) j))

  -- the unit of each axis of a system in its one form is in its one form
  units-done : (asked : UnitKind) (p : Option UnitParts) → norm_units level asked (norm_units level asked p) ≡ norm_units level asked p
  units-done asked None = refl
  units-done asked (Some u) =
      let k = kind-twice asked u.kind in
      let d = (idents-kept o level u.identifiers).0 in
      λ i. Some (record (norm_unit level asked u) { kind = k i; identifiers = d i })

  one-done : (t : SystemParts) (k : ℕ) (x : AxisParts) →
      norm_units level (asked_kind t.system_type (norm_axis level t k x).direction) (norm_axis level t k x).unit ≡ (norm_axis level t k x).unit
  unfolding norm_axis
  one-done t k x = units-done (asked_kind t.system_type x.direction) (own_or x.unit t.unit)

  norm-done : (t : SystemParts) →
      Each (λ a. norm_units level (asked_kind t.system_type a.direction) a.unit ≡ a.unit) (norm_system level t).axes
  norm-done t = any-axis level (λ a. norm_units level (asked_kind t.system_type a.direction) a.unit ≡ a.unit) t (one-done t)

  -- a system in its one form, written and put in its one form again, has the unit of each kind that was written
  pub shared-kept : (kind : UnitKind) → m.uncounted.axis_order ≡ false → (t : SystemParts) → norm_system level (norm_system level t) ≡ norm_system level t →
      shared kind (norm_system level (system m (norm_system level t))).axes ≡ shared kind (system m (norm_system level t)).axes
  shared-kept kind c t e =
      let r : SystemParts = norm_system level t in
      let keys = from-keys c r refl (norm-done t) 1 (length r.axes) in
      let is : map key (map (axis m) (norm_system level r).axes) ≡ map key (map (axis m) r.axes) =
      ap (λ (z : SystemParts). map key (map (axis m) z.axes)) e in
      sym (shared-by-keys kind (map (axis m) r.axes) (norm_system level (system m r)).axes (sym is ∙ rw length-map keys))
