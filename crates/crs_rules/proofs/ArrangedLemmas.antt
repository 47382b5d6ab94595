-- Where the order of axes doesn't count: axes in order of their texts stay when that is done again.
use Rattle.std.proofs.Common.{◌≡◌, ◌≢◌, ◌++◌, ℕ, ◌+◌, true, Option, Some, None, List, [], ◌∷◌, Greater, refl, ap, ◌∙◌, append_assoc, map, length, arith}
use Rattle.std.specs.Cmp.Lexicographic.{slice_cmp}
use Rattle.std.specs.Option.{option_map}
use Rattle.std.specs.Ordering.{nat_cmp}
use Rattle.std.proofs.lemmas.Bool.Decides.{nat_tests}
use Rattle.std.proofs.lemmas.Cmp.{nat_list_cmp_total}
use Rattle.std.proofs.lemmas.List.{length-append}
use Rattle.crs_shape.specs.declared.class.Class.TheVariants as class
use Rattle.crs_shape.specs.declared.unit_kind.UnitKind.{UnitKind}
use Rattle.crs_shape.specs.declared.unit_kind.UnitKind.TheVariants as kinds
use Rattle.crs_shape.specs.inner.Prelude.{kind_as}
use Rattle.crs_value.specs.NamedValues.{IdentParts}
use Rattle.crs_value.specs.Sound.{Each}
use Rattle.crs_value.specs.inner.Prelude.{own_or, AxisMeridianParts, AxisParts, SystemParts, UnitParts}
use Rattle.crs_value.specs.declared.values.level.Level.{Level}
use Rattle.crs_value.specs.declared.values.level.Level.TheVariants as levels
use Rattle.crs_normal.specs.inner.Prelude.{axes_from, axis_at, norm_axis, norm_axis_meridians, norm_system, norm_unit, norm_units, set_idents}
use Rattle.crs_rules.specs.inner.LowerLaws.{SetLaws}
use Rattle.crs_rules.specs.Rewritten.{among, arranged, ascending, axis, axis_meridian, system, units}
use Rattle.crs_rules.specs.Rules.{Meaning}
use Rattle.crs_rules.proofs.AgainLemmas.{any-axis, counted-name-again, kind-twice, mapped}
use Rattle.crs_rules.proofs.CrsLemmas.{among-cases, each-ascending, none-ordered}
use Rattle.crs_rules.proofs.SteadyLemmas.{IsSteady, KeepsKinds}

-- ---- in order twice

below : (a b : List ℕ) → slice_cmp nat_cmp a b ≡ Greater → slice_cmp nat_cmp b a ≢ Greater
below a b e f = cc (rw e at (nat_list_cmp_total.antisymm b a))

module _ (text : AxisParts → List ℕ) where
  -- the axis isn't above the first of these
  abbrev pub Before : AxisParts → List AxisParts → Type 0
  Before x [] = Unit {0}
  Before x (y ∷ ys) = slice_cmp nat_cmp (text x) (text y) ≢ Greater

  -- none is above the next
  abbrev Rising : List AxisParts → Type 0
  Rising [] = Unit {0}
  Rising (x ∷ xs) = Before x xs × Rising xs

  pub before-among : (y x : AxisParts) (zs : List AxisParts) → Before y zs → slice_cmp nat_cmp (text y) (text x) ≢ Greater →
      Before y (among text x zs)
  before-among y x [] h k = k
  before-among y x (z ∷ ws) h k = among-cases text (Before y) x z ws (λ n. k) (λ g. h)

  among-rises : (x : AxisParts) (ys : List AxisParts) → Rising ys → Rising (among text x ys)
  among-rises x [] h = (tt, tt)
  among-rises x (y ∷ zs) h =
      among-cases text Rising x y zs (λ n. (n, h)) (λ g. (before-among y x zs h.0 (below (text x) (text y) g), among-rises x zs h.1))

  ascending-rises : (xs : List AxisParts) → Rising (ascending text xs)
  ascending-rises [] = tt
  ascending-rises (x ∷ xs) = among-rises x (ascending text xs) (ascending-rises xs)

  pub in-front : (x : AxisParts) (xs : List AxisParts) → Before x xs → among text x xs ≡ x ∷ xs
  in-front x [] h = refl
  in-front x (y ∷ ys) h =
      among-cases text (λ zs. zs ≡ x ∷ y ∷ ys) x y ys (λ n. refl) (λ g. absurd (h g))

  risen : (xs : List AxisParts) → Rising xs → ascending text xs ≡ xs
  risen [] h = refl
  risen (x ∷ xs) h = rw (risen xs h.1) (in-front x xs h.0)

  pub ascending-twice : (xs : List AxisParts) → ascending text (ascending text xs) ≡ ascending text xs
  ascending-twice xs = risen (ascending text xs) (ascending-rises xs)

-- ---- axes without orders are at their places

abbrev Orderless : List AxisParts → Type 0
Orderless xs = Each (λ a. a.order ≡ None) xs

at-none : (front back : List AxisParts) (x : AxisParts) (p k : ℕ) → Orderless (front ++ x ∷ back) → k ≡ p + length front →
    axis_at k p (front ++ x ∷ back) ≡ Some x
at-none [] back x p k h e = rw h.0 (grind (arith, nat_tests))
at-none (y ∷ ys) back x p k h e =
    let n : k ≡ p + 1 + length ys = omega arith in rw (h.0, at-none ys back x (p + 1) k h.1 n) (grind (arith, nat_tests))

-- identifiers that are put in order stay, at the same level and at the full one
pub idents-kept : SetLaws → (l : Level) (is : List IdentParts) →
    (set_idents l (set_idents l is) ≡ set_idents l is) × (set_idents levels.Full (set_idents l is) ≡ set_idents l is)
unfolding set_idents
idents-kept o levels.Full is = (o.identifiers.twice is, o.identifiers.twice is)
idents-kept o levels.Definition is = (refl, refl)

-- a unit that is written keeps its kind and its identifiers
pub unit-kept : (m : Meaning) → KeepsKinds m → (level again : Level) (asked kept : UnitKind) (u : UnitParts) →
    kind_as kept (kind_as asked u.kind) ≡ kind_as asked u.kind →
    set_idents again (set_idents level u.identifiers) ≡ set_idents level u.identifiers →
    ◌≡◌ {A = UnitParts} (norm_unit again kept (m.unit (norm_unit level asked u))) (m.unit (norm_unit level asked u))
unit-kept m s level again asked kept u f g =
    let w : UnitParts = m.unit (norm_unit level asked u) in
    let k : kind_as kept w.kind ≡ w.kind = rw (s.kind (norm_unit level asked u)) f in
    let d : set_idents again w.identifiers ≡ w.identifiers = rw (s.identifiers (norm_unit level asked u)) g in
    λ i. record w { kind = k i; identifiers = d i }

-- ---- what is written of a system stays

module _ (m : Meaning) (s : IsSteady m) (o : SetLaws) (level : Level) where
  -- axes with these positions as orders
  abbrev numbered : SystemParts → ℕ → List AxisParts → List AxisParts
  numbered r k [] = []
  numbered r k (x ∷ xs) = norm_axis level r k x ∷ numbered r (k + 1) xs

  from-rest : (r : SystemParts) → Orderless r.axes → (front rest : List AxisParts) (k : ℕ) → r.axes ≡ front ++ rest →
      k ≡ 1 + length front → axes_from level r k (length rest) ≡ numbered r k rest
  from-rest r h front [] k d e = refl
  from-rest r h front (x ∷ ys) k d e =
      let n : k + 1 ≡ 1 + length (front ++ x ∷ []) = rw length-append (omega arith) in
      let a : axis_at k 1 r.axes ≡ Some x = rw d (at-none front ys x 1 k (rw d at h) e) in
      rw (a, from-rest r h (front ++ x ∷ []) ys (k + 1) (rw append_assoc d) n)

  renewed : (asked : UnitKind) (u : UnitParts) →
      m.unit (norm_unit level asked (m.unit (norm_unit level asked u))) ≡ m.unit (norm_unit level asked u)
  renewed asked u =
      ap m.unit (unit-kept m s.kinds level level asked asked u (kind-twice asked u.kind) (idents-kept o level u.identifiers).0)
      ∙ s.unit (norm_unit level asked u) _

  along-renewed : (x : Option AxisMeridianParts) →
      option_map (axis_meridian m) (norm_axis_meridians level (option_map (axis_meridian m) (norm_axis_meridians level x)))
      ≡ option_map (axis_meridian m) (norm_axis_meridians level x)
  along-renewed None = refl
  along-renewed (Some x) = simp (renewed kinds.Angle)

  own-renewed : (asked : UnitKind) (o : Option UnitParts) →
      units m (norm_units level asked (own_or (units m (norm_units level asked o)) None)) ≡ units m (norm_units level asked o)
  own-renewed asked None = refl
  own-renewed asked (Some u) = ap (λ x. Some x) (renewed asked u)

  axis-renewed : m.uncounted.axis_order ≡ true → (t : SystemParts) (k j : ℕ) (y : AxisParts) (r : SystemParts) →
      r.unit ≡ None → r.system_type ≡ t.system_type →
      axis m (norm_axis level r j (axis m (norm_axis level t k y))) ≡ axis m (norm_axis level t k y)
  unfolding norm_axis
  axis-renewed c t k j y r e f =
      simp (
        c,
        e,
        f,
        counted-name-again m.uncounted.axis_names (m.name class.Axis) y.name (s.name class.Axis y.name),
        along-renewed,
        own-renewed,
        (idents-kept o level y.identifiers).0,
      )

  all-renewed : (r : SystemParts) (k : ℕ) (xs : List AxisParts) →
      Each (λ x. (j : ℕ) → axis m (norm_axis level r j x) ≡ x) xs → map (axis m) (numbered r k xs) ≡ xs
  all-renewed r k [] h = refl
  all-renewed r k (x ∷ xs) h = let e = h.0 k in let t = all-renewed r (k + 1) xs h.1 in λ i. e i ∷ t i

  -- axes in order of their texts, put in their one form and written again, are as they were
  pub arranged-axes : m.uncounted.axis_order ≡ true → (text : AxisParts → List ℕ) (t : SystemParts) →
      (system m (norm_system level (arranged text (system m (norm_system level t))))).axes
      ≡ ascending text (map (axis m) (norm_system level t).axes)
  arranged-axes c text t =
      let old : List AxisParts = (norm_system level t).axes in
      let xs : List AxisParts = map (axis m) old in
      let r : SystemParts = arranged text (system m (norm_system level t)) in
      let Q : AxisParts → Type 0 = λ x. (j : ℕ) → axis m (norm_axis level r j x) ≡ x in
      let written : Each (λ y. Q (axis m y)) old =
      any-axis level (λ y. Q (axis m y)) t (λ k y j. axis-renewed c t k j y r refl refl) in
      let q : Each Q r.axes = each-ascending text Q xs (mapped (axis m) Q old written) in
      let n : Orderless r.axes = each-ascending text (λ a. a.order ≡ None) xs (none-ordered m c old) in
      simp (from-rest r n [] r.axes 1 refl refl, all-renewed r 1 r.axes q)

  pub arranged-again : m.uncounted.axis_order ≡ true → (text : AxisParts → List ℕ) (t : SystemParts) →
      ◌≡◌ {A = SystemParts} (arranged text (system m (norm_system level (arranged text (system m (norm_system level t))))))
      (arranged text (system m (norm_system level t)))
  arranged-again c text t =
      let axes = arranged-axes c text t in
      let d = (idents-kept o level t.identifiers).0 in
      simp (axes, ascending-twice text (map (axis m) (norm_system level t).axes), d)
