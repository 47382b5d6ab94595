-- Where the order of axes doesn't count, CRSs that differ in it alone have one form.
use Rattle.std.proofs.Common.{◌≡◌, ◌++◌, ℕ, true, Option, Some, None, List, [], ◌∷◌, Ordering, Less, Equal, Greater, refl, sym, ap, ◌∙◌, map}
use Rattle.std.specs.Cmp.Lexicographic.{slice_cmp}
use Rattle.std.specs.Option.{option_map}
use Rattle.std.specs.Ordering.{nat_cmp}
use Rattle.std.proofs.lemmas.Cmp.{nat_list_cmp_total}
use Rattle.std.proofs.lemmas.List.{map-append}
use Rattle.std.proofs.lemmas.Map.Lookups.{exact_bytes}
use Rattle.crs_shape.specs.declared.unit_kind.UnitKind.{UnitKind}
use Rattle.crs_shape.specs.declared.unit_kind.UnitKind.TheVariants as kinds
use Rattle.crs_shape.specs.inner.Prelude.{kind_as}
use Rattle.crs_value.specs.inner.Prelude.{VerticalParts, IsAxis, IsHorizontal, IsCrs, IsSystem, IsVertical, AxisMeridianParts, AxisParts, SystemParts, UnitParts}
use Rattle.crs_value.specs.Sound.{Each}
use Rattle.crs_value.specs.declared.values.compound.Horizontal.{Horizontal}
use Rattle.crs_value.specs.declared.values.compound.Horizontal.TheVariants as horizontals
use Rattle.crs_value.specs.declared.values.crs.Crs.{Crs}
use Rattle.crs_value.specs.declared.values.crs.Crs.TheVariants as crs
use Rattle.crs_value.specs.declared.values.level.Level.{Level}
use Rattle.crs_value.specs.declared.values.level.Level.TheVariants as levels
use Rattle.crs_normal.specs.inner.Prelude.{norm_axis_alone, norm_crs, norm_horizontal, norm_vertical, norm_axis, norm_axis_meridians, norm_system, norm_units}
use Rattle.crs_rules.specs.inner.LowerLaws.{SetLaws}
use Rattle.crs_rules.specs.ReorderedAxes.{AreAxesReordered, IsAcrossReordered, IsCrsReordered, IsReordered, IsVerticalReordered, unordered}
use Rattle.crs_rules.specs.Rewritten.{across, among, arranged, arranged_across, arranged_compound, arranged_crs, arranged_geodetic, arranged_projected, arranged_vertical, ascending, axis, axis_meridian, compound, explicit, explicit_geodetic, geodetic, projected, renamed, shared, system, units, vertical}
use Rattle.crs_rules.specs.Rules.{Meaning}
use Rattle.crs_rules.proofs.AgainLemmas.{any-axis, kind-twice, plain-kind}
use Rattle.crs_rules.proofs.PartLemmas.{IsSoundMeaning}
use Rattle.crs_rules.proofs.ArrangedLemmas.{Before, before-among, idents-kept, in-front, unit-kept}
use Rattle.crs_rules.proofs.CrsLemmas.{axis-sound, each-both}
use Rattle.crs_rules.proofs.SharedLemmas.{shared-ascending}
use Rattle.crs_rules.proofs.SteadyLemmas.{KeepsKinds}

-- ---- axes that have one text are equal: then the order in which they are put among others is nothing

module _ (text : AxisParts → List ℕ) where
  abbrev Under : AxisParts → AxisParts → Type 0
  Under x y = slice_cmp nat_cmp (text x) (text y) ≡ Less

  over : (x y : AxisParts) → Under x y → slice_cmp nat_cmp (text y) (text x) ≡ Greater
  over x y l = rw l at (nat_list_cmp_total.antisymm (text y) (text x))

  under : (x y : AxisParts) → slice_cmp nat_cmp (text x) (text y) ≡ Greater → Under y x
  under x y g = rw g at (nat_list_cmp_total.antisymm (text y) (text x))

  past : (x z : AxisParts) (ws : List AxisParts) → slice_cmp nat_cmp (text x) (text z) ≡ Greater →
      among text x (z ∷ ws) ≡ z ∷ among text x ws
  past x z ws g = rw g

  in-front-of-both : (x y : AxisParts) → Under x y → (zs : List AxisParts) → Before text x zs →
      among text x (among text y zs) ≡ among text y (among text x zs)
  in-front-of-both x y l zs h =
      in-front text x (among text y zs) (before-among text x y zs h (λ g. cc))
      ∙ sym (ap (among text y) (in-front text x zs h) ∙ past y x zs (over x y l))

  lower-first : (x y : AxisParts) → Under x y → (zs : List AxisParts) →
      among text x (among text y zs) ≡ among text y (among text x zs)
  lower-first x y l [] = in-front-of-both x y l [] tt
  lower-first x y l (z ∷ ws) = by (slice_cmp nat_cmp (text x) (text z)) refl (lower-first x y l ws)
    where
      by : (o : Ordering) → slice_cmp nat_cmp (text x) (text z) ≡ o →
          among text x (among text y ws) ≡ among text y (among text x ws) →
          among text x (among text y (z ∷ ws)) ≡ among text y (among text x (z ∷ ws))
      by Less e k = in-front-of-both x y l (z ∷ ws) (λ g. cc)
      by Equal e k = in-front-of-both x y l (z ∷ ws) (λ g. cc)
      by Greater e k =
          let g = over z y (nat_list_cmp_total.trans (text z) (text x) (text y) (under x z e) l) in
          ap (among text x) (past y z ws g)
          ∙ (past x z (among text y ws) e
          ∙ (ap (λ vs. z ∷ vs) k ∙ sym (ap (among text y) (past x z ws e) ∙ past y z (among text x ws) g)))

  among-both : (x y : AxisParts) → (text x ≡ text y → x ≡ y) → (zs : List AxisParts) →
      among text x (among text y zs) ≡ among text y (among text x zs)
  among-both x y tells zs = by (slice_cmp nat_cmp (text x) (text y)) refl
    where
      by : (o : Ordering) → slice_cmp nat_cmp (text x) (text y) ≡ o →
          among text x (among text y zs) ≡ among text y (among text x zs)
      by Less e = lower-first x y e zs
      by Equal e =
          let p : x ≡ y = tells (exact_bytes (text x) (text y) e) in
          let q : y ≡ x = sym p in
          λ i. among text (p i) (among text (q i) zs)
      by Greater e = sym (lower-first y x (under x y e) zs)

  module _ (P : AxisParts → Type 0) (tells : (x y : AxisParts) → P x → P y → text x ≡ text y → x ≡ y) where
    taken-out : (x : AxisParts) → P x → (front back : List AxisParts) → Each P (front ++ x ∷ back) →
        among text x (ascending text (front ++ back)) ≡ ascending text (front ++ x ∷ back)
    taken-out x h [] back k = refl
    taken-out x h (f ∷ fs) back k =
        among-both x f (tells x f h k.0) (ascending text (fs ++ back)) ∙ ap (among text f) (taken-out x h fs back k.1)

    without-one : (x : AxisParts) (front back : List AxisParts) → Each P (front ++ x ∷ back) → Each P (front ++ back)
    without-one x [] back k = k.1
    without-one x (f ∷ fs) back k = (k.0, without-one x fs back k.1)

    reordered-ascend : (xs ys : List AxisParts) → IsReordered xs ys → Each P xs → Each P ys → ascending text xs ≡ ascending text ys
    reordered-ascend [] ys r h k = sym (ap (ascending text) r)
    reordered-ascend (x ∷ xs) ys r h k =
        let all : Each P (r.0 ++ x ∷ r.1) = rw r.2 at k in
        rw (reordered-ascend xs (r.0 ++ r.1) r.3 h.1 (without-one x r.0 r.1 all), r.2) (taken-out x h.0 r.0 r.1 all)

-- ---- lists in some order

reordered-map : {A B : Type 0} (f : A → B) (xs ys : List A) → IsReordered xs ys → IsReordered (map f xs) (map f ys)
reordered-map f [] ys r = ap (map f) r
reordered-map f (x ∷ xs) ys r =
    (map f r.0, map f r.1, rw (r.2, map-append), rw map-append at (reordered-map f xs (r.0 ++ r.1) r.3))

-- ---- what is written of an axis is its own form

module _ (m : Meaning) (s : KeepsKinds m) (h : IsSoundMeaning m) (o : SetLaws) (level : Level) where
  along-alone : (x : Option AxisMeridianParts) →
      norm_axis_meridians levels.Full (option_map (axis_meridian m) (norm_axis_meridians level x))
      ≡ option_map (axis_meridian m) (norm_axis_meridians level x)
  along-alone None = refl
  along-alone (Some x) =
      simp (unit-kept m s level levels.Full kinds.Angle kinds.Angle x.unit (kind-twice kinds.Angle x.unit.kind) (idents-kept o level x.unit.identifiers).1)

  units-alone : (asked : UnitKind) (p : Option UnitParts) →
      norm_units levels.Full kinds.Plain (units m (norm_units level asked p)) ≡ units m (norm_units level asked p)
  units-alone asked None = refl
  units-alone asked (Some u) =
      ap (λ x. Some x)
      (unit-kept m s level levels.Full asked kinds.Plain u (plain-kind (kind_as asked u.kind)) (idents-kept o level u.identifiers).1)

  axis-alone : (t : SystemParts) (k : ℕ) (y : AxisParts) →
      norm_axis_alone levels.Full (axis m (norm_axis level t k y)) ≡ axis m (norm_axis level t k y)
  unfolding norm_axis
  axis-alone t k y = simp (along-alone, units-alone, (idents-kept o level y.identifiers).1)

  -- an axis is sound, and its own form
  abbrev IsWritten : AxisParts → Type 0
  IsWritten x = IsAxis x × (norm_axis_alone levels.Full x ≡ x)

  are-written : (t : SystemParts) → IsSystem (norm_system level t) → Each IsWritten (map (axis m) (norm_system level t).axes)
  are-written t k =
      let Q : AxisParts → Type 0 = λ x. norm_axis_alone levels.Full (axis m x) ≡ axis m x in
      each-both IsAxis Q IsWritten (axis m) (norm_system level t).axes (λ x a q. (axis-sound m h x a, q)) k.axes
      (any-axis level Q t (axis-alone t))

  -- ---- CRSs in their one form

  module _ (c : m.uncounted.axis_order ≡ true) (text : AxisParts → List ℕ)
      (tells : (x y : AxisParts) → IsAxis x → IsAxis y → text x ≡ text y →
      norm_axis_alone levels.Full x ≡ norm_axis_alone levels.Full y) where
    all-unordered : (xs : List AxisParts) → map (axis m) (map unordered xs) ≡ map (axis m) xs
    all-unordered [] = refl
    all-unordered (x ∷ xs) = let t = all-unordered xs in simp (t, c)

    written-tells : (x y : AxisParts) → IsWritten x → IsWritten y → text x ≡ text y → x ≡ y
    written-tells x y p q e = sym p.1 ∙ (tells x y p.0 q.0 e ∙ q.1)

    system-one : (s t : SystemParts) → IsSystem (norm_system level s) → IsSystem (norm_system level t) →
        AreAxesReordered (norm_system level s) (norm_system level t) →
        ◌≡◌ {A = SystemParts} (arranged text (system m (norm_system level s))) (arranged text (system m (norm_system level t)))
    system-one s t k l r =
        let xs : List AxisParts = (norm_system level s).axes in
        let ys : List AxisParts = (norm_system level t).axes in
        let o = rw (all-unordered xs, all-unordered ys)
        at (reordered-map {A = AxisParts} {B = AxisParts} (axis m) (map unordered xs) (map unordered ys) r.axes) in
        rw (reordered-ascend text IsWritten written-tells (map (axis m) xs) (map (axis m) ys) o (are-written s k) (are-written t l))
        (ap (λ z. arranged text (system m z)) r.others)

    shared-one : (kind : UnitKind) (s t : SystemParts) → IsSystem (norm_system level s) → IsSystem (norm_system level t) →
        AreAxesReordered (norm_system level s) (norm_system level t) →
        shared kind (system m (norm_system level s)).axes ≡ shared kind (system m (norm_system level t)).axes
    shared-one kind s t k l r =
        sym (shared-ascending kind text (system m (norm_system level s)).axes)
        ∙ (ap (λ (z : SystemParts). shared kind z.axes) (system-one s t k l r) ∙ shared-ascending kind text (system m (norm_system level t)).axes)

    across-one : (x y : Horizontal) → IsHorizontal (norm_horizontal level x) → IsHorizontal (norm_horizontal level y) →
        IsAcrossReordered (norm_horizontal level x) (norm_horizontal level y) →
        arranged_across text (across m (norm_horizontal level x)) ≡ arranged_across text (across m (norm_horizontal level y))
    across-one (horizontals.Geodetic g) (horizontals.Geodetic k) a b r =
        rw (system-one g.system k.system a.0.system b.0.system r.system, shared-one kinds.Angle g.system k.system a.0.system b.0.system r.system)
        (ap (λ z. horizontals.Geodetic (arranged_geodetic text (geodetic m (explicit_geodetic m z)))) r.others)
    across-one (horizontals.Projected p) (horizontals.Projected q) a b r =
        rw (system-one p.system q.system a.0.system b.0.system r.system, shared-one kinds.Length p.system q.system a.0.system b.0.system r.system)
        (ap (λ z. horizontals.Projected (arranged_projected text (projected m (explicit m z)))) r.others)
    across-one x y a b r = absurd r

    vertical-one : (v w : VerticalParts) → IsVertical (norm_vertical level v) → IsVertical (norm_vertical level w) →
        IsVerticalReordered (norm_vertical level v) (norm_vertical level w) → ◌≡◌ {A = VerticalParts}
        (arranged_vertical text (vertical m (norm_vertical level v))) (arranged_vertical text (vertical m (norm_vertical level w)))
    vertical-one v w a b r =
        rw (system-one v.system w.system a.system b.system r.system) (ap (λ z. arranged_vertical text (vertical m z)) r.others)

    pub crs-one : (x y : Crs) → IsCrs (norm_crs level x) → IsCrs (norm_crs level y) → IsCrsReordered (norm_crs level x) (norm_crs level y) →
        arranged_crs text (renamed m (norm_crs level x)) ≡ arranged_crs text (renamed m (norm_crs level y))
    crs-one (crs.Geodetic g) (crs.Geodetic k) a b r =
        rw (system-one g.system k.system a.system b.system r.system, shared-one kinds.Angle g.system k.system a.system b.system r.system)
        (ap (λ z. crs.Geodetic (arranged_geodetic text (geodetic m (explicit_geodetic m z)))) r.others)
    crs-one (crs.Projected p) (crs.Projected q) a b r =
        rw (system-one p.system q.system a.system b.system r.system, shared-one kinds.Length p.system q.system a.system b.system r.system)
        (ap (λ z. crs.Projected (arranged_projected text (projected m (explicit m z)))) r.others)
    crs-one (crs.Vertical v) (crs.Vertical w) a b r = ap crs.Vertical (vertical-one v w a b r)
    crs-one (crs.Compound d) (crs.Compound e) a b r =
        rw (
          across-one d.horizontal e.horizontal a.horizontal b.horizontal r.horizontal,
          vertical-one d.vertical e.vertical a.vertical b.vertical r.vertical,
        )
        (ap (λ z. crs.Compound (arranged_compound text (compound m z))) r.others)
    crs-one x y a b r = absurd r
