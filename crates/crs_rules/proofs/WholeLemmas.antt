-- What rules write of a CRS they leave as it is, but for the orders of axes where these don't count.
use Rattle.std.proofs.Common.{◌≡◌, ◌||◌, ℕ, Bool, true, false, Option, Some, None, List, [], refl, ap, ◌∙◌, arith, map, if◌then◌else◌}
use Rattle.std.proofs.lemmas.List.Folds.{list_all-map}
use Rattle.std.specs.List.{list_all}
use Rattle.std.specs.Option.{is_some, option_map}
use Rattle.crs_shape.specs.declared.class.Class.TheVariants as class
use Rattle.crs_shape.specs.declared.unit_kind.UnitKind.{UnitKind}
use Rattle.crs_shape.specs.declared.unit_kind.UnitKind.TheVariants as kinds
use Rattle.crs_value.specs.inner.Prelude.{CompoundParts, ParameterParts, GeodeticParts, ProjectedParts, VerticalParts, kept, NamedParts, IsParameter, IsHorizontal, IsCrs, IsProjected, AxisParts, ExtentParts, MeridianParts, SystemParts, UnitParts, UsageParts}
use Rattle.crs_shape.specs.inner.Prelude.{kind_as}
use Rattle.crs_value.specs.Sound.{Each}
use Rattle.crs_value.specs.declared.values.compound.Horizontal.{Horizontal}
use Rattle.crs_value.specs.declared.values.compound.Horizontal.TheVariants as horizontals
use Rattle.crs_value.specs.declared.values.crs.Crs.{Crs}
use Rattle.crs_value.specs.declared.values.crs.Crs.TheVariants as crs
use Rattle.crs_value.specs.declared.values.level.Level.{Level}
use Rattle.crs_value.specs.declared.values.level.Level.TheVariants as levels
use Rattle.crs_text.specs.inner.Prelude.{item_text}
use Rattle.crs_normal.specs.inner.Prelude.{in_order, item_geoid_model, norm_geoid_model, norm_parameter, set_geoid_models, set_parameters, norm_compound, norm_crs, norm_geodetic, norm_horizontal, norm_projected, norm_vertical, is_zero, norm_meridian, norm_system, norm_length, norm_units, item_usage, norm_extent, norm_usage, set_usages}
use Rattle.crs_rules.specs.inner.LowerLaws.{SetLaws}
use Rattle.crs_rules.specs.Rewritten.{across, arranged, arranged_across, arranged_crs, compound, counted, extent, geodetic, has_own_unit, meridian, named, parameter, projected, renamed, rewritten, system, units, usage, vertical, bare, completed_meridian, explicit, missing_unit, shared, told}
use Rattle.crs_rules.specs.Rules.{Meaning}
use Rattle.crs_rules.proofs.AgainLemmas.{IsAgain, IsLeft, counted-name-twice, dynamics-again, each-all, each-fixed, frame-again, length-kind, mapped, member-fixed, meridian-again, parameters-again, set-again, some-again, system-again, unit-again, units-again, kind-twice}
use Rattle.crs_rules.proofs.PartLemmas.{IsSoundMeaning, each-map, parameter-sound, some-weaker, told-sound}
use Rattle.crs_rules.proofs.ArrangedLemmas.{arranged-again, arranged-axes}
use Rattle.crs_rules.proofs.CrsLemmas.{explicit-sound}
use Rattle.crs_rules.proofs.SharedLemmas.{IsAngle, given, given-angle, meridian-complete, meridian-left, shared-kind, parameters-complete, shared-ascending, shared-kept, stay-missing}
use Rattle.crs_rules.proofs.SteadyLemmas.{IsSteady}

abbrev usage-text : UsageParts → List ℕ
usage-text u = item_text (item_usage u)

-- the one form of a form stays, where it is put in its one form
abbrev pub Stays : {A : Type 0} → (A → A) → (A → A) → A → Type 0
Stays norm form x = norm (norm (form x)) ≡ norm (form x) → norm (form (form x)) ≡ norm (form x)

module _ (m : Meaning) (s : IsSteady m) (o : SetLaws) (level : Level) where
  -- ---- usages

  extent-again : (e : ExtentParts) → IsAgain (extent m) (norm_extent levels.Full) e
  extent-again e = simp (unit-again m s o levels.Full kinds.Length (norm_length levels.Full e.unit) (length-kind m s o levels.Full e.unit))

  usage-again : (u : UsageParts) → IsAgain (usage m) norm_usage u
  usage-again u = simp (some-again (extent m) (norm_extent levels.Full) extent-again)

  each-kept : (P : UsageParts → Type 0) (l : Level) (us : List UsageParts) → Each P us → Each P (kept l us)
  each-kept P levels.Full us h = h
  each-kept P levels.Definition us h = tt

  usages-again : (us : List UsageParts) → IsAgain (map (usage m)) (set_usages level) us
  unfolding set_usages
  usages-again us =
      let P : UsageParts → Type 0 = λ x. usage m x ≡ x in
      let xs : List UsageParts = map (usage m) (in_order usage-text (map norm_usage (kept level us))) in
      let again : Each (λ x. IsAgain (usage m) norm_usage x) (kept level us) = each-all _ usage-again (kept level us) in
      let written : Each (λ x. P (norm_usage x)) xs =
      mapped (usage m) _ _ (o.usages.alike (λ x. usage m (norm_usage (usage m x))) (λ x. norm_usage (usage m x)) _ (mapped norm_usage _ _ again)) in
      let fixed : Each P (in_order usage-text (map norm_usage (kept level xs))) =
      o.usages.alike (usage m) (λ x. x) _ (mapped norm_usage P _ (each-kept _ level xs written)) in
      each-fixed (usage m) _ fixed

  -- ---- geoid models

  models-by : (b : Bool) (xs : List NamedParts) →
      IsLeft (λ models. if b then [] else map (named m class.GeoidModel) models) (set_geoid_models level) xs
  unfolding set_geoid_models
  models-by true xs = refl
  models-by false xs =
      set-again (λ x. item_text (item_geoid_model x)) (named m class.GeoidModel) (norm_geoid_model level) o.geoid_models
      (member-fixed m s o level class.GeoidModel) xs

  -- ---- bases

  own-by : (z : Bool) (u : Option UnitParts) → (z || is_some (if z then None else norm_units level kinds.Angle (units m u))) ≡ (z || is_some u)
  own-by true u = refl
  own-by false None = refl
  own-by false (Some u) = refl

  own-stays : (y : Option MeridianParts) → has_own_unit (norm_meridian level (option_map (meridian m) y)) ≡ has_own_unit y
  own-stays None = refl
  own-stays (Some y) = own-by (is_zero y.longitude) y.unit

  -- what is written of a prime meridian it leaves as it is
  abbrev IsMeridianLeft : Option MeridianParts → Type 0
  IsMeridianLeft y =
      option_map (meridian m) (norm_meridian level (option_map (meridian m) y)) ≡ norm_meridian level (option_map (meridian m) y)

  abbrev with_meridian : Option UnitParts → Option MeridianParts → Option MeridianParts
  with_meridian q x = option_map (completed_meridian q) (norm_meridian level x)

  meridians-left : (q : Option UnitParts) → IsAngle m s o level q → (x : Option MeridianParts) → IsMeridianLeft (with_meridian q x)
  meridians-left q h None =
      ap (λ y. Some y) (meridian-left m s o level (completed_meridian q (given m s o level None)) (given-angle m s o level q h None))
  meridians-left q h (Some x) =
      ap (λ y. Some y) (meridian-left m s o level (completed_meridian q (given m s o level (Some x))) (given-angle m s o level q h (Some x)))

  meridians-complete : (q t : Option UnitParts) → (q ≡ None → t ≡ None) → (x : Option MeridianParts) →
      with_meridian t (option_map (meridian m) (with_meridian q x)) ≡ norm_meridian level (option_map (meridian m) (with_meridian q x))
  meridians-complete q t h None = ap (λ y. Some y) (meridian-complete m s o level q t h (given m s o level None))
  meridians-complete q t h (Some x) = ap (λ y. Some y) (meridian-complete m s o level q t h (given m s o level (Some x)))

  told-none : (is : Bool) (p q : Option UnitParts) → (p ≡ None → q ≡ None) → told is p ≡ None → told is q ≡ None
  told-none true p q f e = f e
  told-none false p q f e = refl

  unit-there : (u : Option UnitParts) → is_some (norm_units level kinds.Plain (units m u)) ≡ is_some u
  unit-there u = grind arith

  all-there : (ps : List ParameterParts) →
      list_all (λ p. is_some p.unit) (map (norm_parameter level) (map (parameter m) ps)) ≡ list_all (λ p. is_some p.unit) ps
  all-there ps = simp (list_all-map, unit-there)

  all-stay : (ps : List ParameterParts) → Each IsParameter (map (parameter m) ps) →
      list_all (λ p. is_some p.unit) (set_parameters level (map (parameter m) ps)) ≡ list_all (λ p. is_some p.unit) ps
  all-stay ps h = o.tested level (λ p. is_some p.unit) (map (parameter m) ps) h ∙ all-there ps

  counted-unit : (k : Bool) (u : Option UnitParts) → IsAgain (λ o. counted k (units m o)) (norm_units level kinds.Angle) u
  counted-unit true u = refl
  counted-unit false u = units-again m s o level kinds.Angle u

  ruleset parts_again = (counted-name-twice, dynamics-again, frame-again, meridian-again, counted-unit, models-by, usages-again)

  module _ (h : IsSoundMeaning m) where
    -- ---- CRSs whose systems are put so

    module _ (put : SystemParts → SystemParts) where
      abbrev system_form : SystemParts → SystemParts
      system_form t = put (system m (norm_system level t))

      -- a geodetic CRS in its one form with this prime meridian, as it is written
      abbrev written_geodetic : Option MeridianParts → GeodeticParts → GeodeticParts
      written_geodetic y g =
          record (geodetic m (record (norm_geodetic level g) { meridian = y })) { system = system_form g.system }

      -- the unit that its prime meridian may leave out, and the prime meridian with it
      abbrev axes_unit : GeodeticParts → Option UnitParts
      axes_unit g = told m.uncounted.meridian_units (shared kinds.Angle (system m (norm_system level g.system)).axes)

      abbrev geodetic_meridian : GeodeticParts → Option MeridianParts
      geodetic_meridian g = with_meridian (axes_unit g) g.meridian

      abbrev geodetic_form : GeodeticParts → GeodeticParts
      geodetic_form g = written_geodetic (geodetic_meridian g) g

      -- a projected CRS in its one form with this prime meridian and these parameters, as it is written
      abbrev written_form : Option MeridianParts → List ParameterParts → ProjectedParts → ProjectedParts
      written_form y ps x =
          let n : ProjectedParts = norm_projected level x in
          record (projected m (record n { base = record n.base { meridian = y }; conversion = record n.conversion { parameters = ps } })) {
            system = system_form x.system;
          }

      -- the unit that its prime meridian may leave out, and the prime meridian with it
      abbrev base_unit : ProjectedParts → Option UnitParts
      base_unit x = told m.uncounted.meridian_units (option_map bare (norm_units level kinds.Angle x.base.unit))

      abbrev base_meridian : ProjectedParts → Option MeridianParts
      base_meridian x = with_meridian (base_unit x) x.base.meridian

      -- its own parameters, with the units that they leave out
      abbrev complete : ProjectedParts → List ParameterParts
      complete x = (explicit m (norm_projected level x)).conversion.parameters

      abbrev projected_form : ProjectedParts → ProjectedParts
      projected_form x = written_form (base_meridian x) (complete x) x

      abbrev vertical_form : VerticalParts → VerticalParts
      vertical_form v = record (vertical m (norm_vertical level v)) { system = system_form v.system }

      abbrev compound_form : (Horizontal → Horizontal) → CompoundParts → CompoundParts
      compound_form form d =
          record (compound m (norm_compound level d)) { horizontal = form d.horizontal; vertical = vertical_form d.vertical }

      -- the unit of a kind that all axes have that have one of it is there again
      abbrev IsUnitKept : SystemParts → Type 0
      IsUnitKept t =
          (kind : UnitKind) → norm_system level (norm_system level t) ≡ norm_system level t →
          shared kind (system m (norm_system level (system_form t))).axes ≡ shared kind (system m (norm_system level t)).axes

      module _ (stays : (t : SystemParts) → Stays (norm_system level) system_form t) (kept : (t : SystemParts) → IsUnitKept t) where
        written-geodetic-stays : (y : Option MeridianParts) → IsMeridianLeft y → (g : GeodeticParts) →
            norm_geodetic level (norm_geodetic level (written_geodetic y g)) ≡ norm_geodetic level (written_geodetic y g) →
            norm_geodetic level (written_geodetic (norm_geodetic level (written_geodetic y g)).meridian (written_geodetic y g))
            ≡ norm_geodetic level (written_geodetic y g)
        written-geodetic-stays y k g e =
            let t = stays g.system (ap (λ (z : GeodeticParts). z.system) e) in
            simp (parts_again, k) (λ i. record (e i) { system = t i })

        axes-angle : (g : GeodeticParts) → IsAngle m s o level (axes_unit g)
        axes-angle g =
            told-sound (λ u. kind_as kinds.Angle u.kind ≡ u.kind) m.uncounted.meridian_units _
            (some-weaker (λ u. u.kind ≡ kinds.Angle) (λ u. kind_as kinds.Angle u.kind ≡ u.kind) (λ u e. rw e refl) _
            (shared-kind kinds.Angle (system m (norm_system level g.system)).axes))

        geodetic-stays : (g : GeodeticParts) → norm_geodetic level (norm_geodetic level g) ≡ norm_geodetic level g →
            Stays (norm_geodetic level) geodetic_form g
        geodetic-stays g q e =
            let units = kept g.system kinds.Angle (ap (λ (z : GeodeticParts). z.system) q) in
            ap (λ y. norm_geodetic level (written_geodetic y (geodetic_form g)))
            (meridians-complete (axes_unit g) (axes_unit (geodetic_form g)) (λ n. ap (told m.uncounted.meridian_units) units ∙ n) g.meridian)
            ∙ written-geodetic-stays (geodetic_meridian g) (meridians-left (axes_unit g) (axes-angle g) g.meridian) g e

        written-stays : (y : Option MeridianParts) → IsMeridianLeft y → (ps : List ParameterParts) → Each IsParameter ps → (x : ProjectedParts) →
            norm_projected level (norm_projected level (written_form y ps x)) ≡ norm_projected level (written_form y ps x) →
            norm_projected level
            (written_form (norm_projected level (written_form y ps x)).base.meridian
            (norm_projected level (written_form y ps x)).conversion.parameters (written_form y ps x))
            ≡ norm_projected level (written_form y ps x)
        written-stays y l ps k x e =
            let t = stays x.system (ap (λ (z : ProjectedParts). z.system) e) in
            let written = each-map IsParameter (parameter m) ps (parameter-sound m h) k in
            simp (own-stays, all-stay _ written, parts_again, s.name, parameters-again, l) (λ i. record (e i) { system = t i })

        bare-none : (c : Bool) (u : Option UnitParts) → option_map bare u ≡ None →
            option_map bare (norm_units level kinds.Angle (counted c (units m u))) ≡ None
        bare-none true u e = refl
        bare-none false None e = refl
        bare-none false (Some u) e = absurd cc

        complete-stays : (x : ProjectedParts) → norm_projected level (norm_projected level x) ≡ norm_projected level x →
            complete (projected_form x) ≡ (norm_projected level (projected_form x)).conversion.parameters
        complete-stays x q =
            parameters-complete m s o level (missing_unit m (norm_projected level x)) (missing_unit m (norm_projected level (projected_form x)))
            (stay-missing _ _ _ _ (bare-none _ (norm_units level kinds.Angle x.base.unit))
            (λ e. kept x.system kinds.Length (ap (λ (z : ProjectedParts). z.system) q) ∙ e))
            (set_parameters level x.conversion.parameters)

        bare-angle : (u : Option UnitParts) → IsAngle m s o level (option_map bare (norm_units level kinds.Angle u))
        bare-angle None = search arith
        bare-angle (Some u) = kind-twice kinds.Angle u.kind

        base-angle : (x : ProjectedParts) → IsAngle m s o level (base_unit x)
        base-angle x = told-sound (λ u. kind_as kinds.Angle u.kind ≡ u.kind) m.uncounted.meridian_units _ (bare-angle x.base.unit)

        projected-stays : (x : ProjectedParts) → IsProjected (norm_projected level x) →
            norm_projected level (norm_projected level x) ≡ norm_projected level x → Stays (norm_projected level) projected_form x
        projected-stays x k q e =
            let params = complete-stays x q in
            let meridian =
            meridians-complete (base_unit x) (base_unit (projected_form x))
            (told-none m.uncounted.meridian_units _ _ (bare-none _ (norm_units level kinds.Angle x.base.unit))) x.base.meridian in
            (λ i. norm_projected level (written_form (meridian i) (params i) (projected_form x)))
            ∙ written-stays (base_meridian x) (meridians-left (base_unit x) (base-angle x) x.base.meridian) (complete x)
            (explicit-sound m h (norm_projected level x) k).conversion.parameters x e

        vertical-stays : (v : VerticalParts) → Stays (norm_vertical level) vertical_form v
        vertical-stays v e =
            let t = stays v.system (ap (λ (z : VerticalParts). z.system) e) in
            simp parts_again (λ i. record (e i) { system = t i })

        compound-stays : (form : Horizontal → Horizontal) (d : CompoundParts) → Stays (norm_horizontal level) form d.horizontal →
            Stays (norm_compound level) (compound_form form) d
        compound-stays form d across e =
            let x = across (ap (λ (z : CompoundParts). z.horizontal) e) in
            let v = vertical-stays d.vertical (ap (λ (z : CompoundParts). z.vertical) e) in
            rw (x, v) (simp parts_again (λ i. record (norm_compound level (compound_form form d)) { tail = (e i).tail }))

    -- ---- where the order of axes counts

    module _ (c : m.uncounted.axis_order ≡ false) where
      abbrev as_is : SystemParts → SystemParts
      as_is t = t

      kept-stays : (t : SystemParts) → Stays (norm_system level) (system_form as_is) t
      kept-stays t e = ap (norm_system level) (system-again m s o level c t) ∙ e

      kept-units : (t : SystemParts) → IsUnitKept as_is t
      kept-units t kind e =
          ap (λ (z : SystemParts). shared kind z.axes) (system-again m s o level c t) ∙ shared-kept m s o level kind c t e

      across-renamed : (x : Horizontal) → IsHorizontal (norm_horizontal level x) →
          norm_horizontal level (norm_horizontal level x) ≡ norm_horizontal level x →
          Stays (norm_horizontal level) (λ z. across m (norm_horizontal level z)) x
      across-renamed (horizontals.Geodetic g) k q e =
          let n : norm_geodetic level (norm_geodetic level g) ≡ norm_geodetic level g = cc in
          ap horizontals.Geodetic (geodetic-stays as_is kept-stays kept-units g n cc)
      across-renamed (horizontals.Projected p) k q e =
          let n : norm_projected level (norm_projected level p) ≡ norm_projected level p = cc in
          ap horizontals.Projected (projected-stays as_is kept-stays kept-units p k.0 n cc)

      renamed-stays : (x : Crs) → IsCrs (norm_crs level x) → norm_crs level (norm_crs level x) ≡ norm_crs level x →
          Stays (norm_crs level) (λ z. renamed m (norm_crs level z)) x
      renamed-stays (crs.Geodetic g) k q e =
          let n : norm_geodetic level (norm_geodetic level g) ≡ norm_geodetic level g = cc in
          ap crs.Geodetic (geodetic-stays as_is kept-stays kept-units g n cc)
      renamed-stays (crs.Projected p) k q e =
          let n : norm_projected level (norm_projected level p) ≡ norm_projected level p = cc in
          ap crs.Projected (projected-stays as_is kept-stays kept-units p k n cc)
      renamed-stays (crs.Vertical v) k q e = ap crs.Vertical (vertical-stays as_is kept-stays kept-units v cc)
      renamed-stays (crs.Compound d) k q e =
          let n : norm_compound level (norm_compound level d) ≡ norm_compound level d = cc in
          ap crs.Compound
          (compound-stays as_is kept-stays kept-units (λ z. across m (norm_horizontal level z)) d
          (across-renamed d.horizontal k.horizontal (ap (λ (z : CompoundParts). z.horizontal) n)) cc)

    -- ---- where it doesn't

    module _ (c : m.uncounted.axis_order ≡ true) (text : AxisParts → List ℕ) where
      system-stays : (t : SystemParts) → Stays (norm_system level) (system_form (arranged text)) t
      system-stays t e = ap (norm_system level) (arranged-again m s o level c text t)

      arranged-units : (t : SystemParts) → IsUnitKept (arranged text) t
      arranged-units t kind e =
          ap (λ (xs : List AxisParts). shared kind xs) (arranged-axes m s o level c text t)
          ∙ shared-ascending kind text (system m (norm_system level t)).axes

      across-arranged : (x : Horizontal) → IsHorizontal (norm_horizontal level x) →
          norm_horizontal level (norm_horizontal level x) ≡ norm_horizontal level x →
          Stays (norm_horizontal level) (λ z. arranged_across text (across m (norm_horizontal level z))) x
      across-arranged (horizontals.Geodetic g) k q e =
          let n : norm_geodetic level (norm_geodetic level g) ≡ norm_geodetic level g = cc in
          ap horizontals.Geodetic (geodetic-stays (arranged text) system-stays arranged-units g n cc)
      across-arranged (horizontals.Projected p) k q e =
          let n : norm_projected level (norm_projected level p) ≡ norm_projected level p = cc in
          ap horizontals.Projected (projected-stays (arranged text) system-stays arranged-units p k.0 n cc)

      arranged-stays : (x : Crs) → IsCrs (norm_crs level x) → norm_crs level (norm_crs level x) ≡ norm_crs level x →
          Stays (norm_crs level) (λ z. arranged_crs text (renamed m (norm_crs level z))) x
      arranged-stays (crs.Geodetic g) k q e =
          let n : norm_geodetic level (norm_geodetic level g) ≡ norm_geodetic level g = cc in
          ap crs.Geodetic (geodetic-stays (arranged text) system-stays arranged-units g n cc)
      arranged-stays (crs.Projected p) k q e =
          let n : norm_projected level (norm_projected level p) ≡ norm_projected level p = cc in
          ap crs.Projected (projected-stays (arranged text) system-stays arranged-units p k n cc)
      arranged-stays (crs.Vertical v) k q e = ap crs.Vertical (vertical-stays (arranged text) system-stays arranged-units v cc)
      arranged-stays (crs.Compound d) k q e =
          let n : norm_compound level (norm_compound level d) ≡ norm_compound level d = cc in
          ap crs.Compound
          (compound-stays (arranged text) system-stays arranged-units (λ z. arranged_across text (across m (norm_horizontal level z))) d
          (across-arranged d.horizontal k.horizontal (ap (λ (z : CompoundParts). z.horizontal) n)) cc)

    -- ---- both

    abbrev either : (AxisParts → List ℕ) → Bool → Crs → Crs
    either text b x = if b then arranged_crs text (renamed m x) else renamed m x

    either-stays : (text : AxisParts → List ℕ) (b : Bool) → m.uncounted.axis_order ≡ b → (x : Crs) → IsCrs (norm_crs level x) →
        norm_crs level (norm_crs level x) ≡ norm_crs level x → Stays (norm_crs level) (λ z. either text b (norm_crs level z)) x
    either-stays text true c x k q e = arranged-stays c text x k q e
    either-stays text false c x k q e = renamed-stays c x k q e

    -- the one form of a rewritten CRS is that of itself rewritten
    pub rewritten-stays : (text : AxisParts → List ℕ) (x : Crs) → IsCrs (norm_crs level x) →
        norm_crs level (norm_crs level x) ≡ norm_crs level x → Stays (norm_crs level) (λ z. rewritten text m (norm_crs level z)) x
    rewritten-stays text x k q e = either-stays text m.uncounted.axis_order refl x k q e
