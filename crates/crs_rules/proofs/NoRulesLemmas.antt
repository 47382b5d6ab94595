-- No rules change nothing, so forms are canonical texts.
use Rattle.std.proofs.Common.{◌≡◌, ◌↔◌, ◌∙◌, ℕ, Bool, true, false, List, [], ◌∷◌, map, ap, refl, sym}
use Rattle.std.proofs.lemmas.Iterator.Adapters.{option_map_id}
use Rattle.std.proofs.lemmas.List.{map-id}
use Rattle.crs_shape.specs.declared.class.Class.{Class}
use Rattle.crs_value.specs.inner.Prelude.{AxisParts, GeodeticParts, ProjectedParts}
use Rattle.crs_value.specs.declared.values.compound.Horizontal.{Horizontal}
use Rattle.crs_value.specs.declared.values.compound.Horizontal.TheVariants as horizontals
use Rattle.crs_value.specs.declared.values.crs.Crs.{Crs}
use Rattle.crs_value.specs.declared.values.crs.Crs.TheVariants as crs
use Rattle.crs_value.specs.declared.values.frame.Frame.{Frame}
use Rattle.crs_value.specs.declared.values.frame.Frame.TheVariants as frames
use Rattle.crs_value.specs.declared.values.level.Level.{Level}
use Rattle.crs_value.specs.declared.values.level.Level.TheVariants as levels
use Rattle.crs_normal.specs.inner.Prelude.{axis_text}
use Rattle.crs_writer.specs.inner.Prelude.{IsCanonicalOf}
use Rattle.crs_canon.specs.MainTheorem.{MainTheorem}
use Rattle.crs_rules.specs.FormOrder.{in_form_order, put_across, put_crs}
use Rattle.crs_rules.specs.ReorderedAxes.{unordered}
use Rattle.crs_rules.specs.Rules.{Meaning, meaning, no_rules, nothing}
use Rattle.crs_rules.specs.inner.AnyOrder.{axes_in_any_order}
use Rattle.crs_rules.specs.inner.Sinking.{axes_across, axes_along, axes_up}
use Rattle.crs_rules.specs.Rewritten.{across, ascending, axis, dynamic, ellipsoid, explicit, explicit_geodetic, extent, frame_or_ensemble, geodetic, meridian, parameter, projected, renamed, rewritten, usage, AreTextsOfAxes, IsForm}
use Rattle.crs_rules.proofs.FormOrderLemmas.{kept-by}
use Rattle.crs_rules.proofs.LeftOutLemmas.{geodetic-untold, projected-untold}

abbrev ChangesNothing : {A : Type 0} → (A → A) → Type 0
ChangesNothing {A} f = ◌≡◌ {A = A → A} (λ x. f x) (λ x. x)

-- what rules do by which all counts, or all but the order of axes
abbrev plain : Bool → Meaning
plain o = meaning (record no_rules { uncounted = record nothing { axis_order = o } })

ellipsoid-same : (o : Bool) → ChangesNothing (ellipsoid (plain o))
ellipsoid-same o = simp option_map_id

meridian-same : (o : Bool) → ChangesNothing (meridian (plain o))
meridian-same o = simp option_map_id

dynamic-same : (o : Bool) → ChangesNothing (dynamic (plain o))
dynamic-same o = simp option_map_id

extent-same : (o : Bool) → ChangesNothing (extent (plain o))
extent-same o = simp option_map_id

usage-same : (o : Bool) → ChangesNothing (usage (plain o))
usage-same o = simp (extent-same, option_map_id)

parameter-same : (o : Bool) → ChangesNothing (parameter (plain o))
parameter-same o = simp option_map_id

frame-same : (o : Bool) (c d : Class) (f : Frame) → frame_or_ensemble (plain o) c d f ≡ f
frame-same o c d (frames.Datum x) = simp (ellipsoid-same, option_map_id)
frame-same o c d (frames.Ensemble e) = simp (ellipsoid-same, option_map_id, map-id)

ruleset parts_same = (meridian-same, dynamic-same, usage-same, parameter-same, frame-same, option_map_id, map-id)

abbrev AxesStay : Bool → List AxisParts → Type 0
AxesStay o axes = map (axis (plain o)) axes ≡ axes

geodetic-same : (o : Bool) (g : GeodeticParts) → AxesStay o g.system.axes → geodetic (plain o) (explicit_geodetic (plain o) g) ≡ g
geodetic-same o g e =
    let same : geodetic (plain o) g ≡ g = simp (e, parts_same) in
    ap (geodetic (plain o)) (geodetic-untold (plain o) refl g) ∙ same

projected-same : (o : Bool) (p : ProjectedParts) → AxesStay o p.system.axes → projected (plain o) (explicit (plain o) p) ≡ p
projected-same o p e =
    let same : projected (plain o) p ≡ p = simp (e, parts_same) in
    ap (projected (plain o)) (projected-untold (plain o) refl (λ n. refl) p) ∙ same

across-same : (o : Bool) (h : Horizontal) → AxesStay o (axes_along h) → across (plain o) h ≡ h
across-same o (horizontals.Geodetic g) e = ap horizontals.Geodetic (geodetic-same o g e)
across-same o (horizontals.Projected p) e = ap horizontals.Projected (projected-same o p e)

unchanged : (o : Bool) (x : Crs) → AxesStay o (axes_across x) → AxesStay o (axes_up x) → renamed (plain o) x ≡ x
unchanged o (crs.Geodetic g) e h = ap crs.Geodetic (geodetic-same o g e)
unchanged o (crs.Projected p) e h = ap crs.Projected (projected-same o p e)
unchanged o (crs.Vertical v) e h = simp (h, parts_same)
unchanged o (crs.Compound c) e h = let across = across-same o c.horizontal e in simp (across, h, parts_same)

axes-stay : (axes : List AxisParts) → AxesStay false axes
axes-stay [] = refl
axes-stay (a ∷ axes) = let others = axes-stay axes in simp (others, option_map_id)

pub nothing-changes : (text : AxisParts → List ℕ) (x : Crs) → rewritten text (meaning no_rules) x ≡ x
nothing-changes text x = unchanged false x (axes-stay (axes_across x)) (axes-stay (axes_up x))

-- ---- where the order of axes alone doesn't count, a CRS whose axes are in the order of the form stays

unordered-stay : (axes : List AxisParts) → AxesStay true (map unordered axes)
unordered-stay [] = refl
unordered-stay (a ∷ axes) = let others = unordered-stay axes in simp (others, option_map_id)

put-stays : (text : AxisParts → List ℕ) (x : Crs) → renamed (meaning axes_in_any_order) (put_crs text x) ≡ put_crs text x
put-stays text (crs.Geodetic g) = unchanged true (put_crs text (crs.Geodetic g)) (unordered-stay (ascending text g.system.axes)) refl
put-stays text (crs.Projected p) = unchanged true (put_crs text (crs.Projected p)) (unordered-stay (ascending text p.system.axes)) refl
put-stays text (crs.Vertical v) = unchanged true (put_crs text (crs.Vertical v)) refl (unordered-stay (ascending text v.system.axes))
put-stays text (crs.Compound c) =
    unchanged true (put_crs text (crs.Compound c)) (along c.horizontal) (unordered-stay (ascending text c.vertical.system.axes))
  where
    along : (h : Horizontal) → AxesStay true (axes_along (put_across text h))
    along (horizontals.Geodetic g) = unordered-stay (ascending text g.system.axes)
    along (horizontals.Projected p) = unordered-stay (ascending text p.system.axes)

pub any-order : (text : AxisParts → List ℕ) (x : Crs) →
    rewritten text (meaning axes_in_any_order) x ≡ in_form_order text (meaning axes_in_any_order) x
any-order text x =
    sym (kept-by text (meaning axes_in_any_order) x true refl) ∙ put-stays (λ a. text (axis (meaning axes_in_any_order) a)) x

pub forms-are-canonical : (level : Level) → MainTheorem level →
    ((text bytes again : List ℕ) → IsCanonicalOf level text bytes → IsCanonicalOf level bytes again → again ≡ bytes) →
    AreTextsOfAxes (axis_text levels.Full) → (text bytes : List ℕ) → IsForm no_rules level text bytes ↔ IsCanonicalOf level text bytes
forms-are-canonical level m own x text bytes = (
  λ f.
      let e =
      own text f.canonical bytes f.is_canonical (f.value, f.spells, rw (nothing-changes f.axis_text f.value) at f.form) in
      rw e f.is_canonical,
  λ c.
      let o = m.own text bytes c in
      record {
        canonical = bytes;
        is_canonical = c;
        value = o.0;
        spells = o.1;
        axis_text = axis_text levels.Full;
        are_axis_texts = x;
        form = rw (nothing-changes (axis_text levels.Full) o.0) o.2;
      },
)
