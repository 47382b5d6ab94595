-- What rules write they leave as it is: parts that are rewritten and put in their one form stay when they are rewritten.
use Rattle.std.proofs.Common.{◌≡◌, ℕ, zero, suc, ◌+◌, Bool, true, false, Option, Some, None, List, [], ◌∷◌, refl, ap, map, length, if◌then◌else◌, arith}
use Rattle.std.specs.Option.{option_map}
use Rattle.crs_shape.specs.declared.class.Class.{Class}
use Rattle.crs_shape.specs.declared.class.Class.TheVariants as class
use Rattle.crs_shape.specs.declared.unit_kind.UnitKind.{UnitKind}
use Rattle.crs_shape.specs.declared.unit_kind.UnitKind.TheVariants as kinds
use Rattle.crs_shape.specs.inner.Prelude.{kind_as}
use Rattle.crs_value.specs.inner.Prelude.{ParameterParts, DynamicParts, frame_of, NamedParts, own_or, AxisMeridianParts, AxisParts, DatumParts, EllipsoidParts, EnsembleParts, MeridianParts, SystemParts, UnitParts}
use Rattle.crs_value.specs.Sound.{Each}
use Rattle.crs_value.specs.declared.values.frame.Frame.{Frame}
use Rattle.crs_value.specs.declared.values.frame.Frame.TheVariants as frames
use Rattle.crs_value.specs.declared.values.level.Level.{Level}
use Rattle.crs_normal.specs.inner.Prelude.{StaysInOrder, in_order, item_parameter, norm_parameter, set_parameters, norm_dynamic, is_zero, item_member, norm_datum, norm_ellipsoid, norm_ensemble, norm_frame, norm_member, norm_meridian, set_members, axes_from, axis_at, is_at, norm_axis, norm_axis_meridians, norm_system, with_axis, norm_length, norm_unit, norm_units, set_idents}
use Rattle.crs_text.specs.inner.Prelude.{item_text}
use Rattle.crs_rules.specs.inner.LowerLaws.{SetLaws}
use Rattle.crs_rules.specs.Rewritten.{axis, axis_meridian, counted, counted_frame, counted_name, datum, dynamic, ellipsoid, ensemble, frame_or_ensemble, meridian, named, parameter, system, units}
use Rattle.crs_rules.specs.Rules.{Meaning, without_ensemble}
use Rattle.crs_rules.proofs.PartLemmas.{choice}
use Rattle.crs_rules.proofs.SteadyLemmas.{IsSteady}

pub kind-twice : (asked kind : UnitKind) → kind_as asked (kind_as asked kind) ≡ kind_as asked kind
kind-twice asked kind = grind arith

pub plain-kind : (kind : UnitKind) → kind_as kinds.Plain kind ≡ kind
plain-kind kind = grind arith

pub counted-name-again : (b : Bool) (f : List ℕ → List ℕ) (n : List ℕ) → f (f n) ≡ f n →
    counted_name b (f (counted_name b (f n))) ≡ counted_name b (f n)
counted-name-again true f n h = refl
counted-name-again false f n h = h

pub counted-name-twice : (b : Bool) (n : List ℕ) → counted_name b (counted_name b n) ≡ counted_name b n
counted-name-twice b n = counted-name-again b (λ x. x) n refl

counted-again : {A : Type 0} (b : Bool) (x : Option A) → counted b (counted b x) ≡ counted b x
counted-again true x = refl
counted-again false x = refl

pub each-fixed : {A : Type 0} (f : A → A) (xs : List A) → Each (λ x. f x ≡ x) xs → map f xs ≡ xs
each-fixed f [] h = refl
each-fixed f (x ∷ xs) h = let t = each-fixed f xs h.1 in λ i. h.0 i ∷ t i

pub each-all : {A : Type 0} (P : A → Type 0) → ((x : A) → P x) → (xs : List A) → Each P xs
each-all P h [] = tt
each-all P h (x ∷ xs) = (h x, each-all P h xs)

pub mapped : {A B : Type 0} (f : A → B) (Q : B → Type 0) (xs : List A) → Each (λ x. Q (f x)) xs → Each Q (map f xs)
mapped f Q [] h = tt
mapped f Q (x ∷ xs) h = (h.0, mapped f Q xs h.1)

-- what a function wrote it leaves as it is, when that was put in its one form
abbrev pub IsLeft : {A : Type 0} → (A → A) → (A → A) → A → Type 0
IsLeft f norm x = f (norm (f x)) ≡ norm (f x)

abbrev pub IsAgain : {A : Type 0} → (A → A) → (A → A) → A → Type 0
IsAgain f norm x = IsLeft f norm (norm x)

-- it does so in parts that may be missing and in sets, where it does so in one of them
pub some-again : {A : Type 0} (f n : A → A) → ((x : A) → IsAgain f n x) → (o : Option A) →
    IsAgain (option_map f) (option_map n) o
some-again f n h None = refl
some-again f n h (Some x) = ap (λ y. Some y) (h x)

pub set-again : {A : Type 0} (text : A → List ℕ) (f n : A → A) → StaysInOrder text → ((x : A) → IsLeft f n x) →
    (xs : List A) → IsLeft (map f) (λ ys. in_order text (map n ys)) xs
set-again text f n l h xs =
    let all : Each (λ x. f x ≡ x) (map n (map f xs)) = search (mapped, each-all, h) in
    let fixed : Each (λ x. f x ≡ x) (in_order text (map n (map f xs))) = l.alike f (λ x. x) (map n (map f xs)) all in
    each-fixed f _ fixed

-- what the axes of a system in its one form have, where it is shown of each that is written at a position
module _ (level : Level) (R Q : AxisParts → Type 0) (t : SystemParts) (f : (k : ℕ) (x : AxisParts) → Q x → R (norm_axis level t k x)) where
  each-at : (k place : ℕ) (xs rest : List AxisParts) → Each Q xs → Each R rest → Each R (with_axis level t k (axis_at k place xs) rest)
  each-at k place [] rest h g = g
  each-at k place (x ∷ xs) rest h g =
      choice (λ o. Each R (with_axis level t k o rest)) (is_at k place x.order) (Some x) (axis_at k (place + 1) xs) (f k x h.0, g)
      (each-at k (place + 1) xs rest h.1 g)

  each-from : Each Q t.axes → (k n : ℕ) → Each R (axes_from level t k n)
  each-from h k zero = tt
  each-from h k (suc n) = each-at k 1 t.axes (axes_from level t (k + 1) n) h (each-from h (k + 1) n)

  pub each-axis : Each Q t.axes → Each R (norm_system level t).axes
  each-axis h = each-from h 1 (length t.axes)

pub any-axis : (level : Level) (R : AxisParts → Type 0) (t : SystemParts) → ((k : ℕ) (x : AxisParts) → R (norm_axis level t k x)) →
    Each R (norm_system level t).axes
any-axis level R t f = each-axis level R (λ x. Unit {0}) t (λ k x u. f k x) (each-all (λ x. Unit {0}) (λ x. tt) t.axes)

module _ (m : Meaning) (s : IsSteady m) (o : SetLaws) (level : Level) where
  -- ---- units

  pub unit-again : (asked : UnitKind) (u : UnitParts) → kind_as asked u.kind ≡ u.kind → IsLeft m.unit (norm_unit level asked) u
  unit-again asked u e =
      let k : kind_as asked (m.unit u).kind ≡ (m.unit u).kind = rw (s.kinds.kind u) e in
      rw k (s.unit u (set_idents level (m.unit u).identifiers))

  pub units-again : (asked : UnitKind) (o : Option UnitParts) → IsAgain (units m) (norm_units level asked) o
  units-again asked =
      some-again m.unit (norm_unit level asked) (λ u. unit-again asked (norm_unit level asked u) (kind-twice asked u.kind))

  pub length-kind : (o : Option UnitParts) → kind_as kinds.Length (norm_length level o).kind ≡ (norm_length level o).kind
  length-kind None = refl
  length-kind (Some u) = kind-twice kinds.Length u.kind

  -- ---- frames

  pub ellipsoid-again : (e : EllipsoidParts) → IsAgain (ellipsoid m) (norm_ellipsoid level) e
  ellipsoid-again e = simp (s.name, unit-again kinds.Length (norm_length level e.unit) (length-kind e.unit))

  given-unit : (zero : Bool) (o : Option UnitParts) →
      IsAgain (units m) (λ p. if zero then None else norm_units level kinds.Angle p) o
  given-unit true o = refl
  given-unit false o = units-again kinds.Angle o

  pub meridian-again : (x : Option MeridianParts) → IsAgain (option_map (meridian m)) (norm_meridian level) x
  meridian-again None = simp s.name
  meridian-again (Some x) = simp (s.name, given-unit (is_zero x.longitude) x.unit)

  datum-again : (c : Class) (d : DatumParts) → IsAgain (datum m c) (norm_datum level) d
  datum-again c d = simp (s.name, some-again (ellipsoid m) (norm_ellipsoid level) ellipsoid-again, counted-again)

  pub member-fixed : (c : Class) (n : NamedParts) → IsLeft (named m c) (norm_member level) n
  member-fixed c n = simp s.name

  members-again : (c : Class) (ms : List NamedParts) → IsLeft (map (named m c)) (set_members level) ms
  unfolding set_members
  members-again c ms = set-again (λ x. item_text (item_member x)) (named m c) (norm_member level) o.members (member-fixed c) ms

  ensemble-again : (c : Class) (e : EnsembleParts) → IsAgain (ensemble m c) (norm_ensemble level) e
  ensemble-again c e = simp (s.name, members-again, some-again (ellipsoid m) (norm_ellipsoid level) ellipsoid-again)

  -- a frame, where ensembles count or not
  abbrev framed : Class → Class → Bool → Frame → Frame
  framed c d uncounted f = frame_or_ensemble m c d (counted_frame uncounted f)

  pub frame-again : (c d : Class) (uncounted : Bool) (f : Frame) → IsAgain (framed c d uncounted) (norm_frame level) f
  frame-again c d true (frames.Datum x) = ap frames.Datum (datum-again c x)
  frame-again c d false (frames.Datum x) = ap frames.Datum (datum-again c x)
  frame-again c d true (frames.Ensemble e) =
      ap frames.Datum (datum-again c (frame_of (record e { name = without_ensemble e.name })))
  frame-again c d false (frames.Ensemble e) = ap frames.Ensemble (ensemble-again d e)

  dynamic-again : (d : DynamicParts) → IsAgain (dynamic m) (norm_dynamic level) d
  dynamic-again d =
      simp (some-again (named m class.DeformationModel) (norm_member level) (λ x. member-fixed class.DeformationModel (norm_member level x)))

  pub dynamics-again : (uncounted : Bool) (d : Option DynamicParts) →
      IsAgain (λ o. counted uncounted (option_map (dynamic m) o)) (option_map (norm_dynamic level)) d
  dynamics-again true d = refl
  dynamics-again false d = some-again (dynamic m) (norm_dynamic level) dynamic-again d

  -- ---- coordinate systems

  along-again : (x : Option AxisMeridianParts) → IsAgain (option_map (axis_meridian m)) (norm_axis_meridians level) x
  along-again None = refl
  along-again (Some x) = simp (unit-again kinds.Angle (norm_unit level kinds.Angle x.unit) (kind-twice kinds.Angle x.unit.kind))

  own-again : (asked : UnitKind) (o : Option UnitParts) →
      IsLeft (units m) (λ p. norm_units level asked (own_or p None)) (norm_units level asked o)
  own-again asked None = refl
  own-again asked (Some u) = units-again asked (Some u)

  axis-again : m.uncounted.axis_order ≡ false → (t : SystemParts) (k j : ℕ) (y : AxisParts) → (r : SystemParts) →
      r.unit ≡ None → r.system_type ≡ t.system_type →
      axis m (norm_axis level r j (axis m (norm_axis level t k y))) ≡ norm_axis level r j (axis m (norm_axis level t k y))
  unfolding norm_axis
  axis-again c t k j y r e f =
      simp (
        c,
        e,
        f,
        counted-name-again m.uncounted.axis_names (m.name class.Axis) y.name (s.name class.Axis y.name),
        along-again,
        own-again,
      )

  pub system-again : m.uncounted.axis_order ≡ false → (t : SystemParts) → IsAgain (system m) (norm_system level) t
  system-again c t =
      let r : SystemParts = system m (norm_system level t) in
      let Q : AxisParts → Type 0 = λ x. (j : ℕ) → axis m (norm_axis level r j x) ≡ norm_axis level r j x in
      let written : Each (λ x. Q (axis m x)) (norm_system level t).axes =
      any-axis level (λ x. Q (axis m x)) t (λ k y j. axis-again c t k j y r refl refl) in
      let fixed = each-axis level (λ x. axis m x ≡ x) Q r (λ k x h. h k) (mapped (axis m) (λ x. Q x) (norm_system level t).axes written) in
      rw (each-fixed (axis m) (norm_system level r).axes fixed)

  -- ---- conversions

  plain-again : (o : Option UnitParts) → IsLeft (units m) (norm_units level kinds.Plain) o
  plain-again None = refl
  plain-again (Some u) = ap (λ x. Some x) (unit-again kinds.Plain u (plain-kind u.kind))

  parameter-fixed : (p : ParameterParts) → IsLeft (parameter m) (norm_parameter level) p
  parameter-fixed p = simp (s.name, plain-again)

  pub parameters-again : (ps : List ParameterParts) → IsLeft (map (parameter m)) (set_parameters level) ps
  unfolding set_parameters
  parameters-again ps =
      set-again (λ x. item_text (item_parameter x)) (parameter m) (norm_parameter level) o.parameters parameter-fixed ps
