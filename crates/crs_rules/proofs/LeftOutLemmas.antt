-- Units may be left out: a CRS with the units that it leaves out is rewritten to what it is rewritten to itself.
use Rattle.std.proofs.Common.{◌≡◌, ◌==◌, ℕ, Bool, true, false, Option, Some, None, List, [], ◌∷◌, refl, sym, ap, ◌∙◌, map, if◌then◌else◌}
use Rattle.std.specs.Option.{option_map}
use Rattle.crs_shape.specs.declared.unit_kind.UnitKind.{UnitKind}
use Rattle.crs_shape.specs.declared.unit_kind.UnitKind.TheVariants as kinds
use Rattle.crs_shape.specs.declared.class.Class.TheVariants as class
use Rattle.crs_value.specs.inner.Prelude.{AxisParts, BaseParts, ConversionParts, GeodeticParts, MeridianParts, ParameterParts, ProjectedParts, Spells, UnitParts, own_or}
use Rattle.crs_value.specs.declared.values.compound.Horizontal.{Horizontal}
use Rattle.crs_value.specs.declared.values.compound.Horizontal.TheVariants as horizontals
use Rattle.crs_value.specs.declared.values.crs.Crs.{Crs}
use Rattle.crs_value.specs.declared.values.crs.Crs.TheVariants as crs
use Rattle.crs_value.specs.declared.values.level.Level.{Level}
use Rattle.crs_writer.specs.inner.Prelude.{IsCanonicalOf, IsCanonicalText}
use Rattle.crs_canon.specs.MainTheorem.{MainTheorem}
use Rattle.crs_rules.specs.Rewritten.{IsForm, across, arranged_crs, compound, completed, completed_conversion, completed_meridian, explicit, explicit_across, explicit_base, explicit_crs, explicit_geodetic, geodetic, missing_unit, projected, renamed, rewritten, told, unit_of_kind}
use Rattle.crs_rules.specs.Rules.{Meaning, RulesParts, meaning}

-- ---- where nothing is told, nothing is filled in

own-alone : (o : Option UnitParts) → own_or o None ≡ o
own-alone None = refl
own-alone (Some u) = refl

unmoved : (b : Bool) (o : Option UnitParts) → (if b then o else own_or o None) ≡ o
unmoved true o = refl
unmoved false o = own-alone o

meridian-untold : (is : Bool) (u : Option UnitParts) (x : Option MeridianParts) → is ≡ false →
    option_map (completed_meridian (told is u)) x ≡ x
meridian-untold is u None e = refl
meridian-untold is u (Some x) e =
    rw e (ap (λ (unit : Option UnitParts). Some (record x { unit = unit })) (unmoved (x.longitude.digits == 0) x.unit))

pub base-untold : (m : Meaning) → m.uncounted.meridian_units ≡ false → (b : BaseParts) → explicit_base m b ≡ b
base-untold m e b =
    ap (λ (y : Option MeridianParts). record b { meridian = y }) (meridian-untold m.uncounted.meridian_units _ b.meridian e)

pub geodetic-untold : (m : Meaning) → m.uncounted.meridian_units ≡ false → (g : GeodeticParts) → explicit_geodetic m g ≡ g
geodetic-untold m e g =
    ap (λ (y : Option MeridianParts). record g { meridian = y }) (meridian-untold m.uncounted.meridian_units _ g.meridian e)

parameters-untold : (m : Meaning) → ((n : List ℕ) → m.kind n ≡ kinds.Plain) → (a l : Option UnitParts) (ps : List ParameterParts) →
    map (completed m (unit_of_kind a l)) ps ≡ ps
parameters-untold m plain a l [] = refl
parameters-untold m plain a l (p ∷ ps) =
    let u : own_or p.unit (unit_of_kind a l (m.kind (m.name class.Parameter p.name))) ≡ p.unit =
    ap (λ k. own_or p.unit (unit_of_kind a l k)) (plain (m.name class.Parameter p.name)) ∙ own-alone p.unit in
    let t = parameters-untold m plain a l ps in
    λ i. record p { unit = u i } ∷ t i

pub conversion-untold : (m : Meaning) → ((n : List ℕ) → m.kind n ≡ kinds.Plain) → (a l : Option UnitParts) (c : ConversionParts) →
    completed_conversion m (unit_of_kind a l) c ≡ c
conversion-untold m plain a l c =
    ap (λ (ps : List ParameterParts). record c { parameters = ps }) (parameters-untold m plain a l c.parameters)

pub projected-untold : (m : Meaning) → m.uncounted.meridian_units ≡ false → ((n : List ℕ) → m.kind n ≡ kinds.Plain) →
    (p : ProjectedParts) → explicit m p ≡ p
projected-untold m e plain p =
    let b = base-untold m e p.base in
    let c = conversion-untold m plain _ _ p.conversion in
    λ i. record p { base = b i; conversion = c i }

-- ---- what is filled in is there

own-twice : (o s : Option UnitParts) → own_or (own_or o s) s ≡ own_or o s
own-twice None None = refl
own-twice None (Some u) = refl
own-twice (Some u) s = refl

completed-twice : (m : Meaning) (missing : UnitKind → Option UnitParts) (ps : List ParameterParts) →
    map (completed m missing) (map (completed m missing) ps) ≡ map (completed m missing) ps
completed-twice m missing [] = refl
completed-twice m missing (p ∷ ps) =
    let u = own-twice p.unit (missing (m.kind (m.name class.Parameter p.name))) in
    let t = completed-twice m missing ps in
    λ i. record p { unit = u i } ∷ t i

unit-twice : (z : Bool) (o s : Option UnitParts) →
    (if z then (if z then o else own_or o s) else own_or (if z then o else own_or o s) s) ≡ (if z then o else own_or o s)
unit-twice true o s = refl
unit-twice false o s = own-twice o s

meridian-twice : (missing : Option UnitParts) (x : Option MeridianParts) →
    option_map (completed_meridian missing) (option_map (completed_meridian missing) x) ≡ option_map (completed_meridian missing) x
meridian-twice missing None = refl
meridian-twice missing (Some x) =
    let u = unit-twice (x.longitude.digits == 0) x.unit missing in λ i. Some (record x { unit = u i })

geodetic-twice : (m : Meaning) (g : GeodeticParts) → explicit_geodetic m (explicit_geodetic m g) ≡ explicit_geodetic m g
geodetic-twice m g = let y = meridian-twice _ g.meridian in λ i. record g { meridian = y i }

projected-twice : (m : Meaning) (p : ProjectedParts) → explicit m (explicit m p) ≡ explicit m p
projected-twice m p =
    let y = meridian-twice _ p.base.meridian in
    let ps = completed-twice m (missing_unit m p) p.conversion.parameters in
    λ i. record p { base = record p.base { meridian = y i }; conversion = record p.conversion { parameters = ps i } }

across-left : (m : Meaning) (x : Horizontal) → across m (explicit_across m x) ≡ across m x
across-left m (horizontals.Geodetic g) = ap (λ z. horizontals.Geodetic (geodetic m z)) (geodetic-twice m g)
across-left m (horizontals.Projected p) = ap (λ z. horizontals.Projected (projected m z)) (projected-twice m p)

renamed-left : (m : Meaning) (x : Crs) → renamed m (explicit_crs m x) ≡ renamed m x
renamed-left m (crs.Geodetic g) = ap (λ z. crs.Geodetic (geodetic m z)) (geodetic-twice m g)
renamed-left m (crs.Projected p) = ap (λ z. crs.Projected (projected m z)) (projected-twice m p)
renamed-left m (crs.Vertical v) = refl
renamed-left m (crs.Compound c) =
    let a = across-left m c.horizontal in λ i. crs.Compound (record (compound m c) { horizontal = a i })

rewritten-left : (text : AxisParts → List ℕ) (m : Meaning) (x : Crs) → rewritten text m (explicit_crs m x) ≡ rewritten text m x
rewritten-left text m x =
    ap (λ z. if m.uncounted.axis_order then arranged_crs text z else z) (renamed-left m x)

pub left-out-form : (level : Level) → MainTheorem level →
    ((text : List ℕ) (a b : Crs) → Spells text a → Spells text b → a ≡ b) →
    (r : RulesParts) (first second bytes : List ℕ) (x : Crs) → IsCanonicalOf level first first → IsCanonicalOf level second second →
    Spells first x → Spells second (explicit_crs (meaning r) x) → IsForm r level first bytes → IsForm r level second bytes
left-out-form level t value r first second bytes x a b s u f =
    let v : f.value ≡ x = value first f.value x (rw (t.one first f.canonical first f.is_canonical a) at f.spells) s in
    let all : rewritten f.axis_text (meaning r) f.value ≡ rewritten f.axis_text (meaning r) (explicit_crs (meaning r) x) =
    ap (rewritten f.axis_text (meaning r)) v ∙ sym (rewritten-left f.axis_text (meaning r) x) in
    let form : IsCanonicalText level (rewritten f.axis_text (meaning r) (explicit_crs (meaning r) x)) bytes = rw all at f.form in
    record {
      canonical = second;
      is_canonical = b;
      value = explicit_crs (meaning r) x;
      spells = u;
      axis_text = f.axis_text;
      are_axis_texts = f.are_axis_texts;
      form = form;
    }
