-- CRSs of one kind in their one form, and the parts that they share, are read back from their items.
use Rattle.std.proofs.Common.{◌≡◌, ◌+◌, codes, List, [], ◌∷◌, length, refl, map, ◌++◌, ◌≤◌, arith, Option, Some, ℕ}
use Rattle.crs_text.specs.inner.Prelude.{Item, at_place, item_text}
use Rattle.crs_shape.specs.declared.class.Class.{Class}
use Rattle.crs_value.specs.inner.Prelude.{ConversionParts, GeoidModelParts, MethodParts, ParameterParts, kept, kept_one, kept-each, ReadsSystem, ReadsTail, ReadsConversion, ReadsGeoidModel, ReadsMethod, ReadsParameter, IsConversion, IsGeoidModel, IsMethod, IsParameter, IsSystem, IsTail, IsUsage, SystemParts, TailParts, UsageParts, DeformationModelParts, DynamicParts, ReadsIfAny, ReadsDeformationModel, ReadsDynamic, IsDeformationModel, IsDynamic, IsDynamicOf, BaseParts, GeodeticParts, ProjectedParts, VerticalParts, ReadsBase, ReadsGeodetic, ReadsProjected, ReadsVertical, IsBase, IsGeodetic, IsProjected, IsVertical}
use Rattle.crs_value.specs.declared.values.level.Level.{Level}
use Rattle.crs_value.specs.Sound.{Each}
use Rattle.crs_same.specs.inner.Prelude.{usages_of}
use Rattle.crs_normal.specs.inner.Prelude.{item_conversion, item_geoid_model, item_method, item_parameter, norm_conversion, norm_geoid_model, norm_method, norm_parameter, set_geoid_models, set_parameters, text_node, axes_from, item_axis, item_head, norm_system, item_ident, item_unit, set_idents, item_usage, norm_tail, set_usages, norm_units}
use Rattle.crs_normal.specs.inner.LowerLaws.{LowerLaws}
use Rattle.crs_normal.proofs.made.TailLemmas.{NamesSystem, projected-names, vertical-names, NamesTail, usages-sound}
use Rattle.crs_normal.proofs.members.MemberLemmas.{named-kept, named-read, IsWrittenUsage, usage-is-node, usage-kept, usage-read, number-read}
use Rattle.crs_normal.proofs.members.ParameterLemmas.{parameter-kept, parameter-read}
use Rattle.crs_normal.proofs.read.FrameLemmas.{identifiers, identifiers-field, angles-back, angles-in, angles-kept, meridian-read, axes-read, head-read}
use Rattle.crs_normal.proofs.texts.SegmentLemmas.{ReadsBack, Seen, Segment, a-text, all-of, each-field, for-each, items_of, lacks, may-be, one-field, one-item, opt-field, given, seen, text-field, set-kept, some-mapped, if-any}
use Rattle.crs_normal.proofs.read.ViewLemmas.{each-so, keyword-names}
use Rattle.crs_normal.proofs.texts.ItemLemmas.{from-named}
use Rattle.std.specs.Option.{option_map}
use Rattle.crs_shape.specs.inner.Prelude.{class_named, IsOneOf, dimensions_of}
use Rattle.crs_value.specs.declared.values.frame.Frame.{Frame}
use Rattle.crs_normal.specs.inner.SpelledCrs.{item_deformation_model, item_dynamic, norm_deformation_model, norm_dynamic, geodetic_keyword, item_base, item_geodetic, item_projected, item_vertical, norm_base, norm_geodetic, norm_projected, norm_vertical}
use Rattle.crs_normal.specs.inner.SpelledItems.{number_node}
use Rattle.crs_normal.proofs.same.DynamicLemmas.{dynamics-sound}
use Rattle.crs_normal.specs.inner.SpelledFrames.{item_meridian, norm_frame, norm_meridian}
use Rattle.crs_normal.proofs.read.DatumLemmas.{frame-field, frame-item, geodetic-back, vertical-back}
use Rattle.crs_normal.proofs.normal.DimensionLemmas.{small-geodetic, small-projected, small-vertical, AreSmall, few-axes}
use Rattle.crs_normal.proofs.made.CompoundLemmas.{GeodeticNames}
use Rattle.crs_shape.specs.declared.class.Class.TheVariants as class
use Rattle.crs_shape.specs.declared.unit_kind.UnitKind.TheVariants as kinds

-- ---- conversions

pub method-read : (level : Level) (m : MethodParts) → IsMethod m →
    ReadsBack item_method (ReadsMethod class.Method) (norm_method level m)
method-read level m s =
    named-read class.Method (codes "METHOD") (keyword-names _ _) (norm_method level m) (named-kept level m s)

parameters-back : LowerLaws → (level : Level) (ps : List ParameterParts) → Each IsParameter ps →
    Each (ReadsBack item_parameter (ReadsParameter class.Parameter)) (set_parameters level ps)
unfolding set_parameters
parameters-back laws level ps s =
    set-kept _ (λ p. item_text (item_parameter p)) _ (ReadsBack item_parameter (ReadsParameter class.Parameter))
    (λ p q. parameter-read laws (norm_parameter level p) (parameter-kept level p q)) ps s

pub conversion-read : LowerLaws → (level : Level) (v : ConversionParts) → IsConversion v →
    ReadsBack item_conversion (ReadsConversion class.Conversion) (norm_conversion level v)
conversion-read laws level v s place =
    let look = seen class.Conversion (a-text v.name ∷
    one-item class.Method (item_method (norm_method level v.method)) (keyword-names _ _) ∷
    all-of class.Parameter item_parameter (set_parameters level v.parameters) (λ x. keyword-names _ _) ∷
    identifiers (keyword-names _ _) level v.identifiers ∷ [])
    (at_place place (item_conversion (norm_conversion level v))) (place + 10) refl in record {
      name = refl;
      method = one-field look class.Method item_method _ _ refl (method-read level v.method s.method);
      parameters = each-field look class.Parameter item_parameter _ _ refl (parameters-back laws level v.parameters s.parameters);
      identifiers = identifiers-field look level v.identifiers refl s.identifiers;
    }

pub geoids-back : (level : Level) (gs : List GeoidModelParts) → Each IsGeoidModel gs →
    Each (ReadsBack item_geoid_model (ReadsGeoidModel class.GeoidModel)) (set_geoid_models level gs)
unfolding set_geoid_models
geoids-back level gs s =
    set-kept _ (λ g. item_text (item_geoid_model g)) _ (ReadsBack item_geoid_model (ReadsGeoidModel class.GeoidModel))
    (λ g q. named-read class.GeoidModel (codes "GEOIDMODEL") (keyword-names _ _)
    (norm_geoid_model level g) (named-kept level g q)) gs s

-- ---- ends of CRSs

written-usages : (level : Level) (us : List UsageParts) → Each IsUsage us →
    Each IsWrittenUsage (set_usages level us)
unfolding set_usages
written-usages level us s =
    set-kept _ (λ u. item_text (item_usage u)) _ IsWrittenUsage usage-kept (kept level us)
    (kept-each (λ l. IsUsage) level us s)

abbrev pub tail-usages : Level → TailParts → List UsageParts
tail-usages level t = set_usages level (usages_of t)

pub written-tail : (level : Level) (t : TailParts) → IsTail t → Each IsWrittenUsage (tail-usages level t)
written-tail level t s = written-usages level (usages_of t) (usages-sound t s)

abbrev pub of-tail : {c : Class} → NamesTail c → (level : Level) (t : TailParts) → IsTail t → List (Segment c)
of-tail {c = c} names level t s =
    for-each class.Usage item_usage (tail-usages level t)
    (each-so _ _ (λ u q. from-named c class.Usage (codes "USAGE") _ (usage-is-node u q.some) names.usage)
    (tail-usages level t) (written-tail level t s)) ∷
    identifiers names.ident level t.identifiers ∷
    may-be class.Remark (text_node (codes "REMARK")) (kept_one level t.remark) (λ x. names.remark) ∷ []

pub tail-read : LowerLaws → {c : Class} {ss : List (Segment c)} {item : Item} → Seen c ss item → (level : Level)
    (t : TailParts) → IsTail t → items_of class.Usage ss ≡ map item_usage (tail-usages level t) ++ [] →
    items_of class.Scope ss ≡ [] → items_of class.Area ss ≡ [] → items_of class.BoundingBox ss ≡ [] →
    items_of class.VerticalExtent ss ≡ [] →
    items_of class.Identifier ss ≡ map item_ident (set_idents level t.identifiers) ++ [] →
    items_of class.Remark ss ≡ given (text_node (codes "REMARK")) (kept_one level t.remark) ++ [] →
    ReadsTail c item (norm_tail level t)
tail-read laws look level t s usages scope area box extent ids remark = record {
  usages = each-field look class.Usage item_usage _ _ usages (each-so _ _ (usage-read laws) _ (written-tail level t s));
  bare_parts = record {
    scope = lacks look class.Scope scope;
    area = lacks look class.Area area;
    bbox = lacks look class.BoundingBox box;
    extent = lacks look class.VerticalExtent extent;
  };
  identifiers = identifiers-field look level t.identifiers ids s.identifiers;
  remark = text-field look class.Remark (codes "REMARK") (kept_one level t.remark) remark;
}

-- ---- systems among the arguments of a CRS

abbrev pub head-alone : {c : Class} → NamesSystem c → Level → SystemParts → Segment c
head-alone names level y = one-item class.CoordinateSystem (item_head (norm_system level y)) names.head

abbrev pub axes-each : {c : Class} → NamesSystem c → Level → SystemParts → Segment c
axes-each names level y = all-of class.Axis item_axis (axes_from level y 1 (length y.axes)) (λ x. names.axis)

pub system-read : LowerLaws → {c : Class} {ss : List (Segment c)} {item : Item} → Seen c ss item → (level : Level)
    (y : SystemParts) → IsSystem y → length y.axes ≤ 3 →
    items_of class.CoordinateSystem ss ≡ item_head (norm_system level y) ∷ [] →
    items_of class.Axis ss ≡ map item_axis (axes_from level y 1 (length y.axes)) ++ [] →
    items_of class.AxisUnit ss ≡ [] → ReadsSystem c item (norm_system level y)
system-read laws look level y s few heads axes units = record {
  head = one-field look class.CoordinateSystem item_head _ _ heads (head-read laws level y s);
  axes = each-field look class.Axis item_axis _ _ axes (axes-read laws level y s 1 (length y.axes) (omega arith) (omega arith));
  unit = opt-field look class.AxisUnit item_unit _ _ units tt;
}

-- ---- deformation models and dynamic parts in their one form are read back from their items

-- ---- deformation models

pub deformation-model-read : (level : Level) (m : DeformationModelParts) → IsDeformationModel m →
    ReadsBack item_deformation_model (ReadsDeformationModel class.DeformationModel) (norm_deformation_model level m)
deformation-model-read level m s =
    named-read class.DeformationModel (codes "MODEL") (keyword-names _ _)
    (norm_deformation_model level m) (named-kept level m s)

-- ---- dynamic parts

pub dynamic-read : LowerLaws → (level : Level) (d : DynamicParts) → IsDynamic d →
    ReadsBack item_dynamic (ReadsDynamic class.Dynamic) (norm_dynamic level d)
dynamic-read laws level d s place =
    let look = seen class.Dynamic
    (one-item class.FrameEpoch (number_node (codes "FRAMEEPOCH") d.epoch) (keyword-names _ _) ∷
    may-be class.DeformationModel item_deformation_model (option_map (norm_deformation_model level) d.model)
    (λ m. keyword-names _ _) ∷ [])
    (at_place place (item_dynamic (norm_dynamic level d))) (place + 7) refl in record {
      epoch = one-field look class.FrameEpoch (number_node (codes "FRAMEEPOCH")) _ _ refl
          (λ p. number-read laws d.epoch s.epoch 0);
      model = opt-field look class.DeformationModel item_deformation_model _ _ refl
          (some-mapped _ _ _ (deformation-model-read level) d.model s.model);
    }

-- ---- among the arguments of a CRS, whatever the frame beside it is

abbrev pub dynamic-item : {c : Class} → class_named c (codes "DYNAMIC") ≡ Some class.Dynamic → Level →
    Option DynamicParts → Segment c
dynamic-item names level o = may-be class.Dynamic item_dynamic (option_map (norm_dynamic level) o) (λ d. names)

pub dynamic-field : LowerLaws → {c : Class} {ss : List (Segment c)} {item : Item} → Seen c ss item → (level : Level)
    (o : Option DynamicParts) (f : Frame) → IsDynamicOf o f →
    items_of class.Dynamic ss ≡ given item_dynamic (option_map (norm_dynamic level) o) ++ [] →
    ReadsIfAny ReadsDynamic class.Dynamic c item (option_map (norm_dynamic level) o)
dynamic-field laws look level o f s same =
    opt-field look class.Dynamic item_dynamic _ _ same
    (some-mapped _ _ _ (dynamic-read laws level) o (dynamics-sound o f s))

-- ---- CRSs of one kind in their one form are read back from their items

-- ---- the axes are at most three

few : LowerLaws → (system : SystemParts) → IsSystem system → (ns : List ℕ) → AreSmall ns →
    IsOneOf system.dimension ns → length system.axes ≤ 3
few laws system sound ns small one =
    few-axes laws.symmetric laws.transitive system.dimension (length system.axes) ns small one sound.count

-- ---- geodetic and geographic CRSs

pub geodetic-read : LowerLaws → (c : Class) → GeodeticNames c → (level : Level) (g : GeodeticParts) →
    IsGeodetic g → ReadsBack item_geodetic (ReadsGeodetic c) (norm_geodetic level g)
geodetic-read laws c names level g s place =
    let look = seen c (a-text g.name ∷ dynamic-item names.dynamics level g.dynamic ∷
    frame-item c class.GeodeticFrame class.GeodeticEnsemble (codes "DATUM") names.frames.datum names.frames.ensemble refl
    (norm_frame level g.frame) ∷
    may-be class.PrimeMeridian item_meridian (norm_meridian level g.meridian) (λ m. names.meridians) ∷
    head-alone names.systems level g.system ∷ axes-each names.systems level g.system ∷
    of-tail names.tails level g.tail s.tail)
    (at_place place (item_geodetic (norm_geodetic level g)))
    (place + length (geodetic_keyword g.system.system_type)) refl in record {
      name = refl;
      dynamic = dynamic-field laws look level g.dynamic g.frame s.dynamic refl;
      frame = frame-field c class.GeodeticFrame class.GeodeticEnsemble (codes "DATUM") names.frames.datum
          names.frames.ensemble look (norm_frame level g.frame) (geodetic-back laws level g.frame s.frame) refl refl;
      meridian = opt-field look class.PrimeMeridian item_meridian _ _ refl (meridian-read laws level g.meridian s.meridian);
      system = system-read laws look level g.system s.system
          (few laws g.system s.system (dimensions_of class.GeodeticCrs g.system.system_type)
          (small-geodetic g.system.system_type) s.dimension) refl refl refl;
      tail = tail-read laws look level g.tail s.tail refl refl refl refl refl refl refl;
    }

-- ---- base CRSs

pub base-read : LowerLaws → (level : Level) (b : BaseParts) → IsBase b →
    ReadsBack item_base (ReadsBase class.BaseCrs) (norm_base level b)
base-read laws level b s place =
    let base : Class = class.BaseCrs in
    let angle = angles-kept level b.unit s.unit in
    let look = seen base (a-text b.name ∷ dynamic-item (keyword-names _ _) level b.dynamic ∷
    frame-item base class.GeodeticFrame class.GeodeticEnsemble (codes "DATUM") (keyword-names _ _) (keyword-names _ _)
    refl (norm_frame level b.frame) ∷
    may-be class.PrimeMeridian item_meridian (norm_meridian level b.meridian) (λ m. keyword-names _ _) ∷
    if-any class.AngleUnit item_unit (norm_units level kinds.Angle b.unit)
    (angles-in base (keyword-names _ _) (norm_units level kinds.Angle b.unit) angle) ∷
    identifiers (keyword-names _ _) level b.identifiers ∷ [])
    (at_place place (item_base (norm_base level b))) (place + 11) refl in record {
      name = refl;
      dynamic = dynamic-field laws look level b.dynamic b.frame s.dynamic refl;
      frame = frame-field base class.GeodeticFrame class.GeodeticEnsemble (codes "DATUM") (keyword-names _ _)
          (keyword-names _ _) look (norm_frame level b.frame) (geodetic-back laws level b.frame s.frame) refl refl;
      meridian = opt-field look class.PrimeMeridian item_meridian _ _ refl (meridian-read laws level b.meridian s.meridian);
      unit = opt-field look class.AngleUnit item_unit _ _ refl
          (angles-back laws (norm_units level kinds.Angle b.unit) angle);
      identifiers = identifiers-field look level b.identifiers refl s.identifiers;
    }

-- ---- projected CRSs

pub projected-read : LowerLaws → (level : Level) (p : ProjectedParts) → IsProjected p →
    ReadsBack item_projected (ReadsProjected class.ProjectedCrs) (norm_projected level p)
projected-read laws level p s place =
    let look = seen class.ProjectedCrs (a-text p.name ∷
    one-item class.BaseCrs (item_base (norm_base level p.base)) (keyword-names _ _) ∷
    one-item class.Conversion (item_conversion (norm_conversion level p.conversion)) (keyword-names _ _) ∷
    head-alone projected-names.systems level p.system ∷ axes-each projected-names.systems level p.system ∷
    of-tail projected-names.tails level p.tail s.tail)
    (at_place place (item_projected (norm_projected level p))) (place + 7) refl in record {
      name = refl;
      base = one-field look class.BaseCrs item_base _ _ refl (base-read laws level p.base s.base);
      conversion = one-field look class.Conversion item_conversion _ _ refl (conversion-read laws level p.conversion s.conversion);
      system = system-read laws look level p.system s.system
          (few laws p.system s.system (dimensions_of class.ProjectedCrs p.system.system_type)
          (small-projected p.system.system_type) s.dimension) refl refl refl;
      tail = tail-read laws look level p.tail s.tail refl refl refl refl refl refl refl;
    }

-- ---- vertical CRSs

pub vertical-read : LowerLaws → (level : Level) (v : VerticalParts) → IsVertical v →
    ReadsBack item_vertical (ReadsVertical class.VerticalCrs) (norm_vertical level v)
vertical-read laws level v s place =
    let vertical : Class = class.VerticalCrs in
    let look = seen vertical (a-text v.name ∷ dynamic-item (keyword-names _ _) level v.dynamic ∷
    frame-item vertical class.VerticalFrame class.VerticalEnsemble (codes "VDATUM") (keyword-names _ _)
    (keyword-names _ _) refl (norm_frame level v.frame) ∷
    head-alone vertical-names.systems level v.system ∷ axes-each vertical-names.systems level v.system ∷
    all-of class.GeoidModel item_geoid_model (set_geoid_models level v.geoid_models) (λ x. keyword-names _ _) ∷
    of-tail vertical-names.tails level v.tail s.tail)
    (at_place place (item_vertical (norm_vertical level v))) (place + 7) refl in record {
      name = refl;
      dynamic = dynamic-field laws look level v.dynamic v.frame s.dynamic refl;
      frame = frame-field vertical class.VerticalFrame class.VerticalEnsemble (codes "VDATUM") (keyword-names _ _)
          (keyword-names _ _) look (norm_frame level v.frame) (vertical-back laws level v.frame s.frame) refl refl;
      system = system-read laws look level v.system s.system
          (few laws v.system s.system (dimensions_of class.VerticalCrs v.system.system_type)
          (small-vertical v.system.system_type) s.dimension) refl refl refl;
      geoid_models = each-field look class.GeoidModel item_geoid_model _ _ refl (geoids-back level v.geoid_models s.geoid_models);
      tail = tail-read laws look level v.tail s.tail refl refl refl refl refl refl refl;
    }
