-- What is asked of conversions, dynamic parts and reference frames by themselves.
use Rattle.std.specs.Prelude.{IfSome, ◌≡◌, ◌≢◌, false, []}
use Rattle.crs_decimal.specs.Numbers.{IsNormal}
use Rattle.crs_value.specs.Values.{ParameterParts, ConversionParts, DynamicParts, EllipsoidParts, MeridianParts, DatumParts, EnsembleParts}
use Rattle.crs_value.specs.Sound.{Each, IsText, IsIdent, IsNamed, IsUnit, IsUnitOf}
use Rattle.crs_value.specs.Checks.{IsAboveZero}
use Rattle.crs_shape.specs.declared.unit_kind.UnitKind.TheVariants as kinds
pub use Rattle.crs_value.specs.Sound.{IsNamed as IsMethod, IsNamed as IsGeoidModel, IsNamed as IsDeformationModel, IsNamed as IsMember}

-- ---- what is asked of conversions by themselves

-- what is asked of a parameter of a conversion: its unit, if it has one, may be of each kind
pub record IsParameter (parameter : ParameterParts) : Type 0 where
  pub name : IsText parameter.name
  pub value : IsNormal parameter.value
  pub unit : IfSome parameter.unit IsUnit
  pub identifiers : Each IsIdent parameter.identifiers

-- what is asked of a conversion: its name is a text, and its parts are as asked of them
pub record IsConversion (conversion : ConversionParts) : Type 0 where
  pub name : IsText conversion.name
  pub method : IsNamed conversion.method
  pub parameters : Each IsParameter conversion.parameters
  pub identifiers : Each IsIdent conversion.identifiers

-- ---- what is asked of dynamic parts by themselves

-- what is asked of a dynamic part: its epoch is a decimal in its normal form, and its model, if it has one, is as asked
pub record IsDynamic (dynamic : DynamicParts) : Type 0 where
  pub epoch : IsNormal dynamic.epoch
  pub model : IfSome dynamic.model IsNamed

-- ---- what is asked of ellipsoids, prime meridians, reference frames and ensembles by themselves

-- what is asked of an ellipsoid: its semi-major axis is above zero, its inverse flattening isn't
-- negative, and its unit, if it has one, fits one of length
pub record IsEllipsoid (ellipsoid : EllipsoidParts) : Type 0 where
  pub name : IsText ellipsoid.name
  pub semi_major_axis : IsNormal ellipsoid.semi_major_axis
  pub above_zero : IsAboveZero ellipsoid.semi_major_axis
  pub inverse_flattening : IsNormal ellipsoid.inverse_flattening
  pub not_negative : ellipsoid.inverse_flattening.negative ≡ false
  pub unit : IfSome ellipsoid.unit (IsUnitOf kinds.Length)
  pub identifiers : Each IsIdent ellipsoid.identifiers

-- what is asked of a prime meridian: its unit, if it has one, fits one of angle
pub record IsMeridian (meridian : MeridianParts) : Type 0 where
  pub name : IsText meridian.name
  pub longitude : IsNormal meridian.longitude
  pub unit : IfSome meridian.unit (IsUnitOf kinds.Angle)
  pub identifiers : Each IsIdent meridian.identifiers

-- what is asked of a reference frame: what it has of an ellipsoid, an anchor and its epoch is as asked
pub record IsDatum (datum : DatumParts) : Type 0 where
  pub name : IsText datum.name
  pub ellipsoid : IfSome datum.ellipsoid IsEllipsoid
  pub anchor : IfSome datum.anchor IsText
  pub anchor_epoch : IfSome datum.anchor_epoch IsNormal
  pub identifiers : Each IsIdent datum.identifiers

-- what is asked of a datum ensemble: it has at least one member
pub record IsEnsemble (ensemble : EnsembleParts) : Type 0 where
  pub name : IsText ensemble.name
  pub some : ensemble.members ≢ []
  pub members : Each IsNamed ensemble.members
  pub ellipsoid : IfSome ensemble.ellipsoid IsEllipsoid
  pub accuracy : IsNormal ensemble.accuracy
  pub identifiers : Each IsIdent ensemble.identifiers
