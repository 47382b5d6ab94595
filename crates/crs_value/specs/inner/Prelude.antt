-- The names that proofs of the crates above cite, passed on from one place. Declares nothing.
pub use Rattle.crs_value.specs.Checks.{BadComponent, IsNotEllipsoidal, IsNotHorizontal, IsNotPlane, BadDynamic, IsUnsteady, BadOrder, BadOrders, IsBadOrder, IsPosition, LacksOrder, OneHas, ReadsOrder, orders_in, BadOwnUnit, Misfits, units_in, IsAboveZero, NotAbove, AnyOf, FirstIs, at, AtClass, BadSystems, Breaks, BreaksAmong, OfCompound, OfCrs, OfEllipsoid, OfHead, OfUnit, anchors, horizontal_classes, once, IsRepeated, RepeatsAny, UnknownDirection, UnknownType}
pub use Rattle.crs_value.specs.inner.ReadOnce.{IsSound, IsReadAs, IsReadOnce, IsUnitClass}
unfoldable pub use Rattle.crs_value.specs.Checks.{Own}
pub use Rattle.crs_value.specs.CompoundValues.{CompoundParts}
pub use Rattle.crs_value.specs.Values.{ConversionParts, GeoidModelParts, MethodParts, ParameterParts, DeformationModelParts, DynamicParts, AxisMeridianParts, AxisParts, BoxParts, DatumParts, EllipsoidParts, EnsembleParts, ExtentParts, MemberParts, MeridianParts, SaysSome, SystemParts, TailParts, UnitParts, UsageParts}
pub use Rattle.crs_value.specs.CrsValues.{BaseParts, GeodeticParts, ProjectedParts, VerticalParts}
pub use Rattle.crs_value.specs.EnsembleFrames.{datum_of, frame_of}
pub use Rattle.crs_value.specs.inner.Arguments.{from_found, Holds, IsFound, ahead, item_at}
pub use Rattle.crs_value.specs.Kept.{kept, kept_one}
pub use Rattle.crs_value.specs.inner.KeptLaws.{kept-each, kept-if_some, kept-joined, kept-made, kept-made_one, kept-none, kept-where_none, kept-where_none-one}
pub use Rattle.crs_value.specs.Members.{AreIn, HaveSameMembers, IsIn}
pub use Rattle.crs_value.specs.NamedValues.{NamedParts}
pub use Rattle.crs_value.specs.Reading.{IsReading, OneIs, ReadsAll, ReadsEach, ReadsElse, ReadsFirst, ReadsIfAny, ReadsOne, ReadsOptional, is_a, is_same, those, ReadsNamed}
pub use Rattle.crs_value.specs.Reads.{LacksUsage, ReadsAxis, ReadsAxisMeridian, ReadsBare, ReadsBox, ReadsDatum, ReadsDirection, ReadsEllipsoid, ReadsEnsemble, ReadsExtent, ReadsHead, ReadsIdent, ReadsIds, ReadsKind, ReadsMember, ReadsMeridian, ReadsNumber, ReadsNumberOf, ReadsSystem, ReadsTail, ReadsText, ReadsTextOf, ReadsType, ReadsUnit, ReadsUsage, single_of, ReadsAsUnit, ReadsConversion, ReadsGeoidModel, ReadsMethod, ReadsParameter, ReadsUnitOf, parameter_units, ReadsDeformationModel, ReadsDynamic}
pub use Rattle.crs_value.specs.ReadsCrs.{IsGeodeticClass, ReadsAsDatum, ReadsAsEnsemble, ReadsAsHorizontal, ReadsBase, ReadsCompound, ReadsCrs, ReadsFrame, ReadsGeodetic, ReadsProjected, ReadsVertical, kind_by, kind_of}
pub use Rattle.crs_value.specs.Sound.{IsAxis, IsAxisMeridian, IsAxisUnit, IsIdent, IsNamed, IsText, IsUnit, IsUnitOf, Suits, AreDistinct, AreOrders, HasOrders, HasUnits, IsAllowed, IsSystem, SuitsAxis, own_or, IsBox, IsExtent, IsTail, IsUsage}
pub use Rattle.crs_value.specs.SoundCompound.{IsCompound, IsHorizontal, IsPlane}
pub use Rattle.crs_value.specs.SoundParts.{IsConversion, IsGeoidModel, IsMethod, IsParameter, IsDeformationModel, IsDynamic, IsDatum, IsEllipsoid, IsEnsemble, IsMember, IsMeridian}
pub use Rattle.crs_value.specs.SoundCrs.{IsCrs}
pub use Rattle.crs_value.specs.SoundSingle.{IsBase, IsDynamicOf, IsGeodetic, IsGeodeticFrame, IsProjected, IsVertical, IsVerticalFrame}
pub use Rattle.crs_value.specs.Spells.{RefusesCrs, SpellsCrs, IsFaultOfText, Refuses, Spells, SpellsKind}
