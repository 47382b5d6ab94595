use Rattle.std.proofs.Common.{rules}
use Rattle.crs_value.proofs.checked.OwnLemmas.{own-base, own-compound, own-frame, own-unit, own-system, own-axis}
use Rattle.crs_value.proofs.checks.own.own_checked.Goals as goal

pub returns-in-CompoundCrs : goal.returns-in-CompoundCrs
returns-in-CompoundCrs c = own-compound _ _ _ c.in-CompoundCrs.is c.compound.ensures

pub returns-in-LengthUnit : goal.returns-in-LengthUnit
returns-in-LengthUnit c = own-unit _ _ _ c.only_of.ensures c.in-LengthUnit.is

pub returns-in-CoordinateSystem : goal.returns-in-CoordinateSystem
returns-in-CoordinateSystem c = own-system _ _ _ c.in-CoordinateSystem.is c.only_of-in-CoordinateSystem.ensures

pub returns-in-Axis : goal.returns-in-Axis
returns-in-Axis c = own-axis _ _ _ c.in-Axis.is c.only_of-in-Axis.ensures

pub returns-in-BaseCrs : goal.returns-in-BaseCrs
returns-in-BaseCrs c = own-base _ _ _ c.in-BaseCrs.is (search rules)

pub returns-in-GeodeticFrame : goal.returns-in-GeodeticFrame
returns-in-GeodeticFrame c = own-frame _ _ _ c.in-GeodeticFrame.is c.repeated_anchors.ensures
