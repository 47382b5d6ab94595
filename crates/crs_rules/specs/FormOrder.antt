-- The order that the axes of a CRS have in its form under rules.
use Rattle.std.specs.Prelude.{◌≡◌, ℕ, List, map, if◌then◌else◌}
use Rattle.crs_value.specs.CompoundValues.{CompoundParts}
use Rattle.crs_value.specs.CrsValues.{GeodeticParts, ProjectedParts, VerticalParts}
use Rattle.crs_value.specs.Spells.{Spells}
use Rattle.crs_value.specs.Values.{AxisParts, SystemParts}
use Rattle.crs_value.specs.declared.values.compound.Horizontal.{Horizontal}
use Rattle.crs_value.specs.declared.values.compound.Horizontal.TheVariants as horizontal
use Rattle.crs_value.specs.declared.values.crs.Crs.{Crs}
use Rattle.crs_value.specs.declared.values.crs.Crs.TheVariants as crs
use Rattle.crs_rules.specs.ReorderedAxes.{unordered}
use Rattle.crs_rules.specs.Rewritten.{AreTextsOfAxes, ascending, axis}
use Rattle.crs_rules.specs.Rules.{Meaning, RulesParts, meaning}

-- a coordinate system, its axes in order of these texts, without `ORDER`
abbrev pub put : (AxisParts → List ℕ) → SystemParts → SystemParts
put text s = record s { axes = map unordered (ascending text s.axes) }

-- a geodetic or geographic CRS, its axes put so
abbrev pub put_geodetic : (AxisParts → List ℕ) → GeodeticParts → GeodeticParts
put_geodetic text g = record g { system = put text g.system }

-- a projected CRS, its axes put so
abbrev pub put_projected : (AxisParts → List ℕ) → ProjectedParts → ProjectedParts
put_projected text p = record p { system = put text p.system }

-- a vertical CRS, its axes put so
abbrev pub put_vertical : (AxisParts → List ℕ) → VerticalParts → VerticalParts
put_vertical text v = record v { system = put text v.system }

-- the horizontal part of a compound CRS, its axes put so
abbrev pub put_across : (AxisParts → List ℕ) → Horizontal → Horizontal
put_across text (horizontal.Geodetic g) = horizontal.Geodetic (put_geodetic text g)
put_across text (horizontal.Projected p) = horizontal.Projected (put_projected text p)

-- a compound CRS, the axes of both parts put so
abbrev pub put_compound : (AxisParts → List ℕ) → CompoundParts → CompoundParts
put_compound text c = record c { horizontal = put_across text c.horizontal; vertical = put_vertical text c.vertical }

-- a CRS, its axes put so
abbrev pub put_crs : (AxisParts → List ℕ) → Crs → Crs
put_crs text (crs.Geodetic g) = crs.Geodetic (put_geodetic text g)
put_crs text (crs.Projected p) = crs.Projected (put_projected text p)
put_crs text (crs.Vertical v) = crs.Vertical (put_vertical text v)
put_crs text (crs.Compound c) = crs.Compound (put_compound text c)

-- a CRS; where the order of axes doesn't count, its axes in order of the texts that they have under
-- the rules, which is their order in the form
abbrev pub in_form_order : (AxisParts → List ℕ) → Meaning → Crs → Crs
in_form_order text r x = if r.uncounted.axis_order then put_crs (λ a. text (axis r a)) x else x

-- the CRS that a text spells, its axes in the order of the form
pub record IsInFormOrder (rules : RulesParts) (text : List ℕ) (x : Crs) : Type 0 where
  pub value : Crs
  pub spells : Spells text value
  pub axis_text : AxisParts → List ℕ
  pub are_axis_texts : AreTextsOfAxes axis_text
  pub in_order : x ≡ in_form_order axis_text (meaning rules) value
