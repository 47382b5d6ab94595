-- A bridge: axes are put in order of their texts from the last on.
use Rattle.std.specs.Prelude.{◌≡◌, ℕ, List, [], ◌∷◌, ◌++◌, None, drop, map, take}
use Rattle.crs_value.specs.Sound.{Each}
use Rattle.crs_value.specs.Values.{AxisParts, SystemParts}
use Rattle.crs_value.specs.declared.values.compound.Horizontal.{Horizontal}
use Rattle.crs_value.specs.declared.values.compound.Horizontal.TheVariants as horizontal
use Rattle.crs_value.specs.declared.values.crs.Crs.{Crs}
use Rattle.crs_value.specs.declared.values.crs.Crs.TheVariants as crs
use Rattle.crs_rules.specs.Rewritten.{among}

-- the first axis among the others
abbrev pub sunk : (AxisParts → List ℕ) → List AxisParts → List AxisParts
sunk text [] = []
sunk text (x ∷ xs) = among text x xs

-- the axis at a place among those behind it
abbrev pub sunk_from : (AxisParts → List ℕ) → ℕ → List AxisParts → List AxisParts
sunk_from text n xs = take n xs ++ sunk text (drop n xs)

-- some texts, one for each axis, and the same for axes that are alike
abbrev pub AreKeys : List (List ℕ) → List AxisParts → Type 0
AreKeys texts axes = (text : AxisParts → List ℕ) × (texts ≡ map text axes)

-- the axes of a horizontal part
abbrev pub axes_along : Horizontal → List AxisParts
axes_along (horizontal.Geodetic g) = g.system.axes
axes_along (horizontal.Projected p) = p.system.axes

-- the axes of the horizontal part of a CRS
abbrev pub axes_across : Crs → List AxisParts
axes_across (crs.Geodetic g) = g.system.axes
axes_across (crs.Projected p) = p.system.axes
axes_across (crs.Vertical v) = []
axes_across (crs.Compound c) = axes_along c.horizontal

-- the axes of the vertical part of a CRS
abbrev pub axes_up : Crs → List AxisParts
axes_up (crs.Geodetic g) = []
axes_up (crs.Projected p) = []
axes_up (crs.Vertical v) = v.system.axes
axes_up (crs.Compound c) = c.vertical.system.axes

-- no axis of the system has an order
abbrev pub IsOrderless : SystemParts → Type 0
IsOrderless s = Each (λ a. a.order ≡ None) s.axes

-- no axis of a horizontal part has an order
abbrev pub IsOrderlessAcross : Horizontal → Type 0
IsOrderlessAcross (horizontal.Geodetic g) = IsOrderless g.system
IsOrderlessAcross (horizontal.Projected p) = IsOrderless p.system

-- no axis of a CRS has an order
abbrev pub IsOrderlessCrs : Crs → Type 0
IsOrderlessCrs (crs.Geodetic g) = IsOrderless g.system
IsOrderlessCrs (crs.Projected p) = IsOrderless p.system
IsOrderlessCrs (crs.Vertical v) = IsOrderless v.system
IsOrderlessCrs (crs.Compound c) = IsOrderlessAcross c.horizontal × IsOrderless c.vertical.system
