-- CRSs that differ in the order of their axes alone.
use Rattle.std.specs.Prelude.{◌≡◌, ◌++◌, List, [], ◌∷◌, None, map}
use Rattle.crs_value.specs.CompoundValues.{CompoundParts}
use Rattle.crs_value.specs.CrsValues.{GeodeticParts, ProjectedParts, VerticalParts}
use Rattle.crs_value.specs.Values.{AxisParts, SystemParts}
use Rattle.crs_value.specs.declared.values.compound.Horizontal.{Horizontal}
use Rattle.crs_value.specs.declared.values.compound.Horizontal.TheVariants as horizontal
use Rattle.crs_value.specs.declared.values.crs.Crs.{Crs}
use Rattle.crs_value.specs.declared.values.crs.Crs.TheVariants as crs

-- the second list has the members of the first in some order
abbrev pub IsReordered : {A : Type 0} → List A → List A → Type 0
IsReordered [] ys = ys ≡ []
IsReordered (x ∷ xs) ys = (front back : _) × (ys ≡ front ++ x ∷ back) × IsReordered xs (front ++ back)

-- an axis, but for its order
abbrev pub unordered : AxisParts → AxisParts
unordered a = record a { order = None }

-- the second system is the first with its axes in some order
pub record AreAxesReordered (s t : SystemParts) : Type 0 where
  pub axes : IsReordered (map unordered s.axes) (map unordered t.axes)
  pub others : record s { axes = t.axes } ≡ t

-- the second geodetic CRS is the first with its axes in some order
pub record IsGeodeticReordered (g h : GeodeticParts) : Type 0 where
  pub system : AreAxesReordered g.system h.system
  pub others : record g { system = h.system } ≡ h

-- the second projected CRS is the first with its axes in some order
pub record IsProjectedReordered (p q : ProjectedParts) : Type 0 where
  pub system : AreAxesReordered p.system q.system
  pub others : record p { system = q.system } ≡ q

-- the second vertical CRS is the first with its axes in some order
pub record IsVerticalReordered (v w : VerticalParts) : Type 0 where
  pub system : AreAxesReordered v.system w.system
  pub others : record v { system = w.system } ≡ w

-- the second horizontal part is the first with its axes in some order
abbrev pub IsAcrossReordered : Horizontal → Horizontal → Type 0
IsAcrossReordered (horizontal.Geodetic g) (horizontal.Geodetic h) = IsGeodeticReordered g h
IsAcrossReordered (horizontal.Projected p) (horizontal.Projected q) = IsProjectedReordered p q
IsAcrossReordered a b = ⊥

-- the second compound CRS is the first with the axes of both parts in some order
pub record IsCompoundReordered (c d : CompoundParts) : Type 0 where
  pub horizontal : IsAcrossReordered c.horizontal d.horizontal
  pub vertical : IsVerticalReordered c.vertical d.vertical
  pub others : record c { horizontal = d.horizontal; vertical = d.vertical } ≡ d

-- the second CRS is the first with its axes in some order
abbrev pub IsCrsReordered : Crs → Crs → Type 0
IsCrsReordered (crs.Geodetic g) (crs.Geodetic h) = IsGeodeticReordered g h
IsCrsReordered (crs.Projected p) (crs.Projected q) = IsProjectedReordered p q
IsCrsReordered (crs.Vertical v) (crs.Vertical w) = IsVerticalReordered v w
IsCrsReordered (crs.Compound c) (crs.Compound d) = IsCompoundReordered c d
IsCrsReordered a b = ⊥
