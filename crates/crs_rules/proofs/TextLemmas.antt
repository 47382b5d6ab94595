-- The texts of axes that are asked decide all: any two functions that give them agree, and put axes in one order.
use Rattle.std.proofs.Common.{◌≡◌, ℕ, List, [], ◌∷◌, refl}
use Rattle.crs_value.specs.inner.Prelude.{IsAxis, IsHorizontal, IsCrs, IsSystem, AxisParts, SystemParts}
use Rattle.crs_value.specs.Sound.{Each}
use Rattle.crs_value.specs.declared.values.compound.Horizontal.{Horizontal}
use Rattle.crs_value.specs.declared.values.compound.Horizontal.TheVariants as horizontals
use Rattle.crs_value.specs.declared.values.crs.Crs.{Crs}
use Rattle.crs_value.specs.declared.values.crs.Crs.TheVariants as crs
use Rattle.crs_value.specs.declared.values.level.Level.{Level}
use Rattle.crs_value.specs.declared.values.level.Level.TheVariants as levels
use Rattle.crs_same.specs.inner.Prelude.{SameAxisAlone}
use Rattle.crs_normal.specs.inner.Prelude.{IsSpelledAxis, axis_text, IsWrittenForm}
use Rattle.crs_rules.specs.Rewritten.{among, arranged, arranged_across, arranged_crs, ascending, renamed, rewritten, AreTextsOfAxes}
use Rattle.crs_rules.specs.Rules.{Meaning}
use Rattle.crs_rules.proofs.PartLemmas.{IsSoundMeaning}
use Rattle.crs_rules.proofs.CrsLemmas.{each-ascending, renamed-sound}

-- what is known of axes by themselves
abbrev pub AxesAreWritten : Type 0
AxesAreWritten = (level : Level) → IsWrittenForm IsAxis (SameAxisAlone level) (IsSpelledAxis level) (axis_text level)

-- the texts of axes that are computed
pub texts-of-axes : AxesAreWritten → AreTextsOfAxes (axis_text levels.Full)
texts-of-axes w = λ axis k. (w levels.Full).written axis (axis_text levels.Full axis) k refl

pub one-text : AxesAreWritten → (t u : AxisParts → List ℕ) → AreTextsOfAxes t → AreTextsOfAxes u →
    (axis : AxisParts) → IsAxis axis → t axis ≡ u axis
one-text w t u a b axis k = (w levels.Full).form.one axis (t axis) (u axis) k (a axis k) (b axis k)

module _ (t u : AxisParts → List ℕ) (e : (axis : AxisParts) → IsAxis axis → t axis ≡ u axis) where
  among-by : (x : AxisParts) (xs : List AxisParts) → IsAxis x → Each IsAxis xs → among t x xs ≡ among u x xs
  among-by x [] h k = refl
  among-by x (y ∷ ys) h k = rw (among-by x ys h k.1, e x h, e y k.0)

  ascending-by : (xs : List AxisParts) → Each IsAxis xs → ascending t xs ≡ ascending u xs
  ascending-by [] k = refl
  ascending-by (x ∷ xs) k = rw (ascending-by xs k.1) (among-by x (ascending u xs) k.0 (each-ascending u IsAxis xs k.1))

  arranged-by : (s : SystemParts) → IsSystem s → arranged t s ≡ arranged u s
  arranged-by s k = rw (ascending-by s.axes k.axes)

  across-by : (x : Horizontal) → IsHorizontal x → arranged_across t x ≡ arranged_across u x
  across-by (horizontals.Geodetic g) k = rw (arranged-by g.system k.0.system)
  across-by (horizontals.Projected p) k = rw (arranged-by p.system k.0.system)

  crs-by : (x : Crs) → IsCrs x → arranged_crs t x ≡ arranged_crs u x
  crs-by (crs.Geodetic g) k = rw (arranged-by g.system k.system)
  crs-by (crs.Projected p) k = rw (arranged-by p.system k.system)
  crs-by (crs.Vertical v) k = rw (arranged-by v.system k.system)
  crs-by (crs.Compound c) k = rw (across-by c.horizontal k.horizontal, arranged-by c.vertical.system k.vertical.system)

pub rewritten-by : (t u : AxisParts → List ℕ) (r : Meaning) → IsSoundMeaning r → (x : Crs) → IsCrs x →
    ((axis : AxisParts) → IsAxis axis → t axis ≡ u axis) → rewritten t r x ≡ rewritten u r x
rewritten-by t u r h x k e = rw (crs-by t u e (renamed r x) (renamed-sound r h x k))
