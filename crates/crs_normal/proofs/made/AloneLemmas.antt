-- An axis by itself is accepted, and normal but for a unit that is `UNIT`.
use Rattle.std.proofs.Common.{◌≢◌, ℕ, Option, Some, None, List, [], ◌∷◌, codes, IfSome, inl, inr, refl, arith}
use Rattle.crs_decimal.specs.inner.Prelude.{IsNormal}
use Rattle.crs_text.specs.inner.Prelude.{Item, Siblings, End, More, arguments, at_place}
use Rattle.crs_shape.specs.declared.class.Class.{Class}
use Rattle.crs_shape.specs.declared.class.Class.TheVariants as class
use Rattle.crs_shape.specs.declared.unit_kind.UnitKind.{UnitKind}
use Rattle.crs_shape.specs.declared.unit_kind.UnitKind.TheVariants as kinds
use Rattle.crs_shape.specs.inner.Prelude.{is_keyword, slots_of, direction_word}
use Rattle.crs_value.specs.inner.Prelude.{those, IsAxis, IsAxisUnit, IsUnit, AxisParts, UnitParts, Own as BreaksOwn}
use Rattle.crs_value.specs.declared.values.level.Level.{Level}
use Rattle.crs_same.specs.inner.Prelude.{kind_as}
use Rattle.crs_normal.specs.AxisAlone.{AreNormalArguments, IsNormalArgument, IsNormalAxis}
use Rattle.crs_normal.specs.inner.LowerLaws.{LowerLaws}
use Rattle.crs_normal.specs.Normal.{IsNormalIn}
use Rattle.crs_normal.specs.inner.Prelude.{norm_axis_alone, number_node, item_axis, item_axis_meridian, norm_axis_meridians, item_unit, norm_units}
use Rattle.crs_normal.proofs.made.AxisLemmas.{axis-meridians-made, known-direction, order-argument, axis-names, direction-letters}
use Rattle.crs_normal.proofs.made.IdentLemmas.{ids-orderly, ids-of, unit-arguments, unit-made, unit-unbroken, unit_as, IsKindIn}
use Rattle.crs_normal.proofs.made.LeafLemmas.{word-made}
use Rattle.crs_normal.proofs.made.NodeLemmas.{Stands, node-stands, Made, MadeBy, as-argument, AreNormalBy, fine-as}
use Rattle.crs_normal.proofs.parts.PartLemmas.{IsStanding}
use Rattle.crs_normal.proofs.read.ViewLemmas.{keyword-names, each-so}
use Rattle.crs_normal.proofs.made.ArgumentLemmas.{ArgumentBy, as_runs, fits, laid, may-of, one-of, runs-made, node-made, Argument, text-of}
use Rattle.crs_normal.proofs.texts.SegmentLemmas.{some-imp}

-- ---- the arguments of an axis by itself

abbrev AsArgument : Level → Class → Class → Item → Type 0
AsArgument level parent d item = IsNormalArgument level d item

made-alone : (level : Level) (most : ℕ) (d : Class) (j : Item) → Made level most class.Axis d j →
    MadeBy (AsArgument level) most class.Axis d j
made-alone level most d j m = record { named = m.named; fine = λ p. fine-as (omega arith) (λ n. inl n) (m.fine p) }

abbrev as-alone : {level : Level} {most : ℕ} → Argument level most class.Axis →
    ArgumentBy (AsArgument level) most class.Axis
as-alone {level = level} {most = most} a = record {
  of = a.of;
  items = a.items;
  onto = a.onto;
  lined = a.lined;
  made = each-so _ _ (made-alone level most a.of) a.items a.made;
  some = a.some;
  few = a.few;
}

all-normal-alone : (level : Level) (items : Siblings) → AreNormalBy (AsArgument level) class.Axis items →
    AreNormalArguments level items
all-normal-alone level End h = tt
all-normal-alone level (More item items) h = (h.0, all-normal-alone level items h.1)

-- ---- its unit

module _ (l : LowerLaws) (level : Level) (u : UnitParts) (h : IsUnit u) where
  -- `UNIT` is accepted as a unit of an axis
  plain-stands : (p : ℕ) → Stands (λ i. AreNormalBy (IsNormalIn level) class.AxisUnit (arguments i)) class.AxisUnit 3
      (at_place p (item_unit (unit_as level kinds.Plain u)))
  unfolding is_keyword
  plain-stands p =
      let all = unit-arguments l level class.AxisUnit kinds.Length u (inl refl) h in
      node-stands (IsNormalIn level) 2 class.AxisUnit (codes "UNIT") _ _ (as_runs all) (laid all) (refl, refl) refl
      (runs-made all) (fits (slots_of class.AxisUnit) all refl)
      (λ item fault s. unit-unbroken l class.AxisUnit kinds.Length u (inl refl) h item fault (s.view class.Number)) p

  plain-alone : MadeBy (AsArgument level) 4 class.Axis class.AxisUnit (item_unit (unit_as level kinds.Plain u))
  plain-alone = record {
    named = keyword-names class.Axis (codes "UNIT");
    fine = λ p. fine-as (omega arith)
        (λ n. inr (refl, (unit-made l level class.PlainUnit kinds.Plain u refl h p).1.normal class.Axis)) (plain-stands p).1;
  }

  suited : (kind : UnitKind) → IsKindIn class.AxisUnit kind →
      MadeBy (AsArgument level) 4 class.Axis class.AxisUnit (item_unit (unit_as level kind u))
  suited kind k =
      made-alone level 4 class.AxisUnit (item_unit (unit_as level kind u))
      (as-argument (omega arith) (axis-names kind k) (unit-made l level class.AxisUnit kind u k h))

  unit-alone : (kind : UnitKind) → kind ≢ kinds.Scale →
      MadeBy (AsArgument level) 4 class.Axis class.AxisUnit (item_unit (unit_as level (kind_as kinds.Plain kind) u))
  unit-alone kinds.Length n = suited kinds.Length (inl refl)
  unit-alone kinds.Angle n = suited kinds.Angle (inr refl)
  unit-alone kinds.Scale n = absurd (n refl)
  unit-alone kinds.Plain n = plain-alone

units-alone : LowerLaws → (level : Level) (o : Option UnitParts) → IfSome o IsAxisUnit →
    IfSome (norm_units level kinds.Plain o) (λ u. MadeBy (AsArgument level) 4 class.Axis class.AxisUnit (item_unit u))
units-alone l level None h = tt
units-alone l level (Some u) h = unit-alone l level u h.0 u.kind h.1

-- ---- the axis

module _ (l : LowerLaws) (level : Level) (x : AxisParts) (h : IsAxis x) where
  abbrev alone_arguments : List (ArgumentBy (AsArgument level) 4 class.Axis)
  alone_arguments =
      as-alone (text-of x.name h.name) ∷ as-alone (one-of (word-made
      level 4 class.Axis (direction_word x.direction) (direction-letters x.direction) (x.direction, refl))) ∷
      as-alone (may-of class.AxisMeridian item_axis_meridian (norm_axis_meridians level x.meridian)
      (axis-meridians-made l level x.meridian h.meridian)) ∷
      as-alone (may-of class.Order (number_node (codes "ORDER")) x.order
      (some-imp IsNormal _ (order-argument l level) x.order h.order)) ∷
      may-of class.AxisUnit item_unit (norm_units level kinds.Plain x.unit) (units-alone l level x.unit h.unit) ∷
      as-alone (ids-of l x.identifiers (omega arith) (keyword-names class.Axis (codes "ID")) h.identifiers) ∷ []

  pub axis-stands : IsStanding class.Axis (IsNormalAxis level) (at_place 0 (item_axis (norm_axis_alone level x)))
  unfolding is_keyword BreaksOwn
  axis-stands =
      let m = node-made level 4 class.Axis (codes "AXIS") _ _ alone_arguments refl (refl, refl)
      refl refl refl (ids-orderly level x.identifiers) (λ item s r. tt)
      (λ item fault s. known-direction x.direction (those class.Axis class.Word (arguments item)) fault
      (s.view class.Word))
      (AreNormalArguments level) (all-normal-alone level) 0 in
      (m.0.0, fine-as (omega arith) (λ n. m.1) m.0.1)
