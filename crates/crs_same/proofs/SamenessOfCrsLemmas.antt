-- The sameness of coordinate reference systems.
use Rattle.crs_shape.specs.declared.unit_kind.UnitKind.TheVariants as kinds
use Rattle.crs_value.specs.declared.values.compound.Horizontal.{Horizontal}
use Rattle.crs_value.specs.declared.values.compound.Horizontal.TheVariants as horizontal
use Rattle.crs_value.specs.declared.values.crs.Crs.{Crs}
use Rattle.crs_value.specs.declared.values.crs.Crs.TheVariants as crs
use Rattle.crs_value.specs.declared.values.level.Level.{Level}
use Rattle.crs_value.specs.inner.Prelude.{kind_by, kind_of, IsCompound, IsCrs, IsGeodetic, IsProjected, IsVertical, IsSystem}
use Rattle.crs_same.specs.inner.Prelude.{IsSameness, IsSamenessOf, SameGeoidModel, SameIdents, SameUnit, equal-by, by, ◌⊗◌, in-words, over, of, optional, set}
use Rattle.crs_same.specs.inner.Agreement.{AgreeConversion, AgreeGeodetic, AgreeBase, AgreeProjected, AgreeVertical, AgreeHorizontal, AgreeCompound, AgreeParts, AgreeCrs, AgreeDynamic, AgreeMeridian, AgreeFrame, AgreeSystem, AgreeTail}
use Rattle.crs_same.specs.SameCrs.{IsHorizontalPart}
use Rattle.crs_same.proofs.AgreementLemmas.{horizontal-part}

pub base : (level : Level) → IsSameness (AgreeDynamic level) → IsSameness (AgreeFrame level) → IsSameness (AgreeMeridian level) →
    IsSameness (SameUnit kinds.Angle level) →
    IsSameness (SameIdents level) → IsSameness (AgreeBase level)
base level dynamics frames meridians angle identifiers =
    in-words
    (equal-by (λ a. a.name) ⊗ by (λ a. a.dynamic) (optional dynamics) ⊗ by (λ a. a.frame) frames ⊗ by (λ a. a.meridian) meridians
    ⊗ by (λ a. a.unit) (optional angle) ⊗ by (λ a. a.identifiers) identifiers) (assumption) (assumption)

module _ (level : Level) (systems : IsSamenessOf IsSystem (AgreeSystem level)) (ends : IsSameness (AgreeTail level)) where
  pub geodetic : IsSameness (AgreeDynamic level) → IsSameness (AgreeFrame level) → IsSameness (AgreeMeridian level) →
      IsSamenessOf IsGeodetic (AgreeGeodetic level)
  geodetic dynamics frames meridians =
      over (in-words
      (equal-by (λ x. kind_by x.0.system.system_type) ⊗ equal-by (λ x. x.0.name)
      ⊗ by (λ x. x.0.dynamic) (optional dynamics) ⊗ by (λ x. x.0.frame) frames
      ⊗ by (λ x. x.0.meridian) meridians ⊗ by (λ x. (x.0.system, x.1.system)) (of systems) ⊗ by (λ x. x.0.tail) ends) (assumption) (assumption))

  pub projected : IsSameness (AgreeBase level) → IsSameness (AgreeConversion level) →
      IsSamenessOf IsProjected (AgreeProjected level)
  projected bases conversions =
      over (in-words
      (equal-by (λ x. x.0.name) ⊗ by (λ x. x.0.base) bases ⊗ by (λ x. x.0.conversion) conversions
      ⊗ by (λ x. (x.0.system, x.1.system)) (of systems) ⊗ by (λ x. x.0.tail) ends) (assumption) (assumption))

  pub vertical : IsSameness (AgreeDynamic level) → IsSameness (AgreeFrame level) → IsSameness (SameGeoidModel level) →
      IsSamenessOf IsVertical (AgreeVertical level)
  vertical dynamics frames models =
      over (in-words
      (equal-by (λ x. x.0.name) ⊗ by (λ x. x.0.dynamic) (optional dynamics) ⊗ by (λ x. x.0.frame) frames ⊗ by (λ x. (x.0.system, x.1.system)) (of systems)
      ⊗ by (λ x. x.0.geoid_models) (set models) ⊗ by (λ x. x.0.tail) ends) (assumption) (assumption))

-- ---- compounds

pub horizontal-of : (level : Level) → IsSamenessOf IsGeodetic (AgreeGeodetic level) →
    IsSamenessOf IsProjected (AgreeProjected level) →
    IsSamenessOf IsHorizontalPart (AgreeHorizontal level)
horizontal-of level g p = record { reflexive = itself; symmetric = swapped; transitive = joined }
  where
    itself : (a : Horizontal) → IsHorizontalPart a → AgreeHorizontal level a a
    itself (horizontal.Geodetic a) is = g.reflexive a is
    itself (horizontal.Projected a) is = p.reflexive a is

    swapped : (a b : Horizontal) → IsHorizontalPart a → IsHorizontalPart b → AgreeHorizontal level a b →
        AgreeHorizontal level b a
    swapped (horizontal.Geodetic a) (horizontal.Geodetic b) x y s = g.symmetric a b x y s
    swapped (horizontal.Projected a) (horizontal.Projected b) x y s = p.symmetric a b x y s
    swapped a b x y s = absurd s

    joined : (a b c : Horizontal) → IsHorizontalPart a → IsHorizontalPart b → IsHorizontalPart c →
        AgreeHorizontal level a b → AgreeHorizontal level b c → AgreeHorizontal level a c
    joined (horizontal.Geodetic a) (horizontal.Geodetic b) (horizontal.Geodetic c) x y z s t =
        g.transitive a b c x y z s t
    joined (horizontal.Projected a) (horizontal.Projected b) (horizontal.Projected c) x y z s t =
        p.transitive a b c x y z s t
    joined a b c x y z s t = absurd assumption

pub compound : (level : Level) → IsSamenessOf IsHorizontalPart (AgreeHorizontal level) →
    IsSamenessOf IsVertical (AgreeVertical level) →
    IsSameness (AgreeTail level) → IsSamenessOf IsCompound (AgreeCompound level)
compound level horizontals verticals ends =
    over (in-words
    (equal-by (λ x. x.0.name)
    ⊗ by (λ x. (x.0.horizontal, horizontal-part x.0.horizontal x.1.horizontal)) (of horizontals)
    ⊗ by (λ x. (x.0.vertical, x.1.vertical)) (of verticals) ⊗ by (λ x. x.0.tail) ends) (assumption) (assumption))

-- ---- of each kind

module _ (level : Level)
    (g : IsSamenessOf IsGeodetic (AgreeGeodetic level)) (p : IsSamenessOf IsProjected (AgreeProjected level))
    (v : IsSamenessOf IsVertical (AgreeVertical level)) (c : IsSamenessOf IsCompound (AgreeCompound level)) where
  parts : IsSamenessOf IsCrs (AgreeParts level)
  parts = record { reflexive = itself; symmetric = swapped; transitive = joined }
    where
      itself : (a : Crs) → IsCrs a → AgreeParts level a a
      itself (crs.Geodetic a) is = g.reflexive a is
      itself (crs.Projected a) is = p.reflexive a is
      itself (crs.Vertical a) is = v.reflexive a is
      itself (crs.Compound a) is = c.reflexive a is

      swapped : (a b : Crs) → IsCrs a → IsCrs b → AgreeParts level a b → AgreeParts level b a
      swapped (crs.Geodetic a) (crs.Geodetic b) x y s = g.symmetric a b x y s
      swapped (crs.Projected a) (crs.Projected b) x y s = p.symmetric a b x y s
      swapped (crs.Vertical a) (crs.Vertical b) x y s = v.symmetric a b x y s
      swapped (crs.Compound a) (crs.Compound b) x y s = c.symmetric a b x y s
      swapped a b x y s = absurd s

      joined : (a b d : Crs) → IsCrs a → IsCrs b → IsCrs d → AgreeParts level a b → AgreeParts level b d →
          AgreeParts level a d
      joined (crs.Geodetic a) (crs.Geodetic b) (crs.Geodetic d) x y z s t = g.transitive a b d x y z s t
      joined (crs.Projected a) (crs.Projected b) (crs.Projected d) x y z s t = p.transitive a b d x y z s t
      joined (crs.Vertical a) (crs.Vertical b) (crs.Vertical d) x y z s t = v.transitive a b d x y z s t
      joined (crs.Compound a) (crs.Compound b) (crs.Compound d) x y z s t = c.transitive a b d x y z s t
      joined a b d x y z s t = absurd assumption

  pub crs-of : IsSamenessOf IsCrs (AgreeCrs level)
  crs-of =
      over (in-words (equal-by (λ x. kind_of x.0) ⊗ of parts) (assumption) (assumption))
