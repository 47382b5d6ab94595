-- Units have one form exactly where they are the same: alone, as an asked kind, and where a missing one is the metre.
use Rattle.std.proofs.Common.{◌≡◌, [], Option, Some, None, codes, refl, sym, arith}
use Rattle.crs_shape.specs.declared.unit_kind.UnitKind.{UnitKind}
use Rattle.crs_shape.specs.declared.unit_kind.UnitKind.TheVariants as kinds
use Rattle.crs_value.specs.inner.Prelude.{IsIdent, IsNamed, IsUnit, IsUnitOf, Suits, UnitParts, kept-none}
use Rattle.crs_value.specs.Sound.{Each}
use Rattle.crs_value.specs.declared.values.level.Level.{Level}
use Rattle.crs_same.specs.inner.Prelude.{SameIdents, SameNamed, SameLength, SameUnit, or_metre, kind_as}
use Rattle.crs_normal.specs.inner.Decides.{FormDecides}
use Rattle.crs_normal.specs.inner.SpelledFrames.{norm_member}
use Rattle.crs_normal.specs.inner.SpelledItems.{metre, norm_length, norm_unit, set_idents, whole_value}
use Rattle.crs_normal.proofs.members.IdentLemmas.{none-form}
use Rattle.crs_normal.proofs.same.PartLemmas.{Maybe, NumbersDecide, values-agree}

-- ---- no identifiers, and a missing unit of length

pub none-formed : (level : Level) → set_idents level [] ≡ []
none-formed level = none-form level [] (kept-none level)

-- one that is missing has the form of its default
pub length-formed : (level : Level) (unit : Option UnitParts) → norm_length level unit ≡ norm_unit level kinds.Length (or_metre unit)
length-formed level None = λ i. record {
  kind = kinds.Length;
  name = codes "metre";
  factor = whole_value 1;
  identifiers = sym (none-formed level) i;
}
length-formed level (Some unit) = refl

pub metre-is : IsUnit metre
unfolding lib.Utf8.encode
metre-is = record {
  name = ((codes "metre", refl), (codes "metre", (refl, refl)));
  factor = refl;
  above_zero = (refl, λ e. absurd (omega arith));
  identifiers = tt;
}

pub given-length : (unit : Option UnitParts) → Maybe (IsUnitOf kinds.Length) unit → IsUnit (or_metre unit)
given-length None is = metre-is
given-length (Some unit) is = is.0

-- a unit that suits the asked kind is of that kind in its one form
pub suits-kind : (asked kind : UnitKind) → Suits asked kind → kind_as asked kind ≡ asked
suits-kind asked kind suits = grind (arith, suits)

-- ---- units

-- the one form decides which identifiers are the same
abbrev pub IdentsDecide : Type 0
IdentsDecide = (level : Level) → FormDecides (Each IsIdent) (set_idents level) (SameIdents level)

module _ (numbers : NumbersDecide) (idents : IdentsDecide) (level : Level) where
  pub unit-agrees : (asked : UnitKind) → FormDecides IsUnit (norm_unit level asked) (SameUnit asked level)
  unit-agrees asked a b in-a in-b = grind (arith, values-agree numbers, idents level)

  pub length-agrees : FormDecides (Maybe (IsUnitOf kinds.Length)) (norm_length level) (SameLength level)
  length-agrees a b in-a in-b =
      rw (length-formed level a, length-formed level b)
      (unit-agrees kinds.Length (or_metre a) (or_metre b) (given-length a in-a) (given-length b in-b))

-- ---- nodes of a name and identifiers

pub named-agrees : IdentsDecide → (level : Level) → FormDecides IsNamed (norm_member level) (SameNamed level)
named-agrees idents level a b in-a in-b = grind (arith, idents level)
