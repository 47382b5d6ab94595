-- A bridge: what is taken from the crates below for the laws of forms, as one fact.
use Rattle.std.specs.Prelude.{◌≡◌, ◌↔◌, ℕ, Bool, List, map}
use Rattle.std.specs.List.{list_all}
use Rattle.crs_text.specs.Written.{item_text}
use Rattle.crs_value.specs.Values.{ParameterParts, AxisParts, UsageParts}
use Rattle.crs_value.specs.NamedValues.{IdentParts, NamedParts}
use Rattle.crs_value.specs.Sound.{Each, IsAxis}
use Rattle.crs_value.specs.SoundParts.{IsParameter}
use Rattle.crs_value.specs.SoundCrs.{IsCrs}
use Rattle.crs_value.specs.Spells.{Spells}
use Rattle.crs_value.specs.declared.values.crs.Crs.{Crs}
use Rattle.crs_value.specs.declared.values.level.Level.{Level}
use Rattle.crs_value.specs.declared.values.level.Level.TheVariants as levels
use Rattle.crs_same.specs.SameCrs.{SameCrs}
use Rattle.crs_same.specs.Sameness.{IsSamenessOf}
use Rattle.crs_normal.specs.Normal.{IsNormalText}
use Rattle.crs_normal.specs.inner.SpelledItems.{StaysInOrder, item_ident, item_usage}
use Rattle.crs_normal.specs.inner.PartTexts.{axis_text, norm_axis_alone}
use Rattle.crs_normal.specs.inner.SpelledCrs.{item_geoid_model, item_parameter, norm_parameter, set_parameters, item_crs, norm_crs}
use Rattle.crs_normal.specs.inner.SpelledFrames.{item_member}
use Rattle.crs_writer.specs.Canonical.{IsCanonicalText}

-- what is known of sets, and of axes that have one text
pub record SetLaws : Type 0 where
  pub identifiers : StaysInOrder (λ (x : IdentParts). item_text (item_ident x))
  pub members : StaysInOrder (λ (x : NamedParts). item_text (item_member x))
  pub parameters : StaysInOrder (λ (x : ParameterParts). item_text (item_parameter x))
  pub geoid_models : StaysInOrder (λ (x : NamedParts). item_text (item_geoid_model x))
  pub usages : StaysInOrder (λ (x : UsageParts). item_text (item_usage x))
  pub tested : (level : Level) (test : ParameterParts → Bool) (xs : List ParameterParts) →
      Each IsParameter xs →
      list_all test (set_parameters level xs) ≡ list_all test (map (norm_parameter level) xs)
  pub axes_told : (a b : AxisParts) → IsAxis a → IsAxis b →
      axis_text levels.Full a ≡ axis_text levels.Full b →
      norm_axis_alone levels.Full a ≡ norm_axis_alone levels.Full b

-- what is known of CRSs in their one form, and of canonical texts
pub record FormLaws (level : Level) : Type 0 where
  pub sound : (text : List ℕ) (crs : Crs) → Spells text crs → IsCrs crs
  pub value : (text : List ℕ) (a b : Crs) → Spells text a → Spells text b → a ≡ b
  pub same : IsSamenessOf IsCrs (SameCrs level)
  pub equal : (a b : Crs) (first second : List ℕ) → IsCrs a → IsCrs b →
      IsCanonicalText level a first → IsCanonicalText level b second →
      (first ≡ second) ↔ SameCrs level a b
  pub normal : (crs : Crs) → IsCrs crs → IsNormalText level (item_text (item_crs (norm_crs level crs)))
  pub accepted : (crs : Crs) → IsCrs crs → Spells (item_text (item_crs (norm_crs level crs))) (norm_crs level crs)
  pub one_form : (crs : Crs) → IsCrs crs → SameCrs level crs (norm_crs level crs)
