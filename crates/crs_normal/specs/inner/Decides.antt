-- A bridge: one form decides sameness: two values have the same form exactly where they are the same.
use Rattle.std.specs.Prelude.{◌≡◌, ◌↔◌}
use Rattle.crs_value.specs.Sound.{Each, IsIdent, IsUsage}
use Rattle.crs_value.specs.SoundParts.{IsGeoidModel, IsParameter, IsMember}
use Rattle.crs_value.specs.SoundCrs.{IsCrs}
use Rattle.crs_value.specs.Kept.{kept}
use Rattle.crs_value.specs.declared.values.level.Level.{Level}
use Rattle.crs_same.specs.SameParts.{SameGeoidModel, SameParameter, SameMember, SameUsage}
use Rattle.crs_same.specs.SameCrs.{SameCrs}
use Rattle.crs_same.specs.SameIdents.{SameIdents, SameSet}
use Rattle.crs_normal.specs.inner.SpelledCrs.{set_geoid_models, set_parameters, norm_crs}
use Rattle.crs_normal.specs.inner.SpelledFrames.{set_members}
use Rattle.crs_normal.specs.inner.SpelledItems.{set_idents, set_usages}

-- values for which `Is` holds have the same form exactly where they are the same
abbrev pub FormDecides : {A B : Type 0} → (A → Type 0) → (A → B) → (A → A → Type 0) → Type 0
FormDecides Is form Same = (a b : _) → Is a → Is b → (form a ≡ form b) ↔ Same a b

-- they do so at each level
abbrev pub FormsDecide : {A B : Type 0} → (A → Type 0) → (Level → A → B) → (Level → A → A → Type 0) → Type 0
FormsDecide Is form Same = (level : Level) → FormDecides Is (form level) (Same level)

-- the forms of sets decide which sets are the same; of usages the level may leave some out
pub record SetsDecide : Type 0 where
  pub idents : FormsDecide (Each IsIdent) set_idents SameIdents
  pub members : FormsDecide (Each IsMember) set_members (λ level. SameSet (SameMember level))
  pub parameters : FormsDecide (Each IsParameter) set_parameters (λ level. SameSet (SameParameter level))
  pub geoid_models : FormsDecide (Each IsGeoidModel) set_geoid_models (λ level. SameSet (SameGeoidModel level))
  pub usages : FormsDecide (Each IsUsage) set_usages (λ level xs ys. SameSet SameUsage (kept level xs) (kept level ys))

-- the one form of a CRS decides sameness, at each level
abbrev pub DecidesSameness : Type 0
DecidesSameness = FormsDecide IsCrs norm_crs SameCrs
