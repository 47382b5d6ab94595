-- Sets of identifiers, members of ensembles, parameters, geoid models and usages: in order, their one forms are one list
-- exactly where they are the same set, since equal texts are of equal forms.
use Rattle.std.proofs.Common.{◌≡◌, ◌↔◌, List, codes, map-id, arith}
use Rattle.crs_text.specs.inner.Prelude.{item_text}
use Rattle.crs_shape.specs.declared.class.Class.TheVariants as class
use Rattle.crs_value.specs.inner.Prelude.{ParameterParts, UsageParts, NamedParts, ReadsIdent, ReadsNamed, ReadsParameter, ReadsUsage, IsIdent, IsNamed, IsParameter, IsReadOnce, IsUsage, kept, kept-each}
use Rattle.crs_value.specs.Sound.{Each}
use Rattle.crs_value.specs.Values.{IdentParts}
use Rattle.crs_value.specs.declared.values.level.Level.{Level}
use Rattle.crs_value.specs.declared.values.level.Level.TheVariants as levels
use Rattle.crs_same.specs.inner.Prelude.{SameIdent, SameIdents, SameNamed, SameParameter, SameSet, SameUsage}
use Rattle.crs_normal.specs.inner.LowerLaws.{LowerLaws}
use Rattle.crs_normal.specs.inner.Prelude.{item_geoid_model, item_ident, item_member, item_parameter, item_usage, norm_geoid_model, norm_member, norm_parameter, norm_usage, set_geoid_models, set_idents, set_members, set_parameters, set_usages}
use Rattle.crs_normal.proofs.made.FrameLemmas.{parameter-made}
use Rattle.crs_normal.proofs.made.IdentLemmas.{ident-made}
use Rattle.crs_normal.proofs.made.PartLemmas.{geoid-model-made, member-made}
use Rattle.crs_normal.proofs.made.TailLemmas.{usage-made}
use Rattle.crs_normal.proofs.members.IdentLemmas.{ident-agrees, ident-read}
use Rattle.crs_normal.proofs.members.MemberLemmas.{named-kept, named-read, usage-kept, usage-read}
use Rattle.crs_normal.proofs.members.ParameterLemmas.{parameter-kept, parameter-read}
use Rattle.crs_normal.proofs.members.SetLemmas.{set-agrees}
use Rattle.crs_normal.proofs.parts.PartLemmas.{told-of}
use Rattle.crs_normal.proofs.read.ViewLemmas.{keyword-names}
use Rattle.crs_normal.proofs.same.ConversionLemmas.{parameter-agrees}
use Rattle.crs_normal.proofs.same.UnitLemmas.{IdentsDecide, named-agrees}
use Rattle.crs_normal.proofs.same.UsageLemmas.{usage-agrees}

pub idents-agree : LowerLaws → IsReadOnce ReadsIdent → (level : Level) (xs ys : List IdentParts) → Each IsIdent xs → Each IsIdent ys →
    (set_idents level xs ≡ set_idents level ys) ↔ SameIdents level xs ys
unfolding set_idents
idents-agree laws once level xs ys p q =
    rw (map-id (kept level xs), map-id (kept level ys)) at
    (set-agrees (λ i. i) (λ i. item_text (item_ident i)) IsIdent SameIdent (λ a b s t. ident-agrees a b)
    (told-of laws item_ident once (omega arith) (ident-made laws levels.Full) ident-read) (kept level xs) (kept level ys)
    (kept-each (λ l. IsIdent) level xs p) (kept-each (λ l. IsIdent) level ys q))

pub parameter-told : LowerLaws → IsReadOnce ReadsParameter → (level : Level) (a b : ParameterParts) → IsParameter a → IsParameter b →
    item_text (item_parameter (norm_parameter level a)) ≡ item_text (item_parameter (norm_parameter level b)) →
    norm_parameter level a ≡ norm_parameter level b
parameter-told laws once level =
    told-of laws item_parameter once (omega arith) (parameter-made laws level)
    (λ x s. parameter-read laws (norm_parameter level x) (parameter-kept level x s))

module _ (laws : LowerLaws) (idents : IdentsDecide) (level : Level) where
  pub members-agree : IsReadOnce ReadsNamed → (xs ys : List NamedParts) → Each IsNamed xs → Each IsNamed ys →
      (set_members level xs ≡ set_members level ys) ↔ SameSet (SameNamed level) xs ys
  unfolding set_members
  members-agree once =
      set-agrees (norm_member level) (λ m. item_text (item_member m)) IsNamed (SameNamed level) (named-agrees idents level)
      (told-of laws item_member once (omega arith) (member-made laws level)
      (λ x s. named-read class.Member (codes "MEMBER") (keyword-names _ _) (norm_member level x) (named-kept level x s)))

  pub geoids-agree : IsReadOnce ReadsNamed → (xs ys : List NamedParts) → Each IsNamed xs → Each IsNamed ys →
      (set_geoid_models level xs ≡ set_geoid_models level ys) ↔ SameSet (SameNamed level) xs ys
  unfolding set_geoid_models
  geoids-agree once =
      set-agrees (norm_geoid_model level) (λ g. item_text (item_geoid_model g)) IsNamed (SameNamed level) (named-agrees idents level)
      (told-of laws item_geoid_model once (omega arith) (geoid-model-made laws level)
      (λ x s. named-read class.GeoidModel (codes "GEOIDMODEL") (keyword-names _ _) (norm_geoid_model level x) (named-kept level x s)))

  pub parameters-agree : IsReadOnce ReadsParameter → (xs ys : List ParameterParts) → Each IsParameter xs → Each IsParameter ys →
      (set_parameters level xs ≡ set_parameters level ys) ↔ SameSet (SameParameter level) xs ys
  unfolding set_parameters
  parameters-agree once =
      set-agrees (norm_parameter level) (λ x. item_text (item_parameter x)) IsParameter (SameParameter level)
      (parameter-agrees laws.normal_is_one idents level) (parameter-told laws once level)

  pub usages-agree : IsReadOnce ReadsUsage → (xs ys : List UsageParts) → Each IsUsage xs → Each IsUsage ys →
      (set_usages level xs ≡ set_usages level ys) ↔ SameSet SameUsage (kept level xs) (kept level ys)
  unfolding set_usages
  usages-agree once xs ys p q =
      set-agrees norm_usage (λ u. item_text (item_usage u)) IsUsage SameUsage (usage-agrees laws.normal_is_one idents)
      (told-of laws item_usage once (omega arith) (usage-made laws) (λ x s. usage-read laws (norm_usage x) (usage-kept x s)))
      (kept level xs) (kept level ys) (kept-each (λ l. IsUsage) level xs p) (kept-each (λ l. IsUsage) level ys q)
