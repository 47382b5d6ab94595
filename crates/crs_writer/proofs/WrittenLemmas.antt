-- The sets of a part as they are written.
use Rattle.std.proofs.Common.{◌≡◌, ◌∙◌, List, Option, ap, map, refl, sym}
use Rattle.crs_text.specs.inner.Prelude.{End, item_text, others_text}
use Rattle.crs_value.specs.inner.Prelude.{GeoidModelParts, ParameterParts, MemberParts, UsageParts, kept, kept_one, kept-joined}
use Rattle.crs_value.specs.Values.{IdentParts}
use Rattle.crs_value.specs.declared.values.level.Level.{Level}
use Rattle.crs_same.specs.inner.Prelude.{with_bare}
use Rattle.crs_normal.specs.inner.Prelude.{item_geoid_model, item_parameter, norm_geoid_model, norm_parameter, set_geoid_models, set_parameters, item_member, norm_member, set_members, each, item_ident, set_idents, item_usage, norm_usage, set_usages}
use Rattle.crs_writer.specs.inner.Members.{set_text}
use Rattle.crs_writer.proofs.TextLemmas.{normal_set-written, set-written}

pub idents-written : (level : Level) (identifiers : List IdentParts) →
    others_text (each item_ident (set_idents level identifiers) End)
    ≡ set_text (map (λ i. item_text (item_ident i)) (kept level identifiers))
unfolding set_idents
idents-written level identifiers = set-written item_ident (kept level identifiers)

pub members-written : (level : Level) (members : List MemberParts) →
    others_text (each item_member (set_members level members) End)
    ≡ set_text (map (λ m. item_text (item_member (norm_member level m))) members)
unfolding set_members
members-written level members = normal_set-written item_member (norm_member level) members

pub parameters-written : (level : Level) (parameters : List ParameterParts) →
    others_text (each item_parameter (set_parameters level parameters) End)
    ≡ set_text (map (λ p. item_text (item_parameter (norm_parameter level p))) parameters)
unfolding set_parameters
parameters-written level parameters = normal_set-written item_parameter (norm_parameter level) parameters

pub geoid_models-written : (level : Level) (models : List GeoidModelParts) →
    others_text (each item_geoid_model (set_geoid_models level models) End)
    ≡ set_text (map (λ g. item_text (item_geoid_model (norm_geoid_model level g))) models)
unfolding set_geoid_models
geoid_models-written level models = normal_set-written item_geoid_model (norm_geoid_model level) models

-- the bare usage may be kept by itself, beside the others
pub usages-written : (level : Level) (bare : Option UsageParts) (usages : List UsageParts) →
    others_text (each item_usage (set_usages level (with_bare bare usages)) End)
    ≡ set_text (map (λ u. item_text (item_usage (norm_usage u))) (with_bare (kept_one level bare) (kept level usages)))
unfolding set_usages
usages-written level bare usages =
    normal_set-written item_usage norm_usage (kept level (with_bare bare usages))
    ∙ ap (λ us. set_text (map (λ u. item_text (item_usage (norm_usage u))) us))
    (sym (kept-joined with_bare refl level bare usages))

pub ruleset written_rules = (idents-written, members-written, parameters-written, geoid_models-written, usages-written)
