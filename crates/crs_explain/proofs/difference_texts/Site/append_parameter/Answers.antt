use Rattle.std.proofs.Common.{◌≡◌, ◌∷◌, [], OnOk, rules, subst}
use Rattle.std.proofs.lemmas.Result.{on_ok_weaker}
use Rattle.std.specs.Option.{option_copied}
use Rattle.crs_shape.specs.declared.unit_kind.UnitKind.TheVariants as kinds
use Rattle.crs_value.specs.inner.Prelude.{ParameterParts}
use Rattle.crs_same.specs.inner.Prelude.{◌⨾◌, identifiers, numbers, units}
use Rattle.crs_same.specs.declared.step.Step.TheVariants as step
use Rattle.crs_explain.specs.inner.Appended.{AppendsTexts}
use Rattle.crs_explain.specs.Differing.{AreTextsOfParts, parts_of_parameter}
use Rattle.crs_explain.proofs.DifferingLemmas.{both}
use Rattle.crs_explain.proofs.difference_texts.Site.append_parameter.Goals as goal

pub returns : goal.returns
returns c =
    let level = c.args.self.level in
    let front = c.args.self.path.now in
    let a = c.a.inside in
    let b = c.b.inside in
    let first = numbers [] a.value b.value in
    let second = units (step.Unit ∷ []) level kinds.Plain kinds.Plain a.unit b.unit in
    let third = identifiers (step.Id ∷ []) level a.identifiers b.identifiers in
    let out = c.append_value.new.out.items in
    let further = c.append_units.new.out.items in
    let unit : option_copied c.as_ref.result ≡ a.unit = search rules in
    let other_unit : option_copied c.as_ref-2.result ≡ b.unit = search rules in
    let told : AppendsTexts (AreTextsOfParts level front second) out further =
    subst (λ u. AppendsTexts (AreTextsOfParts level front (units (step.Unit ∷ []) level kinds.Plain kinds.Plain u b.unit)) out further) unit
    (subst (λ u. AppendsTexts (AreTextsOfParts level front (units (step.Unit ∷ []) level kinds.Plain kinds.Plain (option_copied c.as_ref.result) u)) out further)
    other_unit c.in_ok-append_units.ensures) in
    let viewed : ParameterParts = record { name = a.name.now; value = a.value; unit = a.unit; identifiers = a.identifiers } in
    let Told = λ (p q : ParameterParts). OnOk c.append_ids.result
    (AppendsTexts (AreTextsOfParts level front (parts_of_parameter level p q)) c.args.out.now.items c.append_ids.new.out.items) in
    subst (λ p. Told p c.args.b.now) c.a.view_is
    (subst (λ q. Told viewed q) c.b.view_is
    (on_ok_weaker c.append_ids.result
    (λ rest. both level front first (second ⨾ third) c.args.out.now.items out c.append_ids.new.out.items c.in_ok-append_value.ensures
    (both level front second third out further c.append_ids.new.out.items told rest))
    c.append_ids.ensures))
