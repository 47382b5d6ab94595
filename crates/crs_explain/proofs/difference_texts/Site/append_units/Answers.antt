use Rattle.std.proofs.Common.{◌∷◌, [], refl}
use Rattle.std.proofs.lemmas.Bool.Decides.{not_from_Decides}
use Rattle.std.proofs.lemmas.Result.{on_ok_weaker}
use Rattle.crs_same.specs.declared.step.Step.TheVariants as step
use Rattle.crs_explain.proofs.DifferingLemmas.{told}
use Rattle.crs_explain.proofs.difference_texts.Site.append_units.Goals as goal

pub returns : goal.returns
returns c =
    on_ok_weaker c.push.result
    (told c.args.self.level c.args.self.path.now (step.Unit ∷ []) _ _ _ c.args.out.now.items c.push.new.out.items _ _
    (not_from_Decides c.same_units_as.result c.same_units_as.ensures c.if-same_units_as.false)
    refl (refl, c.in_ok-unit_text.ensures, c.in_ok-unit_text-2.ensures))
    c.push.ensures
