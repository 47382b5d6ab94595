use Rattle.std.proofs.Common.{◌∷◌, [], refl}
use Rattle.std.proofs.lemmas.Bool.Decides.{not_from_Decides}
use Rattle.std.proofs.lemmas.Result.{on_ok_weaker}
use Rattle.crs_same.specs.declared.step.Step.TheVariants as step
use Rattle.crs_explain.proofs.DifferingLemmas.{told}
use Rattle.crs_explain.proofs.difference_texts.Site.append_ids.Goals as goal

pub returns : goal.returns
returns c =
    on_ok_weaker c.push.result
    (told c.args.self.level c.args.self.path.now (step.Id ∷ []) _ _ _ c.args.out.now.items c.push.new.out.items _ _
    (not_from_Decides c.same_idents.result c.same_idents.ensures c.if-same_idents.false)
    refl (refl, c.in_ok-first.ensures, c.in_ok-second.ensures))
    c.push.ensures
