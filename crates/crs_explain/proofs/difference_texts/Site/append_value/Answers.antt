use Rattle.std.proofs.lemmas.Bool.Decides.{not_from_Decides}
use Rattle.std.proofs.lemmas.Result.{on_ok_weaker}
use Rattle.crs_explain.proofs.DifferingLemmas.{told-here}
use Rattle.crs_explain.proofs.difference_texts.Site.append_value.Goals as goal

pub returns : goal.returns
returns c =
    on_ok_weaker c.append_one.result
    (told-here c.args.self.level c.args.self.path.now _ _ _ c.args.out.now.items c.append_one.new.out.items
    (not_from_Decides c.same_value.result c.same_value.ensures c.if-same_value.false))
    c.append_one.ensures
