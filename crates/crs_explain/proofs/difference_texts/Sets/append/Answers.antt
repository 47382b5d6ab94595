use Rattle.std.proofs.lemmas.Result.{on_ok_weaker}
use Rattle.crs_explain.proofs.DifferingLemmas.{set}
use Rattle.crs_explain.proofs.difference_texts.Sets.append.Goals as goal

pub returns : goal.returns
returns c =
    on_ok_weaker c.append_others.result
    (set c.args.self.at.level c.args.self.at.path.now c.args.self.these.now c.args.self.others.now _ _ _ _ c.in_ok-names.ensures c.in_ok-append_names.ensures)
    c.append_others.ensures
