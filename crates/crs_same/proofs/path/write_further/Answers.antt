use Rattle.std.proofs.Common.{◌∷◌, [], length, take, ap, ◌∙◌}
use Rattle.crs_same.proofs.FrontLemmas.{take-more, front-of-front}
use Rattle.crs_same.proofs.path.write_further.Goals as goal

pub returns-in_err-write-clause-front : goal.returns-in_err-write-clause-front
returns-in_err-write-clause-front c =
    front-of-front c.args.out.now.items c.push.new.self.items c.write.new.out.items
    (ap (take (length c.args.out.now.items)) c.in_ok-push.ensures.items
    ∙ take-more c.args.out.now.items c.loop-step.out.items (47 ∷ []) c.loop-step.invariant.0) c.write.ensures.front
