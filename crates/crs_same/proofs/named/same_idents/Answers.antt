use Rattle.crs_same.proofs.OnceLemmas.{idents-once}
use Rattle.crs_same.proofs.named.same_idents.Goals as goal

pub returns : goal.returns
returns c =
    let these = idents-once c.args.level c.as_set.result.now c.args.a.now c.as_set-2.result.now c.args.b.now c.as_set.ensures c.as_set-2.ensures in
    let same = c.same_kept_idents.ensures in
    (λ yes. these.0 (same.0 yes), λ all. same.1 (these.1 all))
