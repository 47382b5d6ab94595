use Rattle.std.proofs.Common.{rules}
use Rattle.crs_explain.proofs.ExcerptLemmas.{excerpt_of}
use Rattle.crs_explain.proofs.excerpt.excerpt.Goals as goal

pub returns : goal.returns
returns c =
    let l = c.before_place-left.ensures in
    let r = c.behind_place-right.ensures in
    excerpt_of c.args.text.now c.args.place c.shown_place-shown.result c.position_of-position.result _ _ l.0 c.before_place-left.result.now c.behind_place-right.result.now r.0 _
    c.shown_place-shown.ensures.value c.position_of-position.ensures.position c.between.ensures c.between-2.ensures l.1 r.1 (search rules)
