use Rattle.std.proofs.lemmas.Result.{IfOk-weaker}
use Rattle.crs_desk.proofs.FormsLemmas.{parts-found}
use Rattle.crs_desk.proofs.runs.under.told_under.Goals as goal

pub returns : goal.returns
returns c =
    let words = c.args.told.words.now in
    let level = c.args.under.level in
    IfOk-weaker c.told_parts.result _ _
    (λ output told. (
      _,
      _,
      parts-found (λ texts. texts.items) words level c.args.a.now c.args.b.now _ c.in_ok-before.ensures.parts,
      parts-found (λ texts. texts.items) words level _ _ _
          (rw (c.rewrite_parts.ensures, c.rewrite_parts-2.ensures) at c.in_ok-after.ensures.parts),
      told.0,
      told.1,
    ))
    c.told_parts.ensures
