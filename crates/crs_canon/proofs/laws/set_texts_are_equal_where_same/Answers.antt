use Rattle.crs_canon.proofs.SetSameLemmas.{set-decides}
use Rattle.crs_canon.proofs.laws.set_texts_are_equal_where_same.Goals as goal

pub returns : goal.returns
returns g c level =
    set-decides g.T.Canonical.IsValue (g.T.Canonical.IsSpelling level) (g.T.Canonical.Same level)
    (c.laws.ensures.form level) c.closed_texts.ensures.front c.texts_are_in_order.ensures.one
