use Rattle.crs_same.specs.inner.Prelude.{agree-as-of, same-as-of}
use Rattle.crs_same.proofs.SamenessOfCrsLemmas.{crs-of}
use Rattle.crs_same.proofs.laws.same_crs_is_equivalence.Goals as goal

pub returns : goal.returns
returns c level =
    let is = c.parts_agree_where_same.ensures level in
    same-as-of is.crs
    (crs-of level (agree-as-of is.geodetic (c.same_node_is_equivalence.ensures.geodetic level)) (agree-as-of is.projected (c.same_node_is_equivalence.ensures.projected level))
    (agree-as-of is.vertical (c.same_node_is_equivalence.ensures.vertical level)) (agree-as-of is.compound (c.same_node_is_equivalence.ensures.compound level)))
