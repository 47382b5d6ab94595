use Rattle.crs_group.proofs.recent.Recent.keep.Goals as goal

pub returns : goal.returns
returns c level texts known has =
    c.keep_at.ensures level texts (c.exchange.ensures level texts (c.make_places.ensures level texts known)) has
