use Rattle.crs_same.proofs.sets.SetMembers.has_counterpart.Goals as goal

pub returns-in-None : goal.returns-in-None
returns-in-None g c = rw (← c.self.view_is, c.in-None.is) c.has_same.ensures
