use Rattle.crs_value.proofs.walk.JudgedLemmas.{the-first, the-other}
use Rattle.crs_value.proofs.judging.slots.EitherPart.judge.Goals as goal

pub returns-in-None : goal.returns-in-None
returns-in-None g c = the-other _ g.A.Part.classes g.B.Part.classes _ _ _ _ c.judge-in-None.result c.in-None.ensures c.judge-in-None.ensures

pub returns-in-Some : goal.returns-in-Some
returns-in-Some g c = the-first _ g.A.Part.classes g.B.Part.classes _ _ _ _ c.in-Some.ensures
