use Rattle.crs_streams.proofs.LineLemmas.{lines-cut, lines-one}
use Rattle.crs_streams.proofs.laws.lines_are_one.Goals as goal

pub returns-clause-one : goal.returns-clause-one
returns-clause-one c = lines-one

pub returns-clause-cut : goal.returns-clause-cut
returns-clause-cut c = lines-cut
