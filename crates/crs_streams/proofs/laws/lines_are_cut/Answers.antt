use Rattle.crs_streams.proofs.CutLemmas.{cuts-lines}
use Rattle.crs_streams.proofs.laws.lines_are_cut.Goals as goal

pub returns : goal.returns
returns c = cuts-lines
