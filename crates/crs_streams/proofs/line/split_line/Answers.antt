use Rattle.crs_streams.proofs.SplitLemmas.{split-sliced, split-none}
use Rattle.crs_streams.proofs.line.split_line.Goals as goal

pub returns-in-Some : goal.returns-in-Some
returns-in-Some c = split-sliced c.args.bytes.now c.in-Some.at c.in-Some.ensures

pub returns-in-None : goal.returns-in-None
returns-in-None c = split-none c.args.bytes.now c.in-None.ensures
