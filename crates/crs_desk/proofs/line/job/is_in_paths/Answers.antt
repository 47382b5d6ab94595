use Rattle.crs_desk.proofs.PathWordLemmas.{in_paths}
use Rattle.crs_desk.proofs.line.job.is_in_paths.Goals as goal

pub returns : goal.returns
returns c = in_paths c.args.word.now c.is_among.result c.is_among.ensures
