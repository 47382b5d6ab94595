use Rattle.crs_streams.proofs.LineLemmas.{last-line}
use Rattle.crs_streams.proofs.line.first_line.Goals as goal

pub returns-in-None-clause-lines : goal.returns-in-None-clause-lines
returns-in-None-clause-lines c = λ lines h. last-line c.args.bytes.now lines c.requires c.in-None.ensures h
