use Rattle.std.proofs.Common.{◌+◌, arith}
use Rattle.crs_text.proofs.texts.PositionLemmas.{no_feed, none_behind}
use Rattle.crs_text.proofs.position.last_line.Goals as goal

pub returns-in-Some-clause-one_line : goal.returns-in-Some-clause-one_line
returns-in-Some-clause-one_line c = none_behind c.args.bytes.now (c.in-Some.feed + 1) c.in-Some.ensures.0.after

pub returns-in-None-clause-one_line : goal.returns-in-None-clause-one_line
returns-in-None-clause-one_line c = no_feed c.args.bytes.now (λ k lt. c.in-None.ensures k (omega arith) lt)
