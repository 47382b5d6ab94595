use Rattle.std.proofs.Common.{ap, arith}
use Rattle.std.specs.List.{prefix_len}
use Rattle.crs_text.specs.Tokens.{is_white}
use Rattle.crs_text.proofs.settled.FeedingLemmas.{settled_start}
use Rattle.crs_text.proofs.feeder.cut_back.Goals as goal

pub returns-clause-settled : goal.returns-clause-settled
returns-clause-settled c =
    settled_start c.truncate.new.self.items c.new-2.result c.after_white.result c.new-2.ensures (omega (arith, c.after_white.ensures, ap (prefix_len is_white) c.deref.ensures.value))
