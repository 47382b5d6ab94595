use Rattle.std.proofs.Common.{arith, take}
use Rattle.std.proofs.lemmas.List.{length-take}
use Rattle.crs_text.proofs.words.WordLemmas.{no_keyword}
use Rattle.crs_text.proofs.keyword.front_keyword.Goals as goal

pub returns-then-count-eq1 : goal.returns-then-count-eq1
returns-then-count-eq1 c =
    no_keyword (take c.args.count c.args.left.now) (omega (arith, length-take c.args.count c.args.left.now, c.requires, c.if-count-eq1.true))
