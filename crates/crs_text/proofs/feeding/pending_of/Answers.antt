use Rattle.std.proofs.Common.{arith, rules}
use Rattle.crs_decimal.specs.inner.Prelude.{is_run_byte}
use Rattle.crs_text.specs.Tokens.{is_word_byte}
use Rattle.crs_text.proofs.settled.FeedingLemmas.{all_full}
use Rattle.crs_text.proofs.feeding.pending_of.Goals as goal

pub returns-in-65-to-90 : goal.returns-in-65-to-90
returns-in-65-to-90 c =
    (search rules, all_full is_word_byte c.args.left.now (omega (arith, c.length.ensures.value, c.if-length-left.true)))

pub returns-in-48-to-57 : goal.returns-in-48-to-57
returns-in-48-to-57 c =
    (search rules, all_full is_run_byte c.args.left.now (omega (arith, c.length-2.ensures.value, c.if-length-left-2.true)))
