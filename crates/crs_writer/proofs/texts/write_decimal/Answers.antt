use Rattle.crs_writer.proofs.NumberLemmas.{one-appended}
use Rattle.crs_writer.proofs.texts.write_decimal.Goals as goal

pub returns : goal.returns
returns c =
    one-appended c.plain_is_the_one.ensures.only c.args.value.now c.write.ensures.normal _ _ c.write.result
    c.write.ensures.spelled
