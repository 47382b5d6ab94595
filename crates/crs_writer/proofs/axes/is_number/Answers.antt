use Rattle.std.proofs.lemmas.Bool.Decides.{same_from_decides}
use Rattle.crs_normal.specs.inner.Prelude.{is_number}
use Rattle.crs_writer.proofs.axes.is_number.Goals as goal

pub returns : goal.returns
returns c = same_from_decides c.is_whole.result (is_number c.args.value.now c.args.number) c.is_whole.ensures
    (c.whole_numbers_are_tested.ensures c.args.value.now c.args.number c.is_negative-normal.ensures.normal c.ranges.number.fits)
