use Rattle.std.specs.Fmt.{digits}
use Rattle.crs_writer.proofs.spelling.idents_and_units.write_metre.Goals as goal

pub returns : goal.returns
unfolding digits
returns c = c.append.ensures
