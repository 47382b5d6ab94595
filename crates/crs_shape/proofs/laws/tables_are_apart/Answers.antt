use Rattle.crs_shape.proofs.walks.TableLemmas.{apart_tables}
use Rattle.crs_shape.proofs.laws.tables_are_apart.Goals as goal

pub returns : goal.returns
returns c = apart_tables
