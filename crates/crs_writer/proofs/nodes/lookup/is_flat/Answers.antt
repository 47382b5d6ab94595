use Rattle.std.proofs.Common.{rules}
use Rattle.crs_value.specs.inner.Prelude.{item_at}
use Rattle.crs_writer.proofs.FlatNodeLemmas.{leaves-by}
use Rattle.crs_writer.proofs.nodes.lookup.is_flat.Goals as goal

pub returns : goal.returns
returns c = λ h. leaves-by (item_at c.args.items.now c.args.id) (search rules)
