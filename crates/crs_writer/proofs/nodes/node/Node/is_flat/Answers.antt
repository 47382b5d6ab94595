use Rattle.std.proofs.Common.{rules}
use Rattle.crs_writer.proofs.FlatNodeLemmas.{none-among}
use Rattle.crs_writer.proofs.nodes.node.Node.is_flat.Goals as goal

pub returns : goal.returns
returns c = search (rules, none-among)
