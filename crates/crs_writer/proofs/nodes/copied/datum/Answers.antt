use Rattle.std.proofs.Common.{rules}
use Rattle.crs_writer.proofs.CopiedPartLemmas.{IsPlainDatum, datum-copied}
use Rattle.crs_writer.specs.inner.Node.{item}
use Rattle.crs_writer.proofs.nodes.copied.datum.Goals as goal

pub returns : goal.returns
returns c =
    let form : IsPlainDatum c.args.level (item c.args.node.now) = search rules in
    search (rules, datum-copied)
