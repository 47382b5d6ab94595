use Rattle.std.proofs.Common.{rules}
use Rattle.crs_writer.proofs.CopiedPartLemmas.{IsPlainUsage, usage-copied}
use Rattle.crs_writer.specs.inner.Node.{item}
use Rattle.crs_writer.proofs.nodes.copied.usage.Goals as goal

pub returns : goal.returns
returns c =
    let form : IsPlainUsage (item c.args.node.now) = search rules in
    search (rules, usage-copied c.args.level)
