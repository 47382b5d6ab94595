use Rattle.std.proofs.Common.{rules}
use Rattle.crs_writer.proofs.CopiedLemmas.{IsPlainMethod, method-copied}
use Rattle.crs_writer.specs.inner.Node.{item}
use Rattle.crs_writer.proofs.nodes.copied.method.Goals as goal

pub returns : goal.returns
returns c =
    let form : IsPlainMethod c.args.level (item c.args.node.now) = search rules in
    search (rules, method-copied)
