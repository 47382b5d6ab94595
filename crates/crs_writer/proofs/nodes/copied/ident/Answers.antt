use Rattle.std.proofs.Common.{rules}
use Rattle.crs_writer.proofs.CopiedLemmas.{ident-copied}
use Rattle.crs_writer.proofs.nodes.copied.ident.Goals as goal

pub returns : goal.returns
returns c = search (rules, ident-copied)
