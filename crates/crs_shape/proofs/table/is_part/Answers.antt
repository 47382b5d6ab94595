use Rattle.std.proofs.Common.{◌∙◌, ap}
use Rattle.crs_shape.specs.inner.ClassSet.{bit_of, has_bit}
use Rattle.crs_shape.proofs.naming.KeywordTableLemmas.{has_bit-parts}
use Rattle.crs_shape.proofs.table.is_part.Goals as goal

pub returns : goal.returns
returns c = c.has.ensures ∙ ap (λ set. has_bit set (bit_of c.args.class)) c.parts.ensures ∙ has_bit-parts c.args.parent c.args.class
