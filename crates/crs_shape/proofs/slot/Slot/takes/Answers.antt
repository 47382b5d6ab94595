use Rattle.std.proofs.Common.{◌∙◌, ap}
use Rattle.crs_shape.specs.inner.ClassSet.{bit_of, has_bit}
use Rattle.crs_shape.proofs.naming.KeywordTableLemmas.{has_bit-set_of}
use Rattle.crs_shape.proofs.slot.Slot.takes.Goals as goal

pub returns : goal.returns
returns c = c.has.ensures ∙ ap (λ set. has_bit set (bit_of c.args.class)) c.requires ∙ has_bit-set_of c.args.class c.args.self.now.classes.now
