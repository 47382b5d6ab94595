use Rattle.std.proofs.Common.{refl}
use Rattle.crs_shape.specs.inner.Prelude.{dimensions_of}
use Rattle.crs_value.specs.inner.Arguments.{item_at}
use Rattle.crs_value.proofs.walk.RestLemmas.{head-none}
use Rattle.crs_value.proofs.judging.quick_checks.head_fits.Goals as goal

pub returns : goal.returns
returns c = λ yes axes e.
    head-none c.denotes_one.ensures (dimensions_of c.args.class) (item_at c.args.items.now c.args.cs) c.args.system_type c.args.count axes c.args.count c.requires.type_read
    (c.has_whole.ensures yes) (c.has_dimension.ensures.0 c.if-not-has_dimension.false) refl e
