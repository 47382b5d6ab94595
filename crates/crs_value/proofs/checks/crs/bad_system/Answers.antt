use Rattle.std.proofs.Common.{refl}
use Rattle.crs_shape.specs.inner.Prelude.{dimensions_of}
use Rattle.crs_value.specs.inner.Arguments.{item_at}
use Rattle.crs_value.proofs.checked.CheckLemmas.{system-none}
use Rattle.crs_value.proofs.checks.crs.bad_system.Goals as goal

pub returns-then-is_allowed : goal.returns-then-is_allowed
returns-then-is_allowed c =
    system-none c.denotes_one.ensures (dimensions_of c.args.class) (item_at c.args.items.now c.args.cs) c.in_ok-system_type.system_type c.args.dimension.now
    c.in_ok-system_type.ensures c.requires.dimension (c.if-is_allowed.ensures.0 refl)
