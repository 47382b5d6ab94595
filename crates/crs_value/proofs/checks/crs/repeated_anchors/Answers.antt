use Rattle.std.proofs.Common.{[], ◌∷◌, None, sym}
use Rattle.crs_text.specs.inner.Prelude.{arguments}
use Rattle.crs_shape.specs.declared.class.Class.TheVariants as class
use Rattle.crs_value.specs.inner.Cursor.{item}
use Rattle.crs_value.specs.Checks.{Repeats, RepeatsAny}
use Rattle.crs_value.proofs.checked.LeastLemmas.{either-is, lesser-none}
use Rattle.crs_value.proofs.checks.crs.repeated_anchors.Goals as goal

pub returns : goal.returns
returns c =
    let node = c.args.node.now in
    let items = arguments (item node) in
    either-is (Repeats node.class items class.Anchor) (RepeatsAny node.class items (class.AnchorEpoch ∷ [])) _ _ _ c.lesser.ensures c.repeats.ensures
    (either-is (Repeats node.class items class.AnchorEpoch) (RepeatsAny node.class items []) _ None _ (sym (lesser-none _)) c.repeats-epochs.ensures (λ f h. h))
