use Rattle.std.proofs.Common.{List, [], ◌∷◌, None, sym}
use Rattle.crs_text.specs.inner.Prelude.{arguments}
use Rattle.crs_shape.specs.declared.class.Class.{Class}
use Rattle.crs_shape.specs.declared.class.Class.TheVariants as class
use Rattle.crs_value.specs.inner.Cursor.{item}
use Rattle.crs_value.specs.Checks.{Repeats, RepeatsAny}
use Rattle.crs_value.proofs.checked.LeastLemmas.{either-is, lesser-none}
use Rattle.crs_value.proofs.checks.crs.repeats_once.Goals as goal

pub returns : goal.returns
returns c =
    let node = c.args.node.now in
    let One = Repeats node.class (arguments (item node)) in
    let All = RepeatsAny node.class (arguments (item node)) in
    let areas : List Class = class.BoundingBox ∷ class.VerticalExtent ∷ class.Remark ∷ [] in
    either-is (One class.Scope) (All (class.Area ∷ areas)) _ _ _ c.lesser.ensures c.again-4.ensures
    (either-is (One class.Area) (All areas) _ _ _ c.lesser-areas.ensures c.again-3.ensures
    (either-is (One class.BoundingBox) (All (class.VerticalExtent ∷ class.Remark ∷ [])) _ _ _ c.lesser-boxes.ensures c.again-2.ensures
    (either-is (One class.VerticalExtent) (All (class.Remark ∷ [])) _ _ _ c.lesser-extents.ensures c.again.ensures
    (either-is (One class.Remark) (All []) _ None _ (sym (lesser-none _)) c.again-remarks.ensures (λ f h. h)))))
