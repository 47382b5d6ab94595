use Rattle.std.proofs.Common.{ℕ, ◌⊎◌, sym, subst}
use Rattle.crs_text.specs.inner.Prelude.{arguments}
use Rattle.crs_shape.specs.declared.class.Class.TheVariants as class
use Rattle.crs_shape.specs.inner.Prelude.{dimensions_of}
use Rattle.crs_value.specs.inner.Cursor.{item}
use Rattle.crs_value.specs.Checks.{AxisCount, BadSystem, AnyOf, IsLeast, OfHead, once, RepeatsAny}
use Rattle.crs_value.specs.Reading.{those}
use Rattle.crs_value.specs.inner.Arguments.{item_at}
use Rattle.crs_value.proofs.found.ArgumentLemmas.{first-shaped}
use Rattle.crs_value.proofs.checked.CheckLemmas.{none-of, only-of}
use Rattle.crs_value.proofs.checked.LeastLemmas.{either-is, lesser-none}
use Rattle.crs_value.proofs.checks.crs.of_head.Goals as goal

pub returns-in_default : goal.returns-in_default
returns-in_default c =
    let node = c.args.node.now in
    let items = arguments (item node) in
    let Head = OfHead (dimensions_of node.class) (those node.class class.Axis items) in
    let systems = those node.class class.CoordinateSystem items in
    either-is (RepeatsAny node.class items once) (AnyOf Head systems) _ _ _ (sym (lesser-none _)) c.repeats_once-repeated.ensures
    (none-of Head systems (rw c.in_default.is at c.requires.firsts.system))

pub number-dimension-requires-clause-shaped : goal.number-dimension-requires-clause-shaped
number-dimension-requires-clause-shaped c = first-shaped _ _ _ _ c.in-Some.cs c.requires.shaped (rw c.in-Some.is at c.requires.firsts.system)

pub bad_system-system-requires-clause-shaped : goal.bad_system-system-requires-clause-shaped
bad_system-system-requires-clause-shaped c = first-shaped _ _ _ _ c.in-Some.cs c.requires.shaped (rw c.in-Some.is at c.requires.firsts.system)

pub returns : goal.returns
returns c =
    let node = c.args.node.now in
    let items = arguments (item node) in
    let Head = OfHead (dimensions_of node.class) (those node.class class.Axis items) in
    let systems = those node.class class.CoordinateSystem items in
    let cs = item_at node.items.now c.in-Some.cs in
    let Counted : ℕ → Type 0 = λ n. IsLeast (λ f. BadSystem (dimensions_of node.class) cs f ⊎ AxisCount n cs f) c.lesser.result in
    either-is (RepeatsAny node.class items once) (AnyOf Head systems) _ _ _ c.lesser-2.ensures c.repeats_once-repeated.ensures
    (only-of c.slots_count.ensures.most Head node.items.now (item node) node.class class.CoordinateSystem c.in-Some.cs _ c.requires.once c.requires.shaped (rw c.in-Some.is at c.requires.firsts.system)
    (subst Counted c.requires.firsts.axes
    (either-is (BadSystem (dimensions_of node.class) cs) (AxisCount c.args.firsts.now.axes cs) _ _ _ c.lesser.ensures c.bad_system-system.ensures c.bad_count-count.ensures)))
