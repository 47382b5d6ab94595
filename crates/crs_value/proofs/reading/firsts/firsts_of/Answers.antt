use Rattle.std.proofs.Common.{sym, ◌∙◌, arith}
use Rattle.crs_text.specs.inner.Prelude.{arguments}
use Rattle.crs_shape.specs.declared.class.Class.TheVariants as class
use Rattle.crs_value.specs.inner.Arguments.{item_at}
use Rattle.crs_value.proofs.found.FirstArgumentsLemmas.{axis-among, seen-on, seen-past}
use Rattle.crs_value.proofs.checked.CheckLemmas.{those-few}
use Rattle.crs_value.proofs.reading.firsts.firsts_of.Goals as goal
use Rattle.crs_value.proofs.reading.firsts.firsts_of.Goals.{in-Some-class_in, in_default-class_in}

pub note-requires : goal.note-requires
note-requires c = λ axis.
    let all = arguments (item_at c.args.items.now c.args.id) in
    let among = axis-among _ _ c.in-Some-class_in.class all _ _ (rw c.in-Some.is at c.loop-next.invariant) (sym c.in-Some-class_in.ensures) axis in
    omega (arith, among, those-few c.args.parent class.Axis all, c.arg_count-bound.ensures, c.arg_count-bound.type_inv)

pub loop-next-preserved : goal.loop-next-preserved
loop-next-preserved c =
    let so = rw c.in-Some.is at c.loop-next.invariant in
    elim c.match-class_in.branch [
      | in-Some-class_in w ↦ rw w.firsts-is (seen-on _ _ w.in-Some-class_in.class _ _ _ _ _ so (sym w.in-Some-class_in.ensures) w.note.ensures c.next-next.ensures)
      | in_default-class_in w ↦ rw w.firsts-is (seen-past _ _ _ _ _ _ so (sym c.class_in.ensures ∙ w.in_default-class_in.is) c.next-next.ensures)
    ]
