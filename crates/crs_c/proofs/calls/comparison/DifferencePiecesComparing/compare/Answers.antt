use Rattle.std.proofs.lemmas.Result.{IfOk-weaker}
use Rattle.crs_explain.specs.Differing.{AreDifferencePieces}
use Rattle.crs_c.proofs.calls.comparison.DifferencePiecesComparing.compare.Goals as goal

pub returns : goal.returns
returns c =
    IfOk-weaker c.difference_pieces.result _ _
    (λ pieces is.
    let told : AreDifferencePieces c.args.self.0 c.args.a.now c.args.b.now pieces =
    (c.in_ok-differing_parts.field-0.items, c.in_ok-differing_parts.ensures, is) in (
      told,
      c.nothing_is_told_where_same.ensures.pieces c.args.self.0 c.args.a.now c.args.b.now c.crs_is_sound.ensures
          c.crs_is_sound-2.ensures pieces told,
    ))
    (rw c.deref.ensures.value at c.difference_pieces.ensures)
