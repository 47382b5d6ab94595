use Rattle.std.proofs.lemmas.Result.{IfOk-weaker}
use Rattle.crs_explain.specs.Differing.{IsDifferencesText}
use Rattle.crs_c.proofs.calls.comparison.LinesComparing.compare.Goals as goal

pub returns : goal.returns
returns c =
    IfOk-weaker c.difference_lines.result _ _
    (λ lines is.
    let told : IsDifferencesText c.args.self.0 c.args.a.now c.args.b.now lines.items =
    (c.in_ok-differing_parts.field-0.items, c.in_ok-differing_parts.ensures, is) in (
      told,
      c.nothing_is_told_where_same.ensures.lines c.args.self.0 c.args.a.now c.args.b.now c.crs_is_sound.ensures
          c.crs_is_sound-2.ensures lines.items told,
    ))
    (rw c.deref.ensures.value at c.difference_lines.ensures)
