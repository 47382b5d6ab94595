use Rattle.std.proofs.Common.{◌++◌, ℕ, List, ap, ◌∙◌}
use Rattle.std.proofs.lemmas.Result.{on_ok_weaker}
use Rattle.crs_decimal.specs.inner.Prelude.{exact}
use Rattle.crs_writer.proofs.numbers.write_raw.Goals as goal

pub returns-in-Some : goal.returns-in-Some
returns-in-Some c = on_ok_weaker c.append.result (λ copied. record {
  writes = λ v r.
      copied ∙ ap (λ (x : List ℕ). c.args.out.now.items ++ x)
      (c.plain_is_the_one.ensures.only v c.in-Some.spelling.now r.0 c.in-Some.ensures.plain
      (c.in-Some.ensures.same (exact v) r.1));
}) c.append.ensures
