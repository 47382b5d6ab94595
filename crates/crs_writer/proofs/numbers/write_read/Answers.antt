use Rattle.std.proofs.Common.{◌≡◌, ◌∙◌, None, Some, sym}
use Rattle.std.proofs.lemmas.Result.{on_ok_weaker}
use Rattle.crs_writer.proofs.numbers.write_read.Goals as goal

pub returns-in-None : goal.returns-in-None
returns-in-None c = on_ok_weaker c.append.result (λ copied. record {
  writes = λ v r. let none : None ≡ Some v = sym c.in-None.is ∙ c.decimal_of.ensures v r in absurd cc;
}) c.append.ensures
