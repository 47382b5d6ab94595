use Rattle.std.proofs.Common.{◌∙◌, ap, sym}
use Rattle.std.specs.List.{find}
use Rattle.crs_value.specs.inner.FirstByte.{is_telling}
use Rattle.crs_value.specs.inner.Arguments.{item_at}
use Rattle.crs_value.proofs.checked.SignLemmas.{above-sure}
use Rattle.crs_value.proofs.checks.own.begins_above_zero.Goals as goal

pub returns-in-Some : goal.returns-in-Some
returns-in-Some c = λ e.
    above-sure (item_at c.args.items.now c.args.id) c.in-Some.byte (sym (ap (find is_telling) c.raw.ensures) ∙ sym c.first_telling.ensures ∙ c.in-Some.is)
    (c.is_leading.ensures.0 e)
