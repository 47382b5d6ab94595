use Rattle.crs_text.specs.inner.Prelude.{raw_of}
use Rattle.crs_value.specs.inner.Arguments.{item_at}
use Rattle.crs_value.proofs.checked.UnitLemmas.{keyword-raw, kind-read}
use Rattle.crs_value.proofs.checks.axes.kind_of.Goals as goal

pub returns-in-Some : goal.returns-in-Some
returns-in-Some c =
    let item = item_at c.args.items.now c.args.unit in
    c.of.ensures (raw_of item) (keyword-raw item c.in-Some.keyword c.in-Some.ensures)

pub returns-in-None : goal.returns-in-None
returns-in-None c = kind-read (item_at c.args.items.now c.args.unit) c.raw.result.now c.read.result c.raw.ensures c.read.ensures
