use Rattle.std.proofs.Common.{sym, ◌∙◌, ap}
use Rattle.crs_value.specs.inner.Arguments.{lesser}
use Rattle.crs_value.proofs.checked.LeastLemmas.{lesser-none}
use Rattle.crs_value.proofs.judging.node.join.Goals as goal

pub returns-in-None : goal.returns-in-None
returns-in-None c = sym (lesser-none c.args.found.now) ∙ ap (lesser c.args.found.now) (sym c.in-None.is)
