use Rattle.std.proofs.Common.{◌+◌, ap, map, sym, ◌∙◌}
use Rattle.std.specs.List.{swap}
use Rattle.indexmap.proofs.ReorderLemmas.{map-swap}
use Rattle.crs_rules.proofs.rewriting.order.exchange.Goals as goal

pub returns-clause-texts : goal.returns-clause-texts
returns-clause-texts c =
    let at = c.args.at in
    λ text are. c.swap-2.ensures.items
    ∙ (ap (λ texts. swap texts at (at + 1)) are
    ∙ (sym (map-swap text c.args.axes.now at (at + 1)) ∙ ap (map text) (sym c.swap.ensures)))
