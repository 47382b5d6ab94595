use Rattle.crs_same.specs.Parts.{parts_of_crs}
use Rattle.crs_same.proofs.WalkedLemmas.{first-found, none-where-same}
use Rattle.crs_same.proofs.crs.first_part.Goals as goal

pub returns-clause-same : goal.returns-clause-same
returns-clause-same c =
    let law = c.no_part_differs_where_same.ensures in
    none-where-same (parts_of_crs c.args.level c.args.a.now c.args.b.now) c.into_first.result
    (first-found c.first.ensures c.crs.ensures c.into_first.ensures)
    (law.none c.args.level c.args.a.now c.args.b.now).0
    (law.some c.args.level c.args.a.now c.args.b.now c.crs_is_sound.ensures c.crs_is_sound-2.ensures)
