use Rattle.std.proofs.Common.{arith}
use Rattle.crs_text.proofs.rows.TreeLemmas.{raw-within, raw-is}
use Rattle.crs_text.proofs.items.Items.raw.Goals as goal

pub raw_place-requires : goal.raw_place-requires
raw_place-requires c =
    omega (arith, raw-within c.self.inside.source.now _ c.args.self.now c.args.id c.row-row.result c.self.invariant.stand c.self.view_is c.requires c.row-row.ensures.is)

pub part_of-requires : goal.part_of-requires
part_of-requires c =
    omega (arith, raw-within c.self.inside.source.now _ c.args.self.now c.args.id c.row-row.result c.self.invariant.stand c.self.view_is c.requires c.row-row.ensures.is)

pub returns : goal.returns
returns c =
    rw (c.part_of.ensures, c.raw_place.ensures) (raw-is c.self.inside.source.now _ c.args.self.now c.args.id c.row-row.result c.self.invariant.stand c.self.view_is c.requires c.row-row.ensures.is)
