-- Items without their places and kinds of delimiters: all places 0 and all delimiters
-- square, as canonical items have them.
use Rattle.std.specs.Prelude.{true}
use Rattle.crs_text.specs.Items.{Item, leaf, node, Siblings, End, More}

abbrev mutual
  -- the item with each place 0 and each delimiter square
  pub without_places : Item → Item
  without_places (leaf kind place raw) = leaf kind 0 raw
  without_places (node place keyword square first others close) =
      node 0 keyword true (without_places first) (all_without_places others) 0

  -- each of these items likewise
  pub all_without_places : Siblings → Siblings
  all_without_places End = End
  all_without_places (More item items) = More (without_places item) (all_without_places items)
