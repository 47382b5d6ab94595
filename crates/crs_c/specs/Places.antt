-- A catalogue, and rules, at a place of the caller's.
use base.Fml.{Fml}
use base.Fraction.{full_share}
use denote.RawPtr.{Ptr, lies_at, room_at}
use Rattle.crs_group.specs.Catalogue.{CatalogueParts}
use Rattle.crs_group.specs.contracts.catalogue.Catalogue as catalogue
use Rattle.crs_c.specs.Held.{HeldParts}
use Rattle.crs_c.specs.contracts.calls.rules.HeldRules as held_rules

-- this catalogue is there, and belongs to the holder of this
unfoldable pub catalogue_at : Ptr → CatalogueParts → Fml
catalogue_at place held = lies_at catalogue.the_row full_share place held

-- there is room for a catalogue
unfoldable pub has_room : Ptr → Fml
has_room place = room_at catalogue.the_row place

-- these rules are there, and belong to the holder of this
unfoldable pub rules_at : Ptr → HeldParts → Fml
rules_at place held = lies_at held_rules.the_row full_share place held

-- there is room for rules
unfoldable pub has_room_for_rules : Ptr → Fml
has_room_for_rules place = room_at held_rules.the_row place
