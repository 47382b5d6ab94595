-- The names that proofs of the crates above cite, passed on from one place. Declares nothing.
pub use Rattle.crs_shape.specs.inner.Counts.{how_many, is_bounded, least, most, one_if}
pub use Rattle.crs_shape.specs.Dimensions.{IsOneOf, dimensions_of}
pub use Rattle.crs_shape.specs.FaultPlace.{IsPlaceIn, IsShapeNumber}
pub use Rattle.crs_shape.specs.inner.Walk.{fault_by, or_later, step_as, again}
unfoldable pub use Rattle.crs_shape.specs.inner.Walk.{first_in_arguments, first_inside}
pub use Rattle.crs_shape.specs.Keywords.{first_named, is_one_of, keywords_of, root_classes}
unfoldable pub use Rattle.crs_shape.specs.Keywords.{is_keyword, root_named}
pub use Rattle.crs_shape.specs.Shape.{AllFilled, AllTaken, Allowed, Fills, joined, SlotParts, anchor_slot, any, any_of, geodetic_slots, is_class, named_in, named_slots, one, one_of, optional, optional_of, slots_of, some, some_of, tail, takes, unit_slots, vertical_tail}
pub use Rattle.crs_shape.specs.ShapeFault.{AtRoot, Inside, IsFree, IsOnly, class_in, class_of_kind, class_of_root, is_of, misplaced, missing, AreShaped, Shaped}
unfoldable pub use Rattle.crs_shape.specs.Shape.{class_named}
pub use Rattle.crs_shape.specs.Words.{asked_kind, kind_as, kind_by_direction, SpellsWord, direction_word, system_word, unit_word}
unfoldable pub use Rattle.crs_shape.specs.Words.{every_direction, every_type}
