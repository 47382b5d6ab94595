-- The names that proofs of the crates above cite, passed on from one place. Declares nothing.
pub use Rattle.crs_text.specs.Fault.{refusal_of}
pub use Rattle.crs_text.specs.Items.{End, HasId, IsAt, IsNode, IsNumberOf, Item, More, Siblings, arguments, close_of, count, depth, depths, first_of, inside, inside_items, keyword_in, kind_of_item, leaf, node, others_tokens, place_of, raw_of, rest_of, size_of, sizes, skip, tokens}
unfoldable pub use Rattle.crs_text.specs.Items.{here}
pub use Rattle.crs_text.specs.Keywords.{AreSpelled, every_keyword, spelling_of}
unfoldable pub use Rattle.crs_text.specs.Keywords.{keyword_of}
pub use Rattle.crs_text.specs.Position.{IsPosition, feeds}
pub use Rattle.crs_text.specs.Tokens.{IsInside, doubled, Forms, Fronts, IsSingle, IsWhite, IsWord, Kind, Token, closing, comma, is_letter, is_white, is_word_byte, number, opening, single, single_spelling, text, word}
pub use Rattle.crs_text.specs.Refusal.{RefusedAt, is_before, refused_text}
pub use Rattle.crs_text.specs.TextFault.{IsSettledRefusal, IsTextFault, RefusesText, SpellsNode}
pub use Rattle.crs_text.specs.Written.{AreAllFormed, AreFormed, WrittenSpells, at_place, at_places, item_text, others_text}
