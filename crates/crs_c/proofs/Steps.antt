-- The names that the walks of this crate use.
pub use Rattle.std.proofs.Common.{◌≡◌, ℕ, List, [], ◌∷◌, ◌++◌, refl, sym, ap, ◌∙◌, w32, w64, subst, length}
pub use Rattle.std.proofs.raw_atomic.Walks.{proved, proved_at}
pub use base.Fraction.{full_share}
pub use base.Logic.{id⊢, sep, ent}
pub use types.Logic.{sem}
pub use denote.Slice.{shr_slice_vals, shr_slice_Tells}
pub use denote.Signature.{types_at}
pub use denote.RattleType.{owns}
pub use base.Fml.{ftrue, froom, fat, flft}
pub use mir.Syntax.{named}
pub use mir.Val.{has_ty, Val, vunit, vint, vstruct, of_list}
pub use contract.Monad.{fact}
pub use contract.Running.{tables}
pub use types.Kit.{show, ‵, raw, ◌⊛◌, some, later, prop, ◌$◌, ◌∵◌, !, qed, done, move, drop, use1, use2, split, join, fsplit, fpick, feq_i, feq_l, pick, await, rewrite, regoal, suffices, frame}
pub use types.Part.{whole, sub}
pub use types.Run.{enter, of_opd, unit_lit, forget, init, load, look, store, stop, fld, no_more, and_then, assigns, returns}
pub use types.ByLocal.{alloc_all, pass_all, free_all, look_at, get, get_in, through, sets, lands_as}
pub use denote.Memory.{part_at}
pub use denote.Builtin.{u64, u32, u8, usize}
pub use denote.Laws.{shows, Is}
pub use denote.Param.{layout}
pub use denote.Plain.{uint_Makes, uint_Lawful, uint_vals, uint_Tells}
pub use denote.RawPtr.{Ptr, block_ptr, room_at, lies_at, in_a_block, rawptr_vals, rawptr_Tells}
pub use denote.Steps.{nothing, owned, heard, peeks, only}
pub use denote.Struct.Tuple.{Tuple}
pub use denote.Triple.Clauses.{Lasts, lasts}
pub use denote.Triple.Entry.{Vals, on_entry}
pub use denote.Triple.Spec.{triple_of}
pub use denote.Triple.Walked.{Stays, walk_of, says, stay_dropped, Goes-dropped, ends_at}
pub use denote.Triple.Table.{framed}
pub use borrow.Table.OneValue.{part_out, part_in}
pub use Rattle.std.proofs.cell.Inside.{Good, one}
pub use prog.Wp.{WpFn}
pub use Rattle.std.specs.contracts.alloc.Global.{the_row as global_row}
pub use Rattle.std.proofs.alloc.Global.TheLaws.{the_row_laws as global_laws}
pub use Rattle.crs_group.specs.Catalogue.{CatalogueParts}
pub use Rattle.crs_group.specs.contracts.catalogue.Catalogue.{the_row as catalogue_row}
pub use Rattle.crs_group.proofs.catalogue.Catalogue.TheLaws.{the_row_laws as catalogue_laws}
pub use Rattle.crs_c.specs.Held.{HeldParts}
pub use Rattle.crs_c.specs.contracts.calls.rules.HeldRules.{the_row as rules_row}
pub use Rattle.crs_c.proofs.calls.rules.HeldRules.TheLaws.{the_row_laws as rules_laws}
pub use Rattle.crs_c.specs.contracts.calls.piece.Piece.{the_row as piece_row}
pub use Rattle.crs_c.proofs.calls.piece.Piece.TheLaws.{the_row_laws as piece_laws}
pub use Rattle.crs_c.specs.contracts.calls.catalogue.Standing.{the_row as standing_row}
pub use Rattle.crs_c.proofs.calls.catalogue.Standing.TheLaws.{the_row_laws as standing_laws}
unfoldable pub use Rattle.crs_c.specs.Places.{catalogue_at, has_room, rules_at, has_room_for_rules}
pub use lib.Dec.{T}
pub use mathlib.Core.Bool.{true, ◌&&◌}
pub use prog.Align.{both}
