-- The names that the walks of the exports cite.
pub use Rattle.std.proofs.Common.{◌≡◌, ℕ, ◌<◌, ◌^◌, List, [], ◌∷◌, ◌++◌, length, w32, w64, refl, ap, Bor, MutBor}
pub use Rattle.std.proofs.raw_atomic.Walks.{proved}
pub use base.Fraction.{full_share}
pub use base.Logic.{SProp, emp, sep, ex, ex_i, id⊢, fst∗, never}
pub use base.Fml.{Lft, GName, ftrue, flft, flent, fres, Incl-refl}
pub use mir.Syntax.{named}
pub use lib.Signed.{mag}
pub use mir.Val.{Val, vunit, vint, vptr, hbits, of_z}
pub use mir.ValLaws.{of_z_fits}
pub use mir.Raw.{raw as bare}
pub use contract.Monad.{fact, fact_i}
pub use contract.Running.{tables}
pub use types.Logic.{sem}
pub use types.Kit.{‵, raw, ◌⊛◌, some, later, prop, ◌$◌, ◌∵◌, !, qed, done, move, keep, drop, use0, use1, use2, use3, split, join, fsplit, fjoin, feq_l, feq_i, pick, await, regoal, suffices, frame, group}
pub use types.SemTy.{Body}
pub use types.Tokens.{lft_new, lft_end, lent_back}
pub use types.Run.{enter, of_opd, unit_lit, addr, stop, from, fld, hop, no_more, and_then, returns}
pub use types.Part.{agg, sub, whole}
pub use types.ByLocal.{alloc_all, pass_all, free_all, look_at, look_in_at, get, get_in, through, sets, lands_as}
pub use denote.Builtin.{u8, u32, u64, i64, usize, unit, SliceRefOf}
pub use denote.Exit.{yes}
pub use denote.Laws.{Is, shows}
pub use denote.Lend.{lends_ref, lends_shr, ref_back}
pub use denote.Memory.{lone, mem, part_at}
pub use denote.RattleType.{owns}
pub use denote.Slice.{MutSlice, ShrSlice, mut_slice_vals, shr_slice_vals, mut_slice_Tells, shr_slice_Tells}
pub use denote.Plain.{uint_vals, uint_Tells, uint_Makes, uint_Lawful}
pub use denote.Signed.{sint_vals, sint_Tells, sint_Makes}
pub use denote.RawPtr.{Ptr, RawPtr, block_ptr, null_ptr, in_a_block, rawptr_vals, rawptr_Tells}
pub use denote.Ref.{MutRef, ShrRef, mut_vals, shr_vals}
pub use denote.Signature.{plain}
pub use denote.Steps.{nothing, heard, only, owned, peeks}
pub use denote.Triple.Call.{calls_at}
pub use denote.Triple.Clauses.{lasts}
pub use denote.Triple.Entry.{on_entry}
pub use denote.Triple.Spec.{triple_of}
pub use denote.Triple.Table.{framed}
pub use denote.Triple.Walked.{Stays, walk_of, stay_dropped, gave_slice, Goes-dropped, Goes-gave_slice, ends_at}
