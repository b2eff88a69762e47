-- The words that the walks share.
pub use Rattle.std.proofs.Common.{◌≡◌, ℕ, suc, ◌+◌, ◌-◌, ◌*◌, ◌^◌, ◌<◌, ◌≤◌, List, [], ◌∷◌, ◌++◌, length, take, drop as drop_list, replicate, map, sym, refl, ap, ◌∙◌, subst, arith, slice_get, slice_set, Some}
pub use native.Mathlib.Nat.{add_comm}
pub use lib.ListN.{length-replicate}
pub use mir.Syntax.{a_type, dcons, dnil, named, w64}
pub use mir.Val.{Val, vunit, vint, vptr, vstruct, vcons, vnil, of_list}
pub use mir.MapTy.{inst_fn}
pub use base.Fraction.{full_share}
pub use base.Logic.{SProp, ent, emp, id⊢, never, all_e, apply∗, guard_i}
pub use base.Fml.{Lft, Fml, ftrue, fsep, fex, feq, flt, fall, fwand, fat, flft}
pub use types.Logic.{Logic, sem}
pub use types.Kit.{Item, ‵, raw, ◌⊛◌, some, given, at_ret, ◌$◌, ◌∵◌, !, qed, by, move, keep, drop, split, split3, join, fsplit, fsplit3, fjoin, fjoin3, fpick, fpack, pick, learn, use0, use1, use2, rewrite, feq_i, feq_l, flt_i, flt_l, suffices, frame, done}
pub use types.Run.{stop, fld, hop, load, look, unit_lit, lit, size_word, of_opd, addr, from, bin, init, no_more, and_then, assigns_last, first, blocks, exec, returns, enter}
pub use types.ByLocal.{alloc_all, pass_all, free_all, look_at, take_at, give_at, get, get_in, through, sets, sets_last, is, env}
pub use types.Part.{agg, sub, whole, look_in, store_in}
pub use contract.Running.{tables}
pub use contract.Monad.{fact, fact_i, fact_use}
pub use contract.BorrowLft.{◌⊑◌}
pub use denote.Exit.{yes, no}
pub use denote.Array.{Array}
pub use denote.RattleType.{RattleType, Valss, owns}
pub use denote.Signature.{types_at, plain}
pub use denote.RawPtr.{Ptr, InBlock, block_ptr, ptr_val, lies_at, in_block, in_a_block, ◌+ₚ◌}
pub use denote.Steps.{nothing, peeks, heard, opens, closes}
pub use denote.Laws.{Is, Typed, shows}
pub use denote.Memory.{cell_at, part_at}
pub use denote.Index.{row}
pub use denote.Param.{param, layout, layouts, bounded}
pub use denote.Param.Laws.{Laws, param_laws}
pub use denote.Builtin.{RawPtr, usize}
pub use denote.Plain.{uint_vals, uint_Tells}
pub use denote.Ref.{mut_vals, mut_Tells}
pub use denote.Struct.Struct.{as_fields}
pub use denote.Triple.Walked.{Stays, stay_dropped, stay_ref, walk_of, Goes-dropped, Goes-ref}
pub use Rattle.atomic_table.proofs.Walks.{proved, proved_at, leaves}
pub use Rattle.atomic_table.proofs.Fields.{Ptr-Good, strip_good}
pub use Rattle.std.proofs.alloc.Calls.{Goes-blank}
pub use Rattle.std.proofs.VecSteps.Shapes.{after}
pub use Rattle.std.proofs.mem.Param.{El, R, el_x, elτ, lawful}
