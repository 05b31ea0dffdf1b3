-- What the proofs by hand cite.
pub use Rattle.std.proofs.Common.{◌≡◌, ℕ, ◌<◌, ◌^◌, List, [], ◌∷◌, refl, sym, ap, ◌∙◌, subst, lit<, w64, arith}
pub use Rattle.std.proofs.raw_atomic.Walks.{proved, proved_at, leaves}
pub use base.Logic.{id⊢, SProp, ent}
pub use base.Fml.{Fml, ftrue, flft}
pub use mir.Val.{Val, vbool, vint, vptr}
pub use contract.Running.{tables}
pub use types.Kit.{‵, raw, ◌⊛◌, some, Item, Goal, Seq, Step, step, ◌$◌, ◌∵◌, !, qed, done, by, move, keep, drop, split, join, fsplit, fjoin, fpick, fpack, feq_i, feq_l, suffices, frame, group, regoal, rewrite, at_ret}
pub use types.Run.{enter, of_opd, lit, true_lit, false_lit, stop, fld, no_more, and_then, returns, first, branches, exec}
pub use types.ByLocal.{alloc_all, pass_all, free_all, look_at, get, get_in, sets, sets_last, env}
pub use types.Part.{agg, whole, sub}
pub use denote.Exit.{yes, no}
pub use denote.Laws.{Is, shows}
pub use denote.RawPtr.{Ptr, RawPtr, block_ptr, null_ptr, ptr_val, rawptr_vals, rawptr_Tells}
pub use denote.Signature.{plain, types_at, type_at}
pub use denote.Steps.{nothing, owned, peeks, heard, only}
pub use denote.Triple.Entry.{on_entry}
pub use denote.Triple.Walked.{Stays, walk_of, says, stay_dropped, Goes-dropped, ends_at}
pub use denote.Builtin.{u8, usize, bool}
pub use types.Kit.{prop, use0, use1}
