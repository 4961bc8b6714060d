-- The names that walks cite, and the one machine value of a count that has no bytes.
pub use Rattle.std.proofs.Common.{◌≡◌, ℕ, ◌+◌, List, [], ◌∷◌, refl}
pub use Rattle.std.proofs.raw_atomic.Walks.{proved}
pub use base.Fml.{ftrue, flft}
pub use base.Logic.{ent, emp}
pub use mir.Syntax.{named}
pub use mir.Val.{Val, vunit, vstruct, vcons, vnil}
pub use contract.Running.{tables}
pub use types.Kit.{‵, ◌⊛◌, ◌$◌, ◌∵◌, !, qed, done, move, keep, split, join, fsplit, fsplit3, fjoin, feq_i, suffices, frame, group, use0}
pub use types.Run.{enter, of_opd, unit_lit, returns, no_more, and_then}
pub use types.ByLocal.{alloc_all, pass_all, free_all, look_at, sets, get}
pub use types.Part.{agg}
pub use denote.Ref.{MutRef, mut_vals, mut_Tells}
pub use denote.Signature.{plain}
pub use denote.Steps.{nothing, opens, closes}
pub use denote.Triple.Walked.{Stays, walk_of, says, stay_ref, Goes-ref, ends_at}
