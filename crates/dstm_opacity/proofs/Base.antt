-- What the proofs speak of, of DSTM's machine: kinds of events, phases, and what a caller has read and written.
pub use Rattle.dstm_core.specs.declared.event.Kind.{Kind}
pub use Rattle.dstm_core.specs.declared.event.Kind.TheVariants.{Begin, Check, Commit, Draw, Enrol, Install, Kill}
pub use Rattle.dstm_core.specs.declared.event.Kind.TheVariants.{LookHigh, LookNew, LookNumber, LookObj, LookOld}
pub use Rattle.dstm_core.specs.declared.event.Kind.TheVariants.{LookOwner, LookRank, LookSelf, LookStatus, Pause}
pub use Rattle.dstm_core.specs.declared.event.Kind.TheVariants.{PutHigh, PutNew, PutOld, Quit, Rank, Release, Resume}
pub use Rattle.dstm_core.specs.declared.event.Kind.TheVariants.{Stamp, Validating as ToValidating}
pub use Rattle.dstm_core.specs.declared.shape.Shape.{Shape}
pub use Rattle.dstm_core.specs.declared.state.Phase.{Phase}
pub use Rattle.dstm_core.specs.declared.state.Phase.TheVariants.{Drawn, Outside, Paused, Putting, Running, Validating}
pub use Rattle.dstm_core.specs.declared.state.Read.{Read}
pub use Rattle.dstm_core.specs.declared.state.Resolution.{Resolution}
pub use Rattle.dstm_core.specs.declared.state.Write.{Write}
