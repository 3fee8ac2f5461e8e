mod ByDstm
mod ByTl2
pub mod Closed
mod ClosedByTl2
pub mod Leaving
mod Letting
pub mod Noted
pub mod Numbers
mod Resuming
pub mod Settling
pub mod UnderWay
