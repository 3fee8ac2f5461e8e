pub mod Entries
pub mod Unused
pub mod SeenLast
mod Left
pub mod ByTl2
pub mod StayingByDstm
pub mod Calls
pub mod Fresh
pub mod Made
pub mod SightsByDstm
pub mod SightsByTl2
pub mod History
pub mod Staying
pub mod ClosingByDstm
pub mod Closing
pub mod GivingOut
pub mod Same
pub mod Sends
