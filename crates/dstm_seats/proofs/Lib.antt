pub mod Lists
pub mod Logs
pub mod Keeping
pub mod Parting
pub mod Ends
pub mod Moves
pub mod Seats
