pub mod Attempts
pub mod Guests
pub mod Progress
