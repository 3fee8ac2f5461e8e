pub mod Progress
pub mod Found
mod Repeats
