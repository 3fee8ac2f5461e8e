pub mod Ends
pub mod Demo
