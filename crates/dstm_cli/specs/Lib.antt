pub mod Failure
pub mod Command
pub mod Ending
