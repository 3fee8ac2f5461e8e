pub mod Laws
pub mod Example
pub mod Contest
pub mod Committed
pub mod Telling
