pub mod Whole
pub mod Opening
pub mod Job
pub mod Concerns
pub mod Keeps
pub mod Opens
