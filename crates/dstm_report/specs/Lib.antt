pub mod Answers
pub mod Lawful
pub mod Packed
pub mod Parser
pub mod Reading
pub mod Replaying
pub mod Text
pub mod Turns
