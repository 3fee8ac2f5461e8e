pub mod Choices
pub mod Meetings
