pub mod Map
pub mod Layout
pub mod Store
pub mod Job
pub mod Objects
pub mod Answers
