pub mod Answers
pub mod Lines
pub mod Number
pub mod Options
pub mod Results
