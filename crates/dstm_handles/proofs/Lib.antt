mod Calling
mod Crossing
mod Founding
pub mod Handles
