pub mod Stops
pub mod Shown
pub mod Walking
pub mod Adding
