mod Alternating
mod Calling
pub mod Closures
pub mod Found
mod Reading
mod Resting
mod Running
pub mod Sends
mod Spending
mod Stopping
mod Undoing
mod Waiting
