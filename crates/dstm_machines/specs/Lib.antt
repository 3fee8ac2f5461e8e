pub mod Traces
pub mod Machines
pub mod Sharing
pub mod Attempts
pub mod Histories
pub mod Laws
pub mod Examples
