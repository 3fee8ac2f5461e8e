pub mod Memory
pub mod Slots
pub mod Flat
pub mod Operations
pub mod Operates
pub mod Release
