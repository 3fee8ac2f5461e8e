pub mod Applying
pub mod Branches
pub mod Transfers
pub mod Objects
pub mod Entries
pub mod Merging
pub mod Standing
