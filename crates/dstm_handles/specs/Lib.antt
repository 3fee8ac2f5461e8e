pub mod Held
pub mod Memories
pub mod Owned
pub mod Threads
pub mod Waiting
