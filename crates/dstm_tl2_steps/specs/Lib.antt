pub mod Opened
pub mod Reads
pub mod Under
pub mod Places
pub mod Counting
