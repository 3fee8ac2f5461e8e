pub mod Streams
pub mod Places
pub mod Validity
pub mod Written
pub mod Sizes
