pub mod Attempts
pub mod Places
pub mod Ready
