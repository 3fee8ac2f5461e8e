pub mod Tables
pub mod Attempts
pub mod Tells
pub mod Callers
pub mod Founders
pub mod Engines
pub mod Tries
pub mod Laws
