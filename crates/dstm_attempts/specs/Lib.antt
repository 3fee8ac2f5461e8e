pub mod Attempts
pub mod Dstm
pub mod Tl2
pub mod Waiting
