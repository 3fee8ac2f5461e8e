pub mod List
pub mod Edits
pub mod Place
pub mod Reads
