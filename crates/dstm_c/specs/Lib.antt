pub mod Codes
pub mod Maps
pub mod Ordered
pub mod Pools
pub mod Queues
pub mod Sets
pub mod Structures
