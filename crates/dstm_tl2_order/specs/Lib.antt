pub mod Tasks
pub mod Order
pub mod Calls
pub mod Laws
pub mod Made
pub mod Lives
pub mod Ended
pub mod Ends
