pub mod Tree
pub mod Objects
pub mod Side
pub mod Node
pub mod Steps
pub mod Items
pub mod Place
pub mod Remove
