pub mod LineLaws
pub mod NumberLaws
pub mod LineSearch
pub mod FrontLaws
pub mod Decimals
