pub mod OptionRows
pub mod OptionTurns
pub mod OptionWords
pub mod OptionParses
