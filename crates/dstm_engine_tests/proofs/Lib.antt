pub mod GuestSteps
pub mod Jobs
pub mod Progress
