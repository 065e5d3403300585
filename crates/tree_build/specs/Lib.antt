pub mod Contents
pub mod ContentSteps
pub mod Gives
pub mod ReadSteps
pub mod Seen
