pub mod Counts
pub mod Cuts
pub mod Lines
pub mod LoadTexts
pub mod NoNames
pub mod Rounds
pub mod Summaries
pub mod Texts
