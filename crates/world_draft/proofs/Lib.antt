pub mod AboutRounds
pub mod AddedFails
pub mod Checked
pub mod Copied
pub mod Named
pub mod RowParts
pub mod Saying
