pub mod ExpectFile
pub mod Leaves
pub mod Met
pub mod Stories
pub mod Told
pub mod Verdicts
