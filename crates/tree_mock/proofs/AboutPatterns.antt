pub mod Ends
pub mod Grams
pub mod Marks
pub mod Pieces
pub mod Stars
