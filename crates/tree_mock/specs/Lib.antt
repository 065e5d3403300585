pub mod Asked
pub mod Ends
pub mod FitRules
pub mod Grams
pub mod Lookup
pub mod Orders
pub mod Patterns
pub mod Seen
