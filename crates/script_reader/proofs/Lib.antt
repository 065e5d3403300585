pub mod Alone
pub mod Building
pub mod Climbing
pub mod Exclusive
pub mod Identifiers
pub mod Lexing
pub mod Statements
