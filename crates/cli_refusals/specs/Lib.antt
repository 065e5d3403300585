pub mod Ends
pub mod Lent
pub mod Printing
pub mod Refusing
