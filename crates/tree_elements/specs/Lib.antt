pub mod Reading
pub mod Valid
pub mod WhenFault
pub mod Written
