pub mod Going
pub mod Grown
pub mod Joining
pub mod Lacking
pub mod Marked
pub mod Reached
pub mod Served
pub mod Written
