pub mod Answering
pub mod Named
pub mod NamedReads
pub mod Standing
pub mod Unread
