pub mod Runnable
pub mod Worlds
