pub mod Halts
pub mod Quenches
