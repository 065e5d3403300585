pub mod Alone
pub mod Grown
pub mod Sound
pub mod SoundRounds
pub mod SoundRows
pub mod SoundTellings
pub mod Validity
pub mod WellFormed
