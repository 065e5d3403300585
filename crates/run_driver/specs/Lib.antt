pub mod Calls
pub mod Places
pub mod Ready
pub mod Rules
