pub mod Begun
pub mod Memos
pub mod Over
pub mod States
pub mod Tests
pub mod Valid
