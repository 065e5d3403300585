mod Beginning
mod ByEvents
mod ByNotes
mod Follows
mod Forms
pub mod Sights
mod Tests
pub mod Told
mod Until
mod Verdicts
mod Watches
