pub mod Expanded
pub mod Growth
pub mod Numbers
pub mod Planned
pub mod Rules
pub mod Sizes
pub mod Stands
