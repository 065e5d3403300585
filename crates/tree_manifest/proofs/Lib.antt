pub mod PortNames
pub mod ShortTexts
pub mod TableOfNames
