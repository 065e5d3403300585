pub mod Ascii
pub mod Quoting
pub mod Rests
pub mod RoundParts
pub mod Telling
