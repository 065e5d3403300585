pub mod Openings
pub mod Printed
pub mod Remarks
pub mod TreeElements
