pub mod BuiltInRows
pub mod DriverCalls
pub mod Moves
pub mod Outputs
pub mod Runnable
pub mod Shapes
pub mod SlotTables
pub mod Sound
