pub mod Swapped
pub mod Windows
