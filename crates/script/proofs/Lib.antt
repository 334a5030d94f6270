pub mod Cuts
pub mod Groups
pub mod Names
pub mod Steps
