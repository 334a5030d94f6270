pub mod Opens
pub mod Evicts
pub mod Delivers
