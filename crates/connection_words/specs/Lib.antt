pub mod Settings
pub mod Places
pub mod Soundness
pub mod PortStates
pub mod Queues
pub mod Chunks
pub mod Laws
