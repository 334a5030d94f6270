pub mod Numbers
pub mod Policies
pub mod Waits
pub mod Seen
pub mod Laws
