pub mod Steps
pub mod Closes
pub mod Joins
pub mod Enters
pub mod Leaving
pub mod Freshly
pub mod Orders
