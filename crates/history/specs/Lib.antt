pub mod Events
pub mod Books
pub mod Guarantee
pub mod Example
