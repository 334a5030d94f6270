pub mod Ways
pub mod Leaves
pub mod Falls
pub mod Follows
