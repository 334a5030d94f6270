pub mod Courses
pub mod Opening
pub mod Histories
pub mod Slotted
