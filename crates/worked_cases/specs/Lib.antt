pub mod Courses
pub mod Cases
