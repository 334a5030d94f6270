pub mod Numbers
pub mod Answers
pub mod Marks
pub mod Checks
pub mod Sending
pub mod Receiving
