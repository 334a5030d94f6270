pub mod Meaning
pub mod Codes
pub mod Changes
pub mod Texts
