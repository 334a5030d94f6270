pub mod Numbers
pub mod Fresh
pub mod Creation
pub mod Closing
pub mod Laws
pub mod Tokens
