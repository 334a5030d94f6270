pub mod Bounds
pub mod Apart
pub mod Order
pub mod Others
