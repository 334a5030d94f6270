pub mod Goes
pub mod Connected
pub mod States
