pub mod Rules
pub mod Bounded
pub mod Season
pub mod Places
