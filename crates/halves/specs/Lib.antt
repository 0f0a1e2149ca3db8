pub mod Halving
pub mod HalfLaws
