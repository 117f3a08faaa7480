pub mod Putting
pub mod Computing
