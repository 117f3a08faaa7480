pub mod Steps
pub mod Computing
