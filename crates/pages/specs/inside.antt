pub mod Gather
pub mod Formats
pub mod Writing
pub mod Computing
