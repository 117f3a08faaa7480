pub mod Steps
pub mod Lines
pub mod Modests
pub mod Writing
