pub mod Faults
pub mod Groups
