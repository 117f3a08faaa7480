pub mod Found
pub mod Computing
pub mod Wrote
