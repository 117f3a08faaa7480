pub mod Tables
pub mod Computing
