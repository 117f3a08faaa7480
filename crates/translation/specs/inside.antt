pub mod Making
pub mod Opened
pub mod Tables
pub mod States
pub mod Computing
