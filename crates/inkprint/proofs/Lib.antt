pub mod Characters
pub mod Walk
pub mod Kept
pub mod Plain
pub mod Parts
pub mod Calls
pub mod Promises
pub mod Example
