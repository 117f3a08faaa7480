pub mod Promises
pub mod Words
pub mod Sizes
pub mod Example
