pub mod Numbers
pub mod Sums
pub mod Stamping
pub mod Weights
pub mod Changes
pub mod Promises
pub mod inside
