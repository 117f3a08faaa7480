pub mod Promises
pub mod Outcomes
pub mod Weights
pub mod Changes
pub mod Refusals
pub mod Example
