pub mod VerdictSteps
pub mod Promises
