pub mod Promises
pub mod Told
