pub mod Limits
pub mod Promises
pub mod Frames
