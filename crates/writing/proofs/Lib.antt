pub mod Promises
pub mod Puts
pub mod Showable
pub mod Shown
