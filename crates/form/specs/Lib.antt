pub mod Numbers
pub mod Words
pub mod Fields
pub mod Reading
pub mod Showing
pub mod Calls
pub mod Promises
pub mod inside
