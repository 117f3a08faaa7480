pub mod Numbers
pub mod Characters
pub mod Glyphs
pub mod Marks
pub mod Calls
pub mod Promises
pub mod Kept
pub mod inside
