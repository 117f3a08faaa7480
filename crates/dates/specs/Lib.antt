pub mod Forms
pub mod Moving
pub mod Refusals
pub mod Promises
pub mod inside
