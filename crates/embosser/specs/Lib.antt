pub mod Numbers
pub mod Chart
pub mod Judging
pub mod Good
pub mod Filing
pub mod Refusals
pub mod Promises
pub mod inside
