pub mod Emboss
pub mod Refusals
pub mod Promises
pub mod Relied
pub mod Before
pub mod Years
pub mod inside
