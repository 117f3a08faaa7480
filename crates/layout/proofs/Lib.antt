pub mod Refusals
pub mod Promises
pub mod Relied
pub mod WholeCall
pub mod Demands
pub mod Years
pub mod Following
pub mod Twelve
