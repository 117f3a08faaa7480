pub mod Puts
pub mod Penned
