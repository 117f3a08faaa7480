-- What a reader has to believe about the desk.
pub mod Statuses
