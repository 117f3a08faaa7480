pub mod Pieces
pub mod Computing
