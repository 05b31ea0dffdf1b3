pub mod Writing
pub mod Spaced
