pub mod Junk
pub mod Loops
