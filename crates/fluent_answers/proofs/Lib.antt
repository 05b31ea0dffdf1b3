pub mod InTurn
pub mod OneByOne
pub mod Tidying
mod Rows
pub mod SourcesFit
