pub mod Objects
pub mod Left
pub mod Given
pub mod Taken
pub mod Selectors
pub mod Json
pub mod Parts
pub mod Unfinished
