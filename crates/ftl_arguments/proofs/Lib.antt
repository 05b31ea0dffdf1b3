pub mod Found
pub mod Explained
pub mod Parsed
mod Rows
pub mod ArgumentsBehind
pub mod Asked
pub mod AllOf
pub mod Gathered
pub mod Added
