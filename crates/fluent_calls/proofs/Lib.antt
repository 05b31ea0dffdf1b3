mod Texts
mod Rows
mod Adding
pub mod Gathered
