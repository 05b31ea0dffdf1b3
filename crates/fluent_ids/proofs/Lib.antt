pub mod Named
pub mod Sorted
pub mod Steps
mod FirstAttribute
