pub mod Languages
pub mod ReadOn
mod Rows
pub mod Taken
pub mod Names
pub mod SaidOf
pub mod Inserted
pub mod Starting
pub mod AddsOne
pub mod Below
pub mod Tags
pub mod Adding
pub mod AddsMore
pub mod Removed
pub mod Collected
