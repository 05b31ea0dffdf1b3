pub mod Lined
pub mod Onto
pub mod Laid
pub mod Braces
pub mod Spacing
