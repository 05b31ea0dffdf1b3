pub mod Agreeing
pub mod Cut
pub mod EndZeros
pub mod Equal
pub mod Front
pub mod LastDigits
pub mod Numerals
pub mod Powers
mod Rows
pub mod Shown
pub mod Spelled
pub mod Tidied
pub mod Worth
pub mod Zeros
