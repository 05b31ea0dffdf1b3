pub mod Ascii
pub mod Chosen
pub mod Folded
pub mod Letters
pub mod Negotiated
pub mod Splitting
mod Rows
