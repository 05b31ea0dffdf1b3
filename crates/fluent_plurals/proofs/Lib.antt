pub mod English
mod Rows
