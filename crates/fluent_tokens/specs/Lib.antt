pub mod Bytes
pub mod Counted
pub mod Swept
pub mod Table
pub mod Lookup
pub mod IndentedTexts
pub mod Unescaped
