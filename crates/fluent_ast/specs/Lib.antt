pub mod View
pub mod Borrowed
pub mod Copy
pub mod Equality
