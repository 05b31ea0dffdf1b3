pub mod Errors
pub mod Texts
pub mod View
pub mod Laws
