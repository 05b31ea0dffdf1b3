mod Rows
pub mod Lists
pub mod Injective
pub mod NoFloats
