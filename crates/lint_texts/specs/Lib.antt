pub mod InCode
pub mod Beside
pub mod AddressParts
pub mod NumberParts
pub mod OfMessages
pub mod Parts
pub mod Quotes
pub mod Spaces
