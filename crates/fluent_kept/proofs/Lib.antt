pub mod Values
mod Steps
mod Heaps
mod Made
mod Rows
mod Tokens
mod BundleMade
mod Environments
mod Calling
mod HandleMade
mod Crossing
mod Messages
mod Written
mod LastNamed
mod KeptTexts
pub mod OneTree
