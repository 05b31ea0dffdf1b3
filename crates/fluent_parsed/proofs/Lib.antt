pub mod CollectedEntries
pub mod NeverTold
pub mod Ends
pub mod Dedenting
pub mod Gathering
