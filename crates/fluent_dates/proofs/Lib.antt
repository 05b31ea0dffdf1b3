pub mod Alone
pub mod Edits
pub mod Exact
pub mod Fitting
pub mod Forms
pub mod Gaps
pub mod Nearest
pub mod PlaceSteps
pub mod Placed
mod Rows
pub mod SetOptions
pub mod ShownPlaces
pub mod Spellings
pub mod Streamed
pub mod WritingSteps
