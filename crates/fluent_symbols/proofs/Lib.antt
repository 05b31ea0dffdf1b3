pub mod Written
mod Rows
mod RestsEnd
mod PiecesFound
pub mod NamesThere
pub mod MentionsAreTheTree
pub mod NamesInOrder
mod NodeRows
pub mod LinePlaces
pub mod NodeSteps
pub mod EntrySteps
pub mod WalkSteps
