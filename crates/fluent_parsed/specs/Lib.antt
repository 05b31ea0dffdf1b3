pub mod ErrorView
pub mod ErrorText
pub mod ErrorLaws
pub mod Collected
pub mod Elements
pub mod Pieces
