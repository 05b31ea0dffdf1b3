pub mod EntriesLeft
pub mod ResourceView
pub mod Reading
pub mod Sources
