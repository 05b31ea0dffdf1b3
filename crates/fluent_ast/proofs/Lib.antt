pub mod Copied
pub mod Views
pub mod Equality
pub mod EqualTrees
