pub mod Message
pub mod Selects
pub mod Given
-- The definitions of the JSON value of a tree, and of what an error shows, from the crates below.
pub use Rattle.fluent_json_write.specs.Objects
pub use Rattle.fluent_json_write.specs.Selectors
pub use Rattle.fluent_json_write.specs.Json
pub use Rattle.fluent_json_write.specs.Parts
pub use Rattle.fluent_json.specs.Message
