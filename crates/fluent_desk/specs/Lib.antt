-- The definitions by which the contracts of the calls that tidy are stated, from the crate below.
pub use Rattle.fluent_tidy.specs.Errors
pub use Rattle.fluent_tidy.specs.Messages
pub use Rattle.fluent_tidy.specs.Sources
pub use Rattle.fluent_tidy.specs.Trees
pub use Rattle.fluent_tidy.specs.DeskLaws
pub mod ForCallers
