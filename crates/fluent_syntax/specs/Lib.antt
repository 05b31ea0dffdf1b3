-- The definitions of the grammar, and of what trees and errors stand for, from the crates below.
pub use Rattle.fluent_grammar.specs.Tree
pub use Rattle.fluent_grammar.specs.Words
pub use Rattle.fluent_grammar.specs.Lines
pub use Rattle.fluent_grammar.specs.Refusal
pub use Rattle.fluent_grammar.specs.Reading
pub use Rattle.fluent_grammar.specs.Spelling
pub use Rattle.fluent_grammar.specs.Tiling
pub use Rattle.fluent_grammar.specs.Written
pub use Rattle.fluent_ast.specs.View
pub use Rattle.fluent_parsed.specs.ErrorView
pub use Rattle.fluent_parsed.specs.Collected
pub use Rattle.fluent_tokens.specs.Unescaped
pub mod ForCallers
