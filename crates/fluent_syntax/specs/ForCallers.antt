-- The words that callers name, from the crates below: what a source says, what is written of a tree, and a tree's entries.
use Rattle.std.specs.Prelude.{List, String, string_bytes}
use Rattle.std.specs.declared.alloc.Global.{Global}
use denote.Ref.{Bor}
use Rattle.fluent_grammar.specs.Words.{Text}
use Rattle.fluent_grammar.specs.Tree.{Entry}
use Rattle.fluent_ast.specs.View.{resource_view}
use Rattle.fluent_ast.specs.declared.Resource.{Resource}
pub use Rattle.fluent_grammar.specs.Words.{Text}
pub use Rattle.fluent_grammar.specs.Tiling.{tree, errors, list, listed, runtime_tree, runtime_errors}
pub use Rattle.fluent_grammar.specs.Written.{written, written_with}
pub use Rattle.fluent_parsed.specs.Collected.{HasTree, HasErrors}
pub use Rattle.fluent_parsed.specs.ErrorView.{error_view, error_told}

-- the entries of a tree whose texts are borrowed from its source
abbrev pub entries_of : Resource (Bor Text) → List Entry
entries_of = resource_view (Bor Text) (λ s. s.now)

-- the entries of a tree that has its own texts
abbrev pub owned_entries_of : Resource (String Global) → List Entry
owned_entries_of = resource_view (String Global) string_bytes
