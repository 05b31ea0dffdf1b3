-- The view of what an entry begins with.
use Rattle.std.specs.Prelude.{List, ℕ, option_map}
use Rattle.fluent_ast.specs.View.{name_of, pattern_view}
use Rattle.fluent_parser.specs.Entries.{Head}
use Rattle.fluent_parser.specs.declared.entry.Head.{Head as Read}

-- the head that was read, as plain data
abbrev pub head_view : (S : Type 0) (text_of : S → List ℕ) → Read S → Head
head_view S text_of h = record { id = name_of S text_of h.id; value = option_map (pattern_view S text_of) h.value }
