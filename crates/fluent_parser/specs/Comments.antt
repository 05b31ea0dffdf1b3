-- What reading the lines of a comment does to those that were read before.
use Rattle.std.specs.Prelude.{ℕ, List, Result, drop, map}
use Rattle.fluent_grammar.specs.Words.{Text}
use Rattle.fluent_grammar.specs.Reading.{comment_line_at}
use Rattle.fluent_text.specs.declared.slice.Texts.{Ghosts}
use Rattle.fluent_parser.specs.Entries.{lines_with}
use Rattle.fluent_parser.specs.Frame.{Reads}
use Rattle.fluent_parser.specs.declared.fault.Fault.{Fault}
use Rattle.fluent_parser.specs.declared.parser.Parser.{Parser}

-- the line after so many signs was put after these lines, if it is one
abbrev pub ReadsLine : {A S T : Type 0} {texts : Ghosts T S} → (S → Text) → ℕ → List S → List S → Parser S T texts → Parser S T texts → Result A Fault → Type 0
ReadsLine text_of level before after old new result = Reads (λ u. map text_of after) old new result (λ s. lines_with (map text_of before) (comment_line_at (drop level s)))
