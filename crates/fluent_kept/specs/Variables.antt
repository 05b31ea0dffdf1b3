-- The variables that a message is shown with, in lines.
use Rattle.std.specs.Prelude.{Option, option_map}
use Rattle.fluent_grammar.specs.Words.{Text}
use Rattle.fluent_ids.specs.Found.{message_in}
use Rattle.fluent_meaning.specs.Ids.{Ids, find}
use Rattle.fluent_run.specs.Listing.{lines}
use Rattle.lint_findings.specs.Comparison.{variables_of}

-- a line for each variable that the message of an id is shown with, if there is one
abbrev pub variable_lines : {F : Type 0} → Ids F → Text → Option Text
variable_lines ids id = option_map (λ message. lines (variables_of ids id)) (message_in (find ids id))
