-- What is found of an entry by a reference.
use Rattle.std.specs.Prelude.{◌-◌, List, ◌++◌, length}
use denote.Ref.{Bor}
use Rattle.fluent_ast.specs.Borrowed.{message_of}
use Rattle.fluent_ast.specs.declared.Message.{Message}
use Rattle.fluent_grammar.specs.Tree as t
use Rattle.fluent_grammar.specs.Words.{Text}
use Rattle.fluent_ids.specs.IdsView.{ids_view}
use Rattle.lint_comparison.specs.declared.reference.Reference.{Reference}
use Rattle.lint_comparison.specs.LossView.{loss_found}
use Rattle.lint_comparison.specs.TextsView.{beside_found}
use Rattle.lint_findings.specs.ComparisonFindings as f
use Rattle.lint_findings.specs.Finding.{Finding}

abbrev pub compared_by : Reference → Text → t.Entry → Text → List Finding
compared_by reference =
    f.message_findings (ids_view (Unit {0}) reference.ids.now) (ids_view (Unit {0}) reference.reference.now) reference.plurals

abbrev pub message_compared : Reference → Text → Message (Bor Text) → Text → List Finding
message_compared reference source message text = compared_by reference source (t.message (message_of message)) text

-- what a message of this source loses of another, and what is said of its texts beside those of that
abbrev pub found_by : Reference → Text → Message (Bor Text) → Message (Bor Text) → Text → List Finding
found_by reference source message other text =
    loss_found reference.reference.now reference.plurals message other (length source - length text)
    ++ beside_found source message other text
