-- Terms that a message writes out, as the code asks for them.
use Rattle.std.specs.Prelude.{◌≡◌, Bool, List, Option, option_map, Vec}
use Rattle.std.specs.Global.{Global}
use Rattle.std.specs.Option.{option_to_list}
use denote.Ref.{Bor}
use Rattle.fluent_ast.specs.Borrowed.{message_of}
use Rattle.fluent_ast.specs.declared.Message.{Message}
use Rattle.fluent_grammar.specs.Words.{Text}
use Rattle.fluent_ids.specs.IdsView.{ids_view}
use Rattle.fluent_ids.specs.declared.ids.FluentIds.{FluentIds}
use Rattle.lint_comparison.specs.LossView.{AddsLosses, nodes_of}
use Rattle.lint_comparison.specs.declared.loss.Loss.{Loss}
use Rattle.lint_nodes.specs.HasNames.{texts}
use Rattle.lint_findings.specs.Losses as l
use Rattle.lint_nodes.specs.NodeView.{node_view}
use Rattle.lint_nodes.specs.declared.nodes.Node.{Node}

module _ (message other : Message (Bor Text)) where
  abbrev pub is_written_in : Text → Bool
  is_written_in s = l.is_written (message_of message) (message_of other) s

  abbrev pub first_written_in : List (Bor Text) → Option Text
  first_written_in found = l.first_written (message_of message) (message_of other) (texts found)

-- this is the id of the term that is written out, and the text
abbrev pub IsTerm : Option l.Loss → Option (Bor Text × Bor Text) → Type 0
IsTerm wanted found = option_map (λ p. l.written_term p.0.now p.1.now) found ≡ wanted

-- this is the text, of the term of this id
abbrev pub IsTextOf : Text → Option l.Loss → Option (Bor Text) → Type 0
IsTextOf id wanted found = option_map (l.written_term id) (option_map (λ s. s.now) found) ≡ wanted

module _ (reference : FluentIds (Unit {0})) (message other : Message (Bor Text)) (nodes : List Node) where
  abbrev pub loss_in : Text → Option l.Loss
  loss_in id = l.term_loss (ids_view (Unit {0}) reference) (message_of message) (message_of other) (nodes_of nodes) id

  abbrev pub term_in : Node → Option l.Loss
  term_in node = l.written_by (ids_view (Unit {0}) reference) (message_of message) (message_of other) (nodes_of nodes) (node_view node)

  abbrev pub first_term_in : List Node → Option l.Loss
  first_term_in others = l.first_term (ids_view (Unit {0}) reference) (message_of message) (message_of other) (nodes_of nodes) (nodes_of others)

  abbrev pub terms_in : List Node → List l.Loss
  terms_in others = option_to_list (first_term_in others)

  -- the loss of the first of these nodes that has one is added
  abbrev pub AddsTerm : List Node → Vec Loss Global → Vec Loss Global → Type 0
  AddsTerm others old new = AddsLosses old new (terms_in others)
