-- What was found under an id, by its kind.
use Rattle.std.specs.Prelude.{ℕ, List, Option, None, Some, option_map, option_copied}
use denote.Ref.{Bor}
use Rattle.fluent_grammar.specs.Tree as t
use Rattle.fluent_ast.specs.View.{message_view, term_view}
use Rattle.fluent_ast.specs.declared.Message.{Message}
use Rattle.fluent_ast.specs.declared.Term.{Term}
use Rattle.fluent_meaning.specs.Ids.{Meaning, number_function, function, message, term}

module _ {F : Type 0} where
  -- the message, if it is one
  abbrev pub message_in : Option (Meaning F) → Option t.Message
  message_in None = None
  message_in (Some (message m)) = Some m
  message_in (Some (term m)) = None
  message_in (Some (function f)) = None
  message_in (Some number_function) = None

  -- the term, if it is one
  abbrev pub term_in : Option (Meaning F) → Option t.Term
  term_in None = None
  term_in (Some (message m)) = None
  term_in (Some (term m)) = Some m
  term_in (Some (function f)) = None
  term_in (Some number_function) = None

  -- what it is, if it is a function
  abbrev pub function_in : Option (Meaning F) → Option (Meaning F)
  function_in None = None
  function_in (Some (message m)) = None
  function_in (Some (term m)) = None
  function_in (Some (function f)) = Some (function f)
  function_in (Some number_function) = Some number_function

-- the plain message that is lent, if there is one
abbrev pub lent_message : Option (Bor (Message (Bor (List ℕ)))) → Option t.Message
lent_message found = option_map (message_view _ (λ s. s.now)) (option_copied found)

-- the plain term that is lent, if there is one
abbrev pub lent_term : Option (Bor (Term (Bor (List ℕ)))) → Option t.Term
lent_term found = option_map (term_view _ (λ s. s.now)) (option_copied found)
