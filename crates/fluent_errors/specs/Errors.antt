-- Errors of bundles and of resolving, as plain data. A name is the list of its bytes, without `-` and `$`.
use Rattle.std.specs.Prelude.{ℕ, List, Option, None, Some}
use Rattle.fluent_grammar.specs.Tree as t
use Rattle.fluent_parsed.specs.ErrorView.{ErrorView}

-- what an id of a bundle stands for
pub data Kind : Type 0 where
  message : Kind
  term : Kind
  function : Kind

-- what an expression refers to; a message or term with a name after it is the attribute of that name
pub data Reference : Type 0 where
  to_function : List ℕ → Reference
  to_message : List ℕ → Option (List ℕ) → Reference
  to_term : List ℕ → Option (List ℕ) → Reference
  to_variable : List ℕ → Reference

-- what went wrong while a pattern was resolved
pub data Unresolved : Type 0 where
  unknown : Reference → Unresolved
  no_value : List ℕ → Unresolved
  missing_default : Unresolved
  cyclic : Unresolved
  too_many_placeables : Unresolved

-- what a bundle reports
pub data Reported : Type 0 where
  overriding : Kind → List ℕ → Reported
  damaged : ErrorView → Reported
  unresolved : Unresolved → Reported

-- what an expression refers to; literals and placeables refer to nothing
abbrev pub reference_of : t.Inline → Option Reference
reference_of (t.function_reference id args) = Some (to_function id)
reference_of (t.message_reference id attr) = Some (to_message id attr)
reference_of (t.term_reference id attr args) = Some (to_term id attr)
reference_of (t.variable_reference id) = Some (to_variable id)
reference_of (t.string_literal s) = None
reference_of (t.number_literal s) = None
reference_of (t.nested e) = None
