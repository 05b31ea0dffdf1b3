-- What may be the cause of a flaw.
use Rattle.std.specs.Prelude.{if◌then◌else◌, List, [], ◌∷◌, ◌++◌, Bool, true, false, Option, Some, None, is_some, codes}
use Rattle.std.specs.List.{list_any}
use Rattle.std.specs.Option.{option_or}
use Rattle.fluent_grammar.specs.Words.{Text, hyphen, dot, dollar}
use Rattle.fluent_grammar.specs.Tree as t
use Rattle.fluent_grammar.specs.Tree.{Elements, Inline}
use Rattle.fluent_errors.specs.Errors.{unknown, no_value, missing_default, cyclic, too_many_placeables, Reference, to_function, to_message, to_term, to_variable}
use Rattle.fluent_meaning.specs.Ids.{Ids, Meaning, number_function, function, message, term, find}
use Rattle.fluent_meaning.specs.Fallback.{inline_fallback}
use Rattle.lint_findings.specs.SyntaxErrors.{in_backticks}
use Rattle.lint_findings.specs.References.{reference_patterns, next_patterns}
use Rattle.lint_findings.specs.Endless.{endless_patterns, is_pattern_among}
use Rattle.lint_findings.specs.Flaws.{Flaw, unresolved, duplicate_key}
use Rattle.lint_findings.specs.Comparison.{as_message}
use Rattle.lint_findings.specs.NearNames.{nearest_hint}

-- whether an id stands for a message
abbrev pub is_message : {F : Type 0} → Ids F → Text → Bool
is_message ids id = is_some (as_message (find ids id))

abbrev pub means_term : {F : Type 0} → Option (Meaning F) → Bool
means_term None = false
means_term (Some number_function) = false
means_term (Some (function f)) = false
means_term (Some (message m)) = false
means_term (Some (term m)) = true

-- whether it stands for a term
abbrev pub is_term : {F : Type 0} → Ids F → Text → Bool
is_term ids id = means_term (find ids id)

-- the reference has a message, and the catalog hasn't
abbrev pub untranslated_text : Text → Text
untranslated_text id = codes "the reference has the message `" ++ (id ++ codes "`; it isn't translated yet")

-- If an id stands for nothing, and a message is meant: that of the reference, or the nearest message, or else a variable.
abbrev pub no_message_hint : {F : Type 0} → Ids F → Ids F → Text → Option Text
no_message_hint ids reference id =
    if is_message reference id then Some (untranslated_text id)
    else option_or (nearest_hint [] (is_message ids) id) (Some (codes "a variable is written " ++ in_backticks (dollar ∷ id)))

-- if a message of this id is missing
abbrev pub message_hint : {F : Type 0} → Ids F → Ids F → Text → Option (Meaning F) → Option Text
message_hint ids reference id None = no_message_hint ids reference id
message_hint ids reference id (Some number_function) = None
message_hint ids reference id (Some (function f)) = None
message_hint ids reference id (Some (message m)) = None
message_hint ids reference id (Some (term m)) = Some (codes "`-" ++ (id ++ codes "` is a term"))

-- if a term of this id is missing
abbrev pub term_hint : {F : Type 0} → Ids F → Text → Option (Meaning F) → Option Text
term_hint ids id None = nearest_hint (hyphen ∷ []) (is_term ids) id
term_hint ids id (Some number_function) = None
term_hint ids id (Some (function f)) = None
term_hint ids id (Some (term m)) = None
term_hint ids id (Some (message m)) = Some (codes "`" ++ (id ++ codes "` is a message"))

abbrev pub first_attribute_hint : List t.Attribute → Option Text
first_attribute_hint [] = None
first_attribute_hint (a ∷ as') = Some (codes "it has the attribute " ++ in_backticks (dot ∷ a.id))

-- if this message has no value
abbrev pub value_hint : Option t.Message → Option Text
value_hint None = None
value_hint (Some m) = first_attribute_hint m.attributes

-- where references that never end go on: at one that is written so
abbrev pub goes_on_text : Text → Text
goes_on_text reference = codes "they go on at " ++ in_backticks reference

module _ {F : Type 0} (ids : Ids F) where
  abbrev pub is_endless : Elements → Bool
  is_endless es = is_pattern_among es (endless_patterns ids)

  -- Whether the references of a pattern never end: one of them enters an endless pattern. So it can be asked of patterns
  -- that aren't in the catalog too, as those of an entry whose id is taken.
  abbrev pub never_ends : Elements → Bool
  never_ends es = list_any is_endless (next_patterns (find ids) es)

  -- by the first reference to a pattern whose references never end
  abbrev pub endless_hint : List Inline → Option Text
  endless_hint [] = None
  endless_hint (i ∷ is) =
      if list_any is_endless (reference_patterns (find ids) i) then Some (goes_on_text (inline_fallback i))
      else endless_hint is

-- of what a catalog and its reference have
module _ {F : Type 0} (ids reference : Ids F) where
  abbrev pub unknown_hint : Reference → Option Text
  unknown_hint (to_function id) = None
  unknown_hint (to_message id a) = message_hint ids reference id (find ids id)
  unknown_hint (to_term id a) = term_hint ids id (find ids id)
  unknown_hint (to_variable id) = None

  -- For a flaw of a node. That references never end is a flaw of a pattern, and has `endless_hint`.
  abbrev pub flaw_hint : Flaw → Option Text
  flaw_hint (unresolved (unknown lack)) = unknown_hint lack
  flaw_hint (unresolved (no_value id)) = value_hint (as_message (find ids id))
  flaw_hint (unresolved missing_default) = Some (codes "write it before a variant, as `*[other]`")
  flaw_hint (unresolved cyclic) = None
  flaw_hint (unresolved too_many_placeables) = None
  flaw_hint (duplicate_key k) = None
