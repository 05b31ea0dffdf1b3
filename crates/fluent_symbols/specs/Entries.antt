-- Where symbols are defined and referred to in a message or a term, by its tree and its text.
use Rattle.std.specs.Prelude.{List, [], ◌∷◌, ◌++◌, drop}
use Rattle.fluent_grammar.specs.Words.{Text, skip_spaces, skip_blank_block}
use Rattle.fluent_grammar.specs.Tree as t
use Rattle.fluent_grammar.specs.Tree.{Elements}
use Rattle.lint_entries.specs.AttributePlaces.{value_elements}
use Rattle.lint_findings.specs.Occurrences.{after_equals}
use Rattle.lint_nodes.specs.Rests.{pattern_rest}
use Rattle.fluent_symbols.specs.Occurrences.{Occurrence, attribute, definition, in_pattern, message, named, owned, term, with_minus}

-- in attributes of this message or term, from the line of the first one on
abbrev pub in_attributes : Text → List t.Attribute → Text → List Occurrence
in_attributes owner [] s = []
in_attributes owner (a ∷ as') s =
    let name = drop 1 (skip_spaces s) in
    definition (owned attribute owner a.id) name
    ∷ (in_pattern owner a.value (after_equals name) ++ in_attributes owner as' (pattern_rest a.value (after_equals name)))

-- in a value, which may have no elements, and the attributes after it
abbrev pub in_body : Text → Elements → List t.Attribute → Text → List Occurrence
in_body owner value attributes s =
    in_pattern owner value s ++ in_attributes owner attributes (skip_blank_block (pattern_rest value s))

abbrev pub in_message : t.Message → Text → List Occurrence
in_message m s = definition (named message m.id) s ∷ in_body m.id (value_elements m.value) m.attributes (after_equals s)

-- from its minus on
abbrev pub in_term : t.Term → Text → List Occurrence
in_term m s =
    definition (named term m.id) (drop 1 s) ∷ in_body (with_minus m.id) m.value m.attributes (after_equals (drop 1 s))

-- in the entry at the front of a text
abbrev pub in_entry : t.Entry → Text → List Occurrence
in_entry (t.message m) s = in_message m s
in_entry (t.term m) s = in_term m s
in_entry (t.comment c) s = []
in_entry (t.group_comment c) s = []
in_entry (t.resource_comment c) s = []
in_entry (t.junk x) s = []
