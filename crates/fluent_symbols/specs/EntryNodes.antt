-- The nodes of the entries of a source, each after those in it.
use Rattle.std.specs.Prelude.{List, [], ◌∷◌, ◌++◌, length, drop, Option, Some, None}
use Rattle.fluent_grammar.specs.Words.{Text, skip_spaces, skip_blank_block}
use Rattle.fluent_grammar.specs.Tiling.{tree}
use Rattle.fluent_grammar.specs.Tree as t
use Rattle.fluent_grammar.specs.Tree.{Elements}
use Rattle.lint_entries.specs.AttributePlaces.{value_elements}
use Rattle.lint_findings.specs.Occurrences.{after_equals}
use Rattle.lint_nodes.specs.Rests.{pattern_rest}
use Rattle.fluent_symbols.specs.Node.{Node, Kind, leaf, named, comment_end, comment_node, next_line}
use Rattle.fluent_symbols.specs.Node as kind
use Rattle.fluent_symbols.specs.PatternNodes.{in_pattern, pattern_end}

-- ---- comments

-- the comment above a message or a term
abbrev pub in_comment : Option (List Text) → Text → List Node
in_comment None s = []
in_comment (Some lines) s = comment_node kind.comment lines s

abbrev pub after_comment : Option (List Text) → Text → Text
after_comment None s = s
after_comment (Some lines) s = next_line (comment_end lines s)

-- ---- values and attributes

-- a value, which a message may lack
abbrev pub in_value : Option Elements → Text → List Node
in_value None s = []
in_value (Some es) s = in_pattern es s

abbrev pub value_end : Option Elements → Text → Text
value_end None s = s
value_end (Some es) s = pattern_end es s

abbrev pub value_rest : Option Elements → Text → Text
value_rest value s = pattern_rest (value_elements value) s

-- an attribute, from its dot on
abbrev pub attribute_end : t.Attribute → Text → Text
attribute_end a s = pattern_end a.value (after_equals (drop 1 s))

abbrev pub attribute_rest : t.Attribute → Text → Text
attribute_rest a s = pattern_rest a.value (after_equals (drop 1 s))

abbrev pub in_attribute : t.Attribute → Text → List Node
in_attribute a s =
    named a.id (drop 1 s)
    ++ (in_pattern a.value (after_equals (drop 1 s)) ++ leaf kind.attribute s (attribute_end a s))

-- attributes, from the line of the first one on
abbrev pub in_attributes : List t.Attribute → Text → List Node
in_attributes [] s = []
in_attributes (a ∷ as') s = in_attribute a (skip_spaces s) ++ in_attributes as' (attribute_rest a (skip_spaces s))

-- the end of the last of them, or of what is before them
abbrev pub last_end : Text → List t.Attribute → Text → Text
last_end before [] s = before
last_end before (a ∷ as') s = last_end (attribute_end a (skip_spaces s)) as' (attribute_rest a (skip_spaces s))

abbrev pub attributes_rest : List t.Attribute → Text → Text
attributes_rest [] s = s
attributes_rest (a ∷ as') s = attributes_rest as' (attribute_rest a (skip_spaces s))

-- ---- entries

-- a message or a term with its comment, which begins at the first text, and whose name is at the second
abbrev pub in_body : Kind → Text → Text → Text → Option Elements → List t.Attribute → List Node
in_body kind s name id value attributes =
    let value_at = after_equals name in
    let attributes_at = skip_blank_block (value_rest value value_at) in
    named id name
    ++ (in_value value value_at
    ++ (in_attributes attributes attributes_at
    ++ leaf kind s (last_end (value_end value value_at) attributes attributes_at)))

abbrev pub body_rest : Text → Option Elements → List t.Attribute → Text
body_rest name value attributes =
    attributes_rest attributes (skip_blank_block (value_rest value (after_equals name)))

-- the entry at the front of a text, with the comment above it
abbrev pub in_entry : t.Entry → Text → List Node
in_entry (t.message m) s = in_comment m.comment s ++ in_body kind.message s (after_comment m.comment s) m.id m.value m.attributes
in_entry (t.term m) s =
    in_comment m.comment s ++ in_body kind.term s (drop 1 (after_comment m.comment s)) m.id (Some m.value) m.attributes
in_entry (t.comment lines) s = comment_node kind.comment lines s
in_entry (t.group_comment lines) s = comment_node kind.group_comment lines s
in_entry (t.resource_comment lines) s = comment_node kind.resource_comment lines s
in_entry (t.junk content) s = leaf kind.junk s (drop (length content) s)

-- what follows an entry
abbrev pub entry_rest : t.Entry → Text → Text
entry_rest (t.message m) s = body_rest (after_comment m.comment s) m.value m.attributes
entry_rest (t.term m) s = body_rest (drop 1 (after_comment m.comment s)) (Some m.value) m.attributes
entry_rest (t.comment lines) s = next_line (comment_end lines s)
entry_rest (t.group_comment lines) s = next_line (comment_end lines s)
entry_rest (t.resource_comment lines) s = next_line (comment_end lines s)
entry_rest (t.junk content) s = drop (length content) s

-- entries, each after the blank lines before it
abbrev pub in_entries : List t.Entry → Text → List Node
in_entries [] s = []
in_entries (e ∷ es) s = in_entry e (skip_blank_block s) ++ in_entries es (entry_rest e (skip_blank_block s))

-- the nodes of a source
abbrev pub nodes : Text → List Node
nodes source = in_entries (tree source) source
