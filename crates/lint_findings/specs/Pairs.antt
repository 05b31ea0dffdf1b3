-- What is said of the texts of a message beside those of the message of the reference.
use Rattle.std.specs.Prelude.{ℕ, ◌-◌, Bool, ◌||◌, if◌then◌else◌, List, [], ◌∷◌, ◌++◌, length, drop, map, Option, Some, None, codes}
use Rattle.std.specs.Option.{option_map_or}
use Rattle.std.specs.Str.{bytes_eq}
use Rattle.fluent_grammar.specs.Words.{Text, dot}
use Rattle.fluent_grammar.specs.Tree as t
use Rattle.fluent_grammar.specs.Tree.{Elements}
use Rattle.fluent_meaning.specs.Same.{same_elements}
use Rattle.lint_findings.specs.Addresses.{urls_beside}
use Rattle.lint_findings.specs.Doubled.{doubled_words}
use Rattle.lint_findings.specs.Doubts.{Spotted, long_access_key, long_key}
use Rattle.lint_findings.specs.Edges.{edge_spaces, final_signs}
use Rattle.lint_findings.specs.Entities.{broken_entities}
use Rattle.lint_findings.specs.Keys.{long_for, outside_label}
use Rattle.lint_findings.specs.Lengths.{empty_beside, is_blank, long_beside}
use Rattle.lint_findings.specs.Markup.{markup}
use Rattle.lint_findings.specs.Numbers.{numbers_beside}
use Rattle.lint_findings.specs.Placeholders.{changed_placeholders}
use Rattle.lint_findings.specs.Runs.{own_text, runs}
use Rattle.lint_findings.specs.Styles.{style_beside}
use Rattle.lint_findings.specs.Typing.{dots_beside, spaces_beside, straight_quotes, unpaired_quotes}

-- ---- texts that differ

-- by their texts, which are those of these patterns
abbrev pub text_doubts : List Text → List Text → List Spotted
text_doubts texts others =
    urls_beside texts others
    ++ (changed_placeholders texts others
    ++ (numbers_beside texts others
    ++ (spaces_beside texts others
    ++ (doubled_words texts others
    ++ (dots_beside texts others
    ++ (straight_quotes texts others
    ++ unpaired_quotes texts others))))))

-- the group of notes that are only made if they are asked for
abbrev pub doubts : Elements → Elements → List Spotted
doubts es os =
    if is_blank (own_text es) then empty_beside es os
    else empty_beside es os
    ++ (text_doubts (runs es) (runs os) ++ (edge_spaces es os ++ (final_signs es os ++ long_beside es os)))

-- of a text that is read by people
abbrev pub on_words : Elements → Elements → List Spotted
on_words es os = markup es os ++ (broken_entities (runs es) (runs os) ++ doubts es os)

-- of the value, or of an attribute of this name
abbrev pub on_named : Option Text → Elements → Elements → List Spotted
on_named None es os = on_words es os
on_named (Some name) es os =
    if bytes_eq name (codes "accesskey") then long_for long_access_key es os
    else if bytes_eq name (codes "key") then long_for long_key es os
    else if bytes_eq name (codes "style") then style_beside es os
    else on_words es os

-- Nothing is said of a text that is that of the reference.
abbrev pub on_pair : Option Text → Elements → Elements → List Spotted
on_pair name es os = if same_elements es os then [] else on_named name es os

-- ---- the texts of a message

-- beside that of the reference, if it has one
abbrev pub on_maybe : Option Text → Option Elements → Option Elements → List Spotted
on_maybe name (Some es) (Some os) = on_pair name es os
on_maybe name _ _ = []

-- the first attribute of a name
abbrev pub attribute_of : Text → List t.Attribute → Option Elements
attribute_of name [] = None
attribute_of name (a ∷ as') = if bytes_eq name a.id then Some a.value else attribute_of name as'

abbrev pub if_access_key : Text → t.Message → t.Message → List Spotted
if_access_key name m o = if bytes_eq name (codes "accesskey") then outside_label m o else []

abbrev pub on_attribute : t.Message → t.Message → t.Attribute → List Spotted
on_attribute m o a =
    on_maybe (Some a.id) (Some a.value) (attribute_of a.id o.attributes) ++ if_access_key a.id m o

-- of the value, and of each attribute
abbrev pub on_texts : t.Message → t.Message → List (List Spotted)
on_texts m o = on_maybe None m.value o.value ∷ map (on_attribute m o) m.attributes
