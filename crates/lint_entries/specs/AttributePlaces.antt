-- Where the patterns of an entry are read, by its tree.
use Rattle.std.specs.Prelude.{◌≡◌, List, [], ◌∷◌, drop, Option, Some, None}
use denote.Ref.{Bor}
use Rattle.fluent_ast.specs.Borrowed.{entry_of}
use Rattle.fluent_ast.specs.declared.Entry.{Entry}
use Rattle.fluent_grammar.specs.Words.{Text, skip_spaces, skip_blank_block}
use Rattle.fluent_grammar.specs.Refusal.{Reading, got, refused}
use Rattle.fluent_grammar.specs.Tree as t
use Rattle.fluent_grammar.specs.Reading.{entry_at}
use Rattle.lint_findings.specs.Occurrences.{PatternPlace, after_equals, pattern_read}

-- the pattern of the attribute on the line at the front
abbrev pub attribute_value : Text → Text
attribute_value s = after_equals (drop 1 (skip_spaces s))

-- These attributes are read here, one directly after the other, and leave this rest.
abbrev pub AreAttributesAt : List t.Attribute → Text → Text → Type 0
AreAttributesAt [] s rest = s ≡ rest
AreAttributesAt (a ∷ as') s rest = (u : Text) × (pattern_read (attribute_value s) ≡ got a.value u) × AreAttributesAt as' u rest

abbrev pub AreAttributes : List t.Attribute → Text → Type 0
AreAttributes as' s = (rest : Text) × AreAttributesAt as' s rest

-- what is left after a reading
abbrev pub read_rest : {A : Type 0} → Reading A → Text
read_rest (got a rest) = rest
read_rest (refused fault) = []

-- the places of attributes
abbrev pub places_of_attributes : List t.Attribute → Text → List PatternPlace
places_of_attributes [] s = []
places_of_attributes (a ∷ as') s =
    record { attribute = Some a.id; name_at = skip_spaces s; pattern_at = attribute_value s }
    ∷ places_of_attributes as' (read_rest (pattern_read (attribute_value s)))

-- the value of a message, with no elements if it has none
abbrev pub value_elements : Option t.Elements → t.Elements
value_elements None = t.no_elements
value_elements (Some es) = es

-- A pattern with these elements, which may be none, and these attributes are read after a name, and leave this rest.
abbrev pub IsBodyAt : t.Elements → List t.Attribute → Text → Text → Type 0
IsBodyAt value attributes name rest =
    (u : Text) × (pattern_read (after_equals name) ≡ got value u) × AreAttributesAt attributes (skip_blank_block u) rest

-- an entry as it is read, without the comment above it
abbrev pub uncommented : t.Entry → t.Entry
uncommented (t.message m) = t.message (record m { comment = None })
uncommented (t.term m) = t.term (record m { comment = None })
uncommented e = e

-- as code has it
abbrev pub bare_entry : Entry (Bor Text) → t.Entry
bare_entry e = uncommented (entry_of e)

-- an entry is read at the front of a text and leaves this rest
abbrev pub LeavesRest : t.Entry → Text → Text → Type 0
LeavesRest e s rest = entry_at s ≡ got (uncommented e) rest

abbrev pub IsEntryAt : t.Entry → Text → Type 0
IsEntryAt e s = (rest : Text) × LeavesRest e s rest
