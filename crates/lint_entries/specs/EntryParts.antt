-- What is found of a message or a term, by its parts.
use Rattle.std.specs.Prelude.{List, [], ◌∷◌, ◌++◌, length, drop, Option, Some, None}
use Rattle.fluent_grammar.specs.Words.{Text, hyphen, skip_spaces, skip_blank_block}
use Rattle.fluent_grammar.specs.Tree as t
use Rattle.fluent_meaning.specs.Fallback.{with_attribute}
use Rattle.fluent_meaning.specs.Ids.{Ids}
use Rattle.fluent_plurals.specs.declared.plurals.LanguagePlurals.{LanguagePlurals}
use Rattle.lint_findings.specs.EntryFindings.{attribute_findings, pattern_findings}
use Rattle.lint_findings.specs.Finding.{Finding}
use Rattle.lint_findings.specs.Occurrences.{after_equals, pattern_read}
use Rattle.lint_entries.specs.AttributePlaces.{IsBodyAt, attribute_value, read_rest, value_elements}

-- a minus for a term, the id, and the patterns
pub record Parts : Type 0 where
  pub sign : Text
  pub id : Text
  pub value : Option t.Elements
  pub attributes : List t.Attribute

abbrev pub parts_of : t.Entry → Option Parts
parts_of (t.message m) = Some (record { sign = []; id = m.id; value = m.value; attributes = m.attributes })
parts_of (t.term m) = Some (record { sign = hyphen ∷ []; id = m.id; value = Some m.value; attributes = m.attributes })
parts_of (t.comment c) = None
parts_of (t.group_comment c) = None
parts_of (t.resource_comment c) = None
parts_of (t.junk x) = None

-- the parts are read after their sign, at the front of a text, and leave this rest
abbrev pub LeaveRest : Parts → Text → Text → Type 0
LeaveRest p s rest = IsBodyAt (value_elements p.value) p.attributes (drop (length p.sign) s) rest

module _ (ids reference : Ids (Unit {0})) (plurals : Option LanguagePlurals) (source : Text) where
  -- of attributes of an entry with this label, after those with these names, from the line of the first one on
  abbrev pub attributes_at : Text → List Text → List t.Attribute → Text → List Finding
  attributes_at label before [] s = []
  attributes_at label before (a ∷ as') s =
      attribute_findings ids reference plurals source (with_attribute label (Some a.id)) before (record { attribute = Some a.id; name_at = skip_spaces s; pattern_at = attribute_value s }) (Some a.id)
      ++ (pattern_findings ids reference plurals source (with_attribute label (Some a.id)) (record { attribute = Some a.id; name_at = skip_spaces s; pattern_at = attribute_value s }) a.value
      ++ attributes_at label (a.id ∷ before) as' (read_rest (pattern_read (attribute_value s))))

  -- of a value, at the entry and from its first byte on
  abbrev pub value_at : Text → Text → Text → t.Elements → List Finding
  value_at label s value_place es = pattern_findings ids reference plurals source label (record { attribute = None; name_at = s; pattern_at = value_place }) es

  abbrev pub maybe_value_at : Text → Text → Text → Option t.Elements → List Finding
  maybe_value_at label s value_place None = []
  maybe_value_at label s value_place (Some es) = value_at label s value_place es

  -- of the parts of an entry at the front of a text
  abbrev pub parts_found : Parts → Text → List Finding
  parts_found p s =
      maybe_value_at (p.sign ++ p.id) s (after_equals (drop (length p.sign) s)) p.value
      ++ attributes_at (p.sign ++ p.id) [] p.attributes (skip_blank_block (read_rest (pattern_read (after_equals (drop (length p.sign) s)))))
