-- What the messages of a file are shown with, if they refer to messages of other files.
use Rattle.std.specs.Prelude.{Bool, true, false, not, ◌||◌, if◌then◌else◌, List, [], ◌∷◌, ◌++◌, Option, Some, None, is_some, unwrap_or}
use Rattle.std.specs.List.{flat_map, list_any}
use Rattle.std.specs.Option.{option_map_or, option_to_list}
use Rattle.fluent_grammar.specs.Tree as t
use Rattle.fluent_grammar.specs.Words.{Text, is_among}
use Rattle.fluent_ids.specs.Found.{message_in}
use Rattle.fluent_meaning.specs.Ids.{Ids, Meaning, entries_by_id, find, with_ids}
use Rattle.fluent_plurals.specs.declared.plurals.LanguagePlurals.{LanguagePlurals}
use Rattle.lint_entries.specs.Kept.{Part, entry_part, junk_part, parts}
use Rattle.lint_findings.specs.Comparison.{union}
use Rattle.lint_findings.specs.ComparisonFindings.{message_findings}
use Rattle.lint_findings.specs.DuplicateIds.{id_of}
use Rattle.lint_findings.specs.Files.{File}
use Rattle.lint_findings.specs.Finding.{Finding}
use Rattle.lint_findings.specs.Nodes.{Node, expression, select, repeated_key, elements_nodes}
use Rattle.fluent_lint.specs.Pairs.{own_ids}
use Rattle.fluent_lint.specs.Reading.{bare_tree}

abbrev pub has_message : Ids (Unit {0}) → Text → Bool
has_message ids id = is_some (message_in (find ids id))

-- ---- which messages refer to one that these ids don't have

module _ (own : Ids (Unit {0})) where
  abbrev pub inline_leads_out : t.Inline → Bool
  inline_leads_out (t.message_reference id a) = not (has_message own id)
  inline_leads_out (t.string_literal x) = false
  inline_leads_out (t.number_literal x) = false
  inline_leads_out (t.function_reference id a) = false
  inline_leads_out (t.term_reference id a c) = false
  inline_leads_out (t.variable_reference x) = false
  inline_leads_out (t.nested e) = false

  abbrev pub leads_out : Node → Bool
  leads_out (expression i) = inline_leads_out i
  leads_out (select i vs) = false
  leads_out (repeated_key k) = false

  abbrev pub pattern_refers_out : t.Elements → Bool
  pattern_refers_out es = list_any leads_out (elements_nodes es)

  abbrev pub value_refers_out : Option t.Elements → Bool
  value_refers_out value = option_map_or pattern_refers_out value false

  abbrev pub attributes_refer_out : List t.Attribute → Bool
  attributes_refer_out as' = list_any (λ (a : t.Attribute). pattern_refers_out a.value) as'

  abbrev pub refers_out : t.Entry → Bool
  refers_out (t.message m) = value_refers_out m.value || attributes_refer_out m.attributes
  refers_out (t.term m) = false
  refers_out (t.comment c) = false
  refers_out (t.group_comment c) = false
  refers_out (t.resource_comment c) = false
  refers_out (t.junk s) = false

  abbrev pub any_refers_out : List t.Entry → Bool
  any_refers_out es = list_any refers_out es

-- ---- what a file is shown with

-- the messages and terms of all files of a catalog, by their ids
abbrev pub all_by_id : List File → List (Text × Meaning (Unit {0}))
all_by_id files = flat_map (λ (f : File). entries_by_id (bare_tree f.source)) files

-- Those of a file, and then those of all, if a message of the file refers to one of another file.
abbrev pub wide_ids : List File → File → Option (Ids (Unit {0}))
wide_ids files file =
    if any_refers_out (own_ids file.source) (bare_tree file.source) then Some (with_ids false (own_ids file.source) (all_by_id files)) else None

-- Otherwise its own: no other file is reached.
abbrev pub shown_ids : List File → File → Ids (Unit {0})
shown_ids files file = unwrap_or (wide_ids files file) (own_ids file.source)

-- ---- how messages differ

-- The files of a language, and those of its reference: references of messages may lead to any of them.
pub record Catalogs : Type 0 where
  pub mine : List File
  pub theirs : List File

-- whether a message is one of these ids, too
abbrev pub has_both : Ids (Unit {0}) → t.Entry → Bool
has_both original e = option_map_or (has_message original) (id_of e) false

abbrev pub either_ids : Bool → Ids (Unit {0}) → Ids (Unit {0}) → Ids (Unit {0})
either_ids true shown own = shown
either_ids false shown own = own

-- A message that both files have is shown with the variables of all that it refers to, in any file: by these ids, of both files. Any
-- other is compared by those of its file alone.
module _ (plurals : Option LanguagePlurals) (shown theirs own original : Ids (Unit {0})) (source : Text) where
  abbrev pub compared_by : Text → t.Entry → List Finding
  compared_by s e =
      let both = has_both original e in
      message_findings (either_ids both shown own) (either_ids both theirs original) plurals source e s

  abbrev pub compared : Part → List Finding
  compared (entry_part s e) = compared_by s e
  compared junk_part = []

-- the id of a part, if it has one
abbrev pub part_id : Part → Option Text
part_id (entry_part s e) = id_of e
part_id junk_part = None

-- whether it is the first of its id, after parts with these ids, and the ids after it
abbrev pub is_first : List Text → Part → Bool
is_first ids p = option_map_or (λ id. not (is_among id ids)) (part_id p) false

abbrev pub ids_with : List Text → Part → List Text
ids_with ids p = union ids (option_to_list (part_id p))

-- what is found of parts, of each that is the first of its id
module _ (of_part : Part → List Finding) where
  abbrev pub if_first : List Text → Part → List Finding
  if_first ids p = if is_first ids p then of_part p else []

  abbrev pub of_firsts : List Text → List Part → List Finding
  of_firsts ids [] = []
  of_firsts ids (p ∷ ps) = if_first ids p ++ of_firsts (ids_with ids p) ps

-- How the messages of a file differ from those of another. One whose id is taken in the file doesn't count.
abbrev pub differences : Option LanguagePlurals → List File → List File → File → File → List Finding
differences plurals mine theirs file original =
    of_firsts (compared plurals (shown_ids mine file) (shown_ids theirs original) (own_ids file.source) (own_ids original.source) file.source) []
    (parts file.source)
