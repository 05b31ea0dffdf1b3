-- Ids that several files of a language have.
use Rattle.std.specs.Prelude.{ℕ, Bool, true, not, ◌&&◌, if◌then◌else◌, List, [], ◌∷◌, ◌++◌, Option, Some, None, is_some}
use Rattle.fluent_grammar.specs.Tree as t
use Rattle.fluent_grammar.specs.Words.{Text, is_among}
use Rattle.fluent_ids.specs.Found.{message_in}
use Rattle.fluent_meaning.specs.Ids.{Ids, find}
use Rattle.lint_entries.specs.Kept.{Part, entry_part, junk_part, parts}
use Rattle.lint_files.specs.PartFindings.{offset_in}
use Rattle.lint_findings.specs.Comparison.{union}
use Rattle.lint_findings.specs.DuplicateIds.{Declaration, declarations, duplicate_findings, id_of}
use Rattle.lint_findings.specs.Files.{File}
use Rattle.lint_findings.specs.Finding.{Finding}

-- An entry is looked up in its file: a term is, and a message that the file has, too, from which this one is translated, if there is one.
abbrev pub has_id : Option (Ids (Unit {0})) → Text → Bool
has_id None id = true
has_id (Some original) id = is_some (message_in (find original id))

abbrev pub is_looked_up : Option (Ids (Unit {0})) → t.Entry → Bool
is_looked_up original (t.message m) = has_id original m.id
is_looked_up original (t.term m) = true
is_looked_up original (t.comment c) = true
is_looked_up original (t.group_comment c) = true
is_looked_up original (t.resource_comment c) = true
is_looked_up original (t.junk s) = true

-- what was met so far: the declarations that are looked up, and the ids of this file
pub record Met : Type 0 where
  pub before : List Declaration
  pub ids : List Text

module _ (original : Option (Ids (Unit {0}))) (file : File) where
  -- an entry of this id counts if it is the first of its id in the file and is looked up
  abbrev pub counts : List Text → t.Entry → Text → Bool
  counts ids e id = not (is_among id ids) && is_looked_up original e

  abbrev pub taken_at : Met → ℕ → t.Entry → Option Text → List Finding
  taken_at met at e None = []
  taken_at met at e (Some id) = if counts met.ids e id then duplicate_findings {F = Unit {0}} [] met.before e at id else []

  abbrev pub met_at : Met → ℕ → t.Entry → Option Text → Met
  met_at met at e None = met
  met_at met at e (Some id) = record {
    before = met.before ++ (if counts met.ids e id then declarations file e at (Some id) else []);
    ids = union met.ids (id ∷ []);
  }

  -- an entry whose id is taken, and what was met after it
  abbrev pub taken_by : Met → Part → List Finding
  taken_by met (entry_part s e) = taken_at met (offset_in file s) e (id_of e)
  taken_by met junk_part = []

  abbrev pub met_after : Met → Part → Met
  met_after met (entry_part s e) = met_at met (offset_in file s) e (id_of e)
  met_after met junk_part = met

  abbrev pub taken_from : Met → List Part → List Finding
  taken_from met [] = []
  taken_from met (p ∷ ps) = taken_by met p ++ taken_from (met_after met p) ps

  abbrev pub met_through : Met → List Part → Met
  met_through met [] = met
  met_through met (p ∷ ps) = met_through (met_after met p) ps

  abbrev pub met_before : List Declaration → Met
  met_before before = record { before = before; ids = [] }

  -- The findings of the entries whose ids earlier files have, and the declarations after the file.
  abbrev pub taken : List Declaration → List Finding
  taken before = taken_from (met_before before) (parts file.source)

  abbrev pub declared_with : List Declaration → List Declaration
  declared_with before = (met_through (met_before before) (parts file.source)).before
