-- A file of a language, and the file of the reference that it is translated from.
use Rattle.std.specs.Prelude.{ℕ, ◌||◌, ◌&&◌, Bool, false, not, if◌then◌else◌, List, [], ◌∷◌, ◌++◌, count_by, filter, Option, Some, None, is_some, unwrap_or}
use Rattle.std.specs.List.{flat_map, list_any}
use Rattle.std.specs.Str.{bytes_eq}
use Rattle.fluent_grammar.specs.Tree as t
use Rattle.fluent_grammar.specs.Words.{Text}
use Rattle.fluent_meaning.specs.Ids.{Ids, entries_by_id, with_ids}
use Rattle.lint_entries.specs.Kept.{Part, entry_part, parts}
use Rattle.lint_files.specs.PartFindings.{findings_of_file, offset_in}
use Rattle.lint_findings.specs.Comparison.{missing_message, union}
use Rattle.lint_findings.specs.ComparisonFindings.{difference_words}
use Rattle.lint_findings.specs.Files.{File}
use Rattle.lint_findings.specs.Finding.{Finding, finding_at}
use Rattle.lint_findings.specs.Findings.{Rules}
use Rattle.fluent_lint.specs.InOrder.{in_order}
use Rattle.fluent_lint.specs.Reading.{bare_tree}
use Rattle.fluent_lint.specs.Totals.{is_taken}

-- ---- the messages of a file

-- a message, with its offset in the file
abbrev pub message_place : File → Part → List (Text × ℕ)
message_place file (entry_part s (t.message m)) = (m.id, offset_in file s) ∷ []
message_place file _ = []

abbrev pub places_of_parts : File → List Part → List (Text × ℕ)
places_of_parts file ps = flat_map (message_place file) ps

abbrev pub message_places : File → List (Text × ℕ)
message_places file = places_of_parts file (parts file.source)

-- the offset of the first message of an id
abbrev pub first_place : Text → List (Text × ℕ) → Option ℕ
first_place id [] = None
first_place id (p ∷ ps) = if bytes_eq p.0 id then Some p.1 else first_place id ps

-- the id of a message
abbrev pub id_of_part : Part → List Text
id_of_part (entry_part s (t.message m)) = m.id ∷ []
id_of_part _ = []

abbrev pub ids_of_parts : List Part → List Text
ids_of_parts ps = flat_map id_of_part ps

-- the ids of the messages, each once
abbrev pub message_ids : File → List Text
message_ids file = union [] (ids_of_parts (parts file.source))

-- ---- which of them are translated

abbrev pub is_translated : File → Text → Bool
is_translated file id = is_some (first_place id (message_places file))

abbrev pub translated_count : File → File → ℕ
translated_count file original = count_by (is_translated file) (message_ids original)

-- of an id, if there is no place of it: at this offset
abbrev pub gap_at : ℕ → Text → Option ℕ → List Finding
gap_at at id None = finding_at at id (difference_words missing_message) ∷ []
gap_at at id (Some place) = []

-- The finding of each of these ids that has no place among these: at the place of the one before it that has one, or
-- else at this offset.
abbrev pub gaps_from : List (Text × ℕ) → ℕ → List Text → List Finding
gaps_from places at [] = []
gaps_from places at (id ∷ ids) =
    let place = first_place id places in
    gap_at at id place ++ gaps_from places (unwrap_or place at) ids

-- the messages of a file that its translation lacks
abbrev pub gaps : File → File → List Finding
gaps file original = gaps_from (message_places file) 0 (message_ids original)

-- ---- what the other file has as well

-- both are of an entry, and of the same
abbrev pub same_entry : Option Text → Option Text → Bool
same_entry (Some one) (Some other) = bytes_eq one other
same_entry _ _ = false

-- They say the same of an entry of the same name. That an id is taken is said with a place, which makes no difference.
abbrev pub are_alike : Finding → Finding → Bool
are_alike f g = bytes_eq f.code g.code && (same_entry f.entry g.entry && (is_taken f || bytes_eq f.text g.text))

abbrev pub is_known : List Finding → Finding → Bool
is_known known f = list_any (are_alike f) known

-- those that are like none of these
abbrev pub new_among : List Finding → List Finding → List Finding
new_among known fs = filter (λ f. not (is_known known f)) fs

-- ---- what is found

-- the messages and terms of a source alone, by their ids
abbrev pub own_ids : Text → Ids (Unit {0})
own_ids source = with_ids false [] (entries_by_id (bare_tree source))

abbrev pub by_place : List Finding → List Finding
by_place fs = in_order (λ (f : Finding). f.offset) fs

-- of a file by these rules, as if no other declared anything
abbrev pub found_in_file : Rules → File → List Finding
found_in_file rules file = findings_of_file rules [] file
