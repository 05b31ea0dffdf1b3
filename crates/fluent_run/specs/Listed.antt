-- What was listed of entries, by the code's own values.
use Rattle.std.specs.Prelude.{◌≡◌, ◌++◌, ◌||◌, ◌&&◌, Bool, not, if◌then◌else◌, List, [], ◌∷◌, Option, option_map, option_to_list, string_bytes}
use Rattle.std.specs.HashSet.{contains_by}
use Rattle.std.specs.List.{list_any}
use Rattle.std.specs.Str.{bytes_eq}
use denote.Ref.{Bor}
use Rattle.fluent_ast.specs.View.{entry_view}
use Rattle.fluent_ast.specs.declared.Entry.{Entry}
use Rattle.fluent_grammar.specs.Words.{Text}
use Rattle.fluent_meaning.specs.Ids.{Meaning, entries_by_id, find}
use Rattle.fluent_ids.specs.declared.ids.FluentIds.{FluentIds}
use Rattle.fluent_serve.specs.Frames.{ended}
use Rattle.fluent_value.specs.declared.function.NoFunction.{NoFunction}
use Rattle.fluent_run.specs.DeskView.{plain_ids}
use Rattle.fluent_run.specs.Listing.{entry_ids, is_message, message_lines}
use Rattle.fluent_run.specs.declared.listing.Listing.{Listing}

-- the id of an entry, if it is a message or a term
abbrev pub IsIdOf : Entry (Bor Text) → Option (Bor Text) → Type 0
IsIdOf entry id = option_to_list (option_map (λ s. s.now) id) ≡ entry_ids {F = NoFunction} (entries_by_id (entry_view _ (λ s. s.now) entry ∷ []))

-- an id was seen
abbrev pub has_seen : Listing → Text → Bool
has_seen listing id = contains_by (λ seen. bytes_eq id seen.now) listing.seen

-- the line of an id that is new and stands for a message
abbrev pub line_if_new : {F : Type 0} → FluentIds F → Listing → Text → Text
line_if_new ids listing id = if not (has_seen listing id) && is_message (find (plain_ids ids)) id then ended id else []

-- that line was added
abbrev pub AddsLine : {F : Type 0} → FluentIds F → Text → Listing → Listing → Type 0
AddsLine ids id old new = string_bytes new.text ≡ string_bytes old.text ++ line_if_new ids old id

-- the ids that were seen are those of before, and this one
abbrev pub SeesOneMore : Text → Listing → Listing → Type 0
SeesOneMore id old new = (other : Text) → has_seen new other ≡ (bytes_eq id other || has_seen old other)

-- these entries were listed
pub record Lists {F : Type 0} (ids : FluentIds F) (entries : List (Text × Meaning F)) (listing : Listing) : Type 0 where
  pub text : string_bytes listing.text ≡ message_lines (find (plain_ids ids)) entries
  pub seen : (id : Text) → has_seen listing id ≡ list_any (bytes_eq id) (entry_ids entries)

-- these were, after whichever were before
abbrev pub ListsMore : {F : Type 0} → FluentIds F → List (Text × Meaning F) → Listing → Listing → Type 0
ListsMore {F} ids entries old new = (before : List (Text × Meaning F)) → Lists ids before old → Lists ids (before ++ entries) new
