-- Entries go into a map of ids one after the other.
use Rattle.std.specs.Prelude.{◌≡◌, Bool, true, false, List, ◌++◌, reverse}
use Rattle.std.specs.Map.{keys_of}
use Rattle.fluent_grammar.specs.Words.{Text}
use Rattle.fluent_value.specs.Args.{IsAscending}
use Rattle.fluent_meaning.specs.Ids.{Ids, Meaning, find, with_ids, notices}

-- pairs in turn are put in as all of them at once
abbrev pub IdsInTurn : Type 0 → Type 0
IdsInTurn F = (overriding : Bool) (ids : Ids F) (pairs more : List (Text × Meaning F)) → with_ids overriding ids (pairs ++ more) ≡ with_ids overriding (with_ids overriding ids pairs) more

-- and have the notices of both, in their order
abbrev pub NoticesInTurn : Type 0 → Type 0
NoticesInTurn F = (ids : Ids F) (pairs more : List (Text × Meaning F)) → notices ids (pairs ++ more) ≡ notices ids pairs ++ notices (with_ids false ids pairs) more

-- an id stands for the first that was put in under it: what was there counts before the pairs, and an earlier pair before a later one
abbrev pub FirstStays : Type 0 → Type 0
FirstStays F = (ids : Ids F) (pairs : List (Text × Meaning F)) (id : Text) → find (with_ids false ids pairs) id ≡ find (ids ++ pairs) id

-- or, if later ones override, for the last
abbrev pub LastStays : Type 0 → Type 0
LastStays F = (ids : Ids F) (pairs : List (Text × Meaning F)) (id : Text) → find (with_ids true ids pairs) id ≡ find (reverse pairs ++ ids) id

-- the ids stay in the order of their bytes, each once
abbrev pub IdsAscend : Type 0 → Type 0
IdsAscend F = (overriding : Bool) (ids : Ids F) (pairs : List (Text × Meaning F)) → IsAscending (keys_of ids) → IsAscending (keys_of (with_ids overriding ids pairs))
