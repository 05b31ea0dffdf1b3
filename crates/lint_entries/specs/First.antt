-- What the first declarations are to contracts.
use Rattle.std.specs.Prelude.{ℕ, ◌≡◌, ◌||◌, if◌then◌else◌, List, [], ◌∷◌, ◌++◌, map, Option, Some, None, is_some, option_map}
use Rattle.std.specs.Option.{option_to_list}
use Rattle.std.specs.HashMap.{get_by}
use Rattle.std.specs.Str.{bytes_eq}
use Rattle.fluent_grammar.specs.Words.{Text}
use Rattle.fluent_grammar.specs.Tree.{Entry}
use Rattle.fluent_meaning.specs.Ids.{Ids, find}
use Rattle.lint_findings.specs.View.{finding_view}
use Rattle.lint_findings.specs.declared.records.Finding as code
use Rattle.lint_findings.specs.Files.{location}
use Rattle.lint_findings.specs.Finding.{Finding}
use Rattle.lint_findings.specs.DuplicateIds as d
use Rattle.lint_findings.specs.DuplicateIds.{Declaration, first_declaration}
use Rattle.lint_entries.specs.declared.declarations.Declarations.{Declarations}
use Rattle.lint_entries.specs.declared.location.Location.{Location}
use Rattle.lint_entries.specs.LocationText.{location_text}

-- the location of a declaration, as text
abbrev pub declared_at : Declaration → Text
declared_at d = location d.file d.offset

-- the location of the first declaration of an id, as text, if it is known
abbrev pub first_location : Declarations → Text → Option Text
first_location known id = option_map location_text (get_by (λ k. bytes_eq id k.now) known.first)

-- These are the first declarations of each id, among those of a list.
abbrev pub AreFirst : Declarations → List Declaration → Type 0
AreFirst known before = (id : Text) → first_location known id ≡ option_map declared_at (first_declaration id before)

-- one more declaration comes after the others, with this id at this location
abbrev pub GetsDeclaration : Declarations → Text → Location → Declarations → Type 0
GetsDeclaration old id l new = (before : List Declaration) → AreFirst old before →
    (d : Declaration) → d.id ≡ id → declared_at d ≡ location_text l → AreFirst new (before ++ d ∷ [])

-- the same declarations
abbrev pub IsSame : Declarations → Declarations → Type 0
IsSame old new = (id : Text) → first_location new id ≡ first_location old id

-- what has an id already, in words, after these declarations
abbrev pub taken_text : Ids (Unit {0}) → List Declaration → Text → Option Text
taken_text functions before id =
    if is_some (first_declaration id before) || is_some (find functions id)
    then Some (d.duplicate_text id (first_declaration id before))
    else None

abbrev pub IsDuplicateAfter : Ids (Unit {0}) → Declarations → Text → Option Text → Type 0
IsDuplicateAfter functions known id text = (before : List Declaration) → AreFirst known before → text ≡ taken_text functions before id

-- the finding by the declarations that are known, if there is one
abbrev pub HasFindingAfter : Declarations → (List Declaration → List Finding) → Option code.Finding → Type 0
HasFindingAfter known findings found =
    (before : List Declaration) → AreFirst known before → map finding_view (option_to_list found) ≡ findings before

-- the finding of an entry with this id at an offset, after the declarations that are known, if there is one
abbrev pub HasDuplicateFinding : Declarations → Ids (Unit {0}) → Entry → ℕ → Text → Option code.Finding → Type 0
HasDuplicateFinding known functions e at id = HasFindingAfter known (λ before. d.duplicate_findings functions before e at id)
