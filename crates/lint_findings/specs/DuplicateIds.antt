-- Entries whose id is taken.
use Rattle.std.specs.Prelude.{ℕ, ◌||◌, if◌then◌else◌, List, [], ◌∷◌, ◌++◌, Option, Some, None, is_some, codes}
use Rattle.std.specs.Str.{bytes_eq}
use Rattle.fluent_grammar.specs.Words.{Text, hyphen}
use Rattle.fluent_grammar.specs.Tree as t
use Rattle.fluent_meaning.specs.Ids.{Ids, find}
use Rattle.lint_findings.specs.Files.{File, location}
use Rattle.lint_findings.specs.Finding.{error, Finding, Remark, remark, finding_at}

-- an id, with the file and the offset of its entry
pub record Declaration : Type 0 where
  pub file : File
  pub offset : ℕ
  pub id : Text

abbrev pub id_of : t.Entry → Option Text
id_of (t.message m) = Some m.id
id_of (t.term m) = Some m.id
id_of (t.comment c) = None
id_of (t.group_comment c) = None
id_of (t.resource_comment c) = None
id_of (t.junk s) = None

-- the id of an entry, a term's with its minus
abbrev pub label_of : t.Entry → Text
label_of (t.term m) = hyphen ∷ m.id
label_of (t.message m) = m.id
label_of _ = []

-- the declaration of an entry at this offset, if it has an id
abbrev pub declarations : File → t.Entry → ℕ → Option Text → List Declaration
declarations file e at None = []
declarations file e at (Some id) = record { file = file; offset = at; id = id } ∷ []

abbrev pub first_declaration : Text → List Declaration → Option Declaration
first_declaration id [] = None
first_declaration id (d ∷ ds) = if bytes_eq d.id id then Some d else first_declaration id ds

-- that a function of this id is there, or an entry at this place that has the same id
abbrev pub function_text : Text → Text
function_text id = codes "`" ++ (id ++ codes "` is a function, so this entry is never shown")

abbrev pub earlier_text : Text → Text
earlier_text place = codes "the entry at " ++ (place ++ codes " has the same id, so this one is never shown")

-- by the first declaration of the id; without one it is that of a function
abbrev pub duplicate_text : Text → Option Declaration → Text
duplicate_text id None = function_text id
duplicate_text id (Some d) = earlier_text (location d.file d.offset)

abbrev pub duplicate_remark : Text → Option Declaration → Remark
duplicate_remark id first = remark error (codes "duplicate-id") (duplicate_text id first)

-- The finding of an entry whose id an earlier one has, or one of these functions.
abbrev pub duplicate_findings : {F : Type 0} → Ids F → List Declaration → t.Entry → ℕ → Text → List Finding
duplicate_findings functions before e at id =
    if is_some (first_declaration id before) || is_some (find functions id)
    then finding_at at (label_of e) (duplicate_remark id (first_declaration id before)) ∷ []
    else []
