-- The findings of a catalog, and of a catalog with a reference.
use Rattle.std.specs.Prelude.{ℕ, ◌==◌, Bool, false, not, if◌then◌else◌, List, [], ◌∷◌, ◌++◌, length, filter, map, Option, Some, None, codes}
use Rattle.std.specs.List.{flat_map}
use Rattle.std.specs.Option.{option_map_or}
use Rattle.std.specs.Str.{bytes_eq}
use Rattle.fluent_grammar.specs.Words.{Text}
use Rattle.fluent_grammar.specs.Tree as t
use Rattle.fluent_grammar.specs.Tree.{Inline}
use Rattle.fluent_tidy_laws.specs.Joined.{lists}
use Rattle.fluent_meaning.specs.Ids.{Ids, find}
use Rattle.fluent_plurals.specs.declared.plurals.LanguagePlurals.{LanguagePlurals}
use Rattle.lint_findings.specs.Tiles.{Tile, entry_tile, junk_tile, tiles}
use Rattle.lint_findings.specs.References.{elements_references}
use Rattle.lint_findings.specs.Flaws.{catalog_ids, entry_patterns}
use Rattle.lint_findings.specs.Finding.{Finding}
use Rattle.lint_findings.specs.SyntaxFindings.{syntax_finding}
use Rattle.lint_findings.specs.EntryFindings.{entry_findings}
use Rattle.lint_findings.specs.Comparison.{as_message, same_message}
use Rattle.lint_findings.specs.Files.{File}
use Rattle.lint_findings.specs.DuplicateIds.{Declaration, id_of, declarations, duplicate_findings}
use Rattle.lint_findings.specs.ComparisonFindings.{message_findings, missing_findings}
use Rattle.lint_findings.specs.Losses.{message_quotes}
use Rattle.lint_findings.specs.UnusedTerms.{is_referred_in, unused_findings}

-- What is known of the program and of the language: the functions that the program adds, and the plural rules, if
-- plurals are looked at.
pub record Options : Type 0 where
  pub functions : List Text
  pub plurals : Option LanguagePlurals

-- a finding with its file
pub record FileFinding : Type 0 where
  pub file : File
  pub finding : Finding

-- a tile with its file
pub record FileTile : Type 0 where
  pub file : File
  pub tile : Tile

abbrev pub findings_in : File → List Finding → List FileFinding
findings_in file fs = map (λ f. record { file = file; finding = f }) fs

abbrev pub tiles_in : File → List FileTile
tiles_in file = map (λ tile. record { file = file; tile = tile }) (tiles file.source)

abbrev pub sources : List File → List Text
sources files = map (λ (file : File). file.source) files

-- How findings of a catalog are made: the ids of functions, those of the catalog and those of its reference, the plural
-- rules, whether the catalog refers to the term of an id, and what else is found of an entry that counts, in a source
-- from the entry on.
pub record Rules : Type 0 where
  pub functions : Ids (Unit {0})
  pub ids : Ids (Unit {0})
  pub reference : Ids (Unit {0})
  pub plurals : Option LanguagePlurals
  pub is_referred : Text → Bool
  pub compare : Text → t.Entry → Text → List Finding

-- a message that is the same in the reference: it isn't translated yet
abbrev pub is_copy : Ids (Unit {0}) → t.Entry → Bool
is_copy reference (t.message m) = option_map_or (same_message m) (as_message (find reference m.id)) false
is_copy reference _ = false

-- the message of the reference has a placeable in quotes
abbrev pub is_quoted : Ids (Unit {0}) → t.Entry → Bool
is_quoted reference (t.message m) = option_map_or message_quotes (as_message (find reference m.id)) false
is_quoted reference _ = false

-- findings without those of placeables in quotes, if these are right
abbrev pub unless_quoted : Bool → List Finding → List Finding
unless_quoted quoted fs = if quoted then filter (λ f. not (bytes_eq f.code (codes "placeable-in-literal"))) fs else fs

module _ (rules : Rules) where
  -- The plural rules that an entry is looked at by: none for a copy, whose plural categories are those of the reference.
  abbrev pub plurals_for : t.Entry → Option LanguagePlurals
  plurals_for e = if is_copy rules.reference e then None else rules.plurals

  -- of the patterns of an entry
  abbrev pub own_findings : Text → t.Entry → Text → List Finding
  own_findings source e s =
      unless_quoted (is_quoted rules.reference e) (entry_findings rules.ids rules.reference (plurals_for e) source e s)

  -- of an entry that counts: whether it is a term that nothing refers to, and how it differs from the reference
  abbrev pub findings_if_first : Text → t.Entry → ℕ → Text → List Finding
  findings_if_first source e at s = unused_findings rules.is_referred e at ++ rules.compare source e s

  -- Of an entry with this id, after these declarations: first of the id, then of its patterns. An entry whose id is taken
  -- doesn't count.
  abbrev pub findings_of_entry : List Declaration → Text → t.Entry → ℕ → Text → Option Text → List Finding
  findings_of_entry before source e at s None = []
  findings_of_entry before source e at s (Some id) =
      let duplicates = duplicate_findings rules.functions before e at id in
      duplicates
      ++ (own_findings source e s
      ++ (if length duplicates == 0 then findings_if_first source e at s else []))

  abbrev pub findings_of_tile : List Declaration → File → Tile → List Finding
  findings_of_tile before file (junk_tile at s refusal) = syntax_finding at s refusal ∷ []
  findings_of_tile before file (entry_tile at s e) = findings_of_entry before file.source e at s (id_of e)

  abbrev pub declarations_of_tile : File → Tile → List Declaration
  declarations_of_tile file (junk_tile at s refusal) = []
  declarations_of_tile file (entry_tile at s e) = declarations file e at (id_of e)

  -- in the order of the tiles
  abbrev pub findings_of_tiles : List Declaration → List FileTile → List FileFinding
  findings_of_tiles before [] = []
  findings_of_tiles before (t ∷ ts) =
      findings_in t.file (findings_of_tile before t.file t.tile)
      ++ findings_of_tiles (before ++ declarations_of_tile t.file t.tile) ts

-- ---- a catalog by itself

abbrev pub catalog_rules : Options → List File → Rules
catalog_rules options files = record {
  functions = catalog_ids options.functions [];
  ids = catalog_ids options.functions (sources files);
  reference = catalog_ids options.functions [];
  plurals = options.plurals;
  is_referred = is_referred_in (sources files);
  compare = λ source e s. [];
}

-- The findings of files that are one catalog, in the order of the files and of their entries and junk.
abbrev pub findings : Options → List File → List FileFinding
findings options files = findings_of_tiles (catalog_rules options files) [] (flat_map tiles_in files)

-- ---- with a reference

abbrev pub called_function : Inline → List Text
called_function (t.function_reference id a) = id ∷ []
called_function _ = []

-- the functions that sources call
abbrev pub called_functions : List Text → List Text
called_functions texts = flat_map (λ p. flat_map called_function (elements_references p.1)) (flat_map entry_patterns (lists texts))

-- The functions that are known: those of the program, and those that the reference calls.
abbrev pub known_functions : Options → List File → List Text
known_functions options references = options.functions ++ called_functions (sources references)

-- the ids of files in a comparison
abbrev pub known_ids : Options → List File → List File → Ids (Unit {0})
known_ids options references files = catalog_ids (known_functions options references) (sources files)

abbrev pub translation_rules : Options → List File → List File → Rules
translation_rules options references files = record {
  functions = known_ids options references [];
  ids = known_ids options references files;
  reference = known_ids options references references;
  plurals = options.plurals;
  is_referred = is_referred_in (sources files);
  compare = message_findings (known_ids options references files) (known_ids options references references) options.plurals;
}

-- the messages that the reference has and the catalog hasn't, in the files of the reference
abbrev pub missing_messages : Options → List File → List File → List FileFinding
missing_messages options references files =
    let ids = known_ids options references files in
    flat_map (λ (t : FileTile). findings_in t.file (missing_findings ids t.file.source t.tile)) (flat_map tiles_in references)

-- The findings of a catalog with a reference. Missing messages come last.
abbrev pub findings_with_reference : Options → List File → List File → List FileFinding
findings_with_reference options references files =
    findings_of_tiles (translation_rules options references files) [] (flat_map tiles_in files)
    ++ missing_messages options references files
