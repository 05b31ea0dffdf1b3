-- The findings of the messages, the terms and the junk of a source.
use Rattle.std.specs.Prelude.{ℕ, ◌-◌, List, [], ◌∷◌, ◌++◌, length}
use Rattle.fluent_grammar.specs.Tree as t
use Rattle.fluent_grammar.specs.Words.{Text}
use Rattle.lint_findings.specs.DuplicateIds.{Declaration, declarations, id_of}
use Rattle.lint_findings.specs.Files.{File}
use Rattle.lint_findings.specs.Finding.{Finding}
use Rattle.lint_findings.specs.Findings.{FileFinding, Rules, findings_in, findings_of_entry}
use Rattle.lint_findings.specs.SyntaxFindings.{syntax_findings}
use Rattle.lint_findings.specs.Tiles.{tiles}
use Rattle.lint_entries.specs.Kept.{Part, entry_part, junk_part, parts}

-- the offset of the part of a file from which this is left
abbrev pub offset_in : File → Text → ℕ
offset_in file s = length file.source - length s

abbrev pub declared_by : File → Part → List Declaration
declared_by file (entry_part s e) = declarations file e (offset_in file s) (id_of e)
declared_by file junk_part = []

abbrev pub declared_by_parts : File → List Part → List Declaration
declared_by_parts file [] = []
declared_by_parts file (p ∷ ps) = declared_by file p ++ declared_by_parts file ps

module _ (rules : Rules) (file : File) where
  abbrev pub entry_findings_at : List Declaration → Text → t.Entry → List Finding
  entry_findings_at before s e = findings_of_entry rules before file.source e (offset_in file s) s (id_of e)

  -- after these declarations, if these are the findings of the junk
  abbrev pub findings_of_parts : List Declaration → List Finding → List Part → List Finding
  findings_of_parts before syntax [] = []
  findings_of_parts before syntax (entry_part s e ∷ ps) =
      entry_findings_at before s e ++ findings_of_parts (before ++ declared_by file (entry_part s e)) syntax ps
  findings_of_parts before [] (junk_part ∷ ps) = findings_of_parts before [] ps
  findings_of_parts before (f ∷ fs) (junk_part ∷ ps) = f ∷ findings_of_parts before fs ps

-- ---- of files

abbrev pub declared_in : File → List Declaration
declared_in file = declared_by_parts file (parts file.source)

module _ (rules : Rules) where
  -- of a file, after these declarations
  abbrev pub findings_of_file : List Declaration → File → List Finding
  findings_of_file before file = findings_of_parts rules file before (syntax_findings (tiles file.source)) (parts file.source)

  -- of files, one after the other
  abbrev pub findings_of_files : List Declaration → List File → List FileFinding
  findings_of_files before [] = []
  findings_of_files before (file ∷ files) =
      findings_in file (findings_of_file before file) ++ findings_of_files (before ++ declared_in file) files
