-- What was read of files.
use Rattle.std.specs.Prelude.{◌≡◌, List, Vec, map}
use Rattle.std.specs.Global.{Global}
use Rattle.fluent_ast.specs.Borrowed.{entries_of}
use Rattle.lint_entries.specs.AttributePlaces.{uncommented}
use Rattle.lint_findings.specs.declared.records.File.{File}
use Rattle.fluent_grammar.specs.Tiling.{errors, tree}
use Rattle.fluent_grammar.specs.Tree as t
use Rattle.fluent_grammar.specs.Words.{Text}
use Rattle.fluent_lint.specs.declared.read.ReadFiles.{ReadFiles}
use Rattle.fluent_parsed.specs.ErrorView.{ErrorView, error_told, error_view}
use Rattle.fluent_parsed.specs.declared.errors.ParserError.{ParserError}

abbrev pub sources_of : List File → List Text
sources_of files = map (λ (file : File). file.source.now) files

-- the tree of a source, without the comments above messages and terms
abbrev pub bare_tree : Text → List t.Entry
bare_tree source = map uncommented (tree source)

abbrev pub errors_view : Vec ParserError Global → List ErrorView
errors_view es = map error_view es.items

-- what the errors of a source say
abbrev pub errors_told : Text → List ErrorView
errors_told source = map error_told (errors source)

-- the entries of each file
abbrev pub trees_in : ReadFiles → List (List t.Entry)
trees_in read = map entries_of read.trees.items

-- the errors of each file
abbrev pub errors_in : ReadFiles → List (List ErrorView)
errors_in read = map errors_view read.errors.items

-- what was read is that of the files
pub record IsRead (read : ReadFiles) : Type 0 where
  pub trees : trees_in read ≡ map bare_tree (sources_of read.files.now)
  pub errors : errors_in read ≡ map errors_told (sources_of read.files.now)
