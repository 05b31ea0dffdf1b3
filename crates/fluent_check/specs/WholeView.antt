-- The plain data that sources which were read whole stand for.
use Rattle.std.specs.Prelude.{List, map}
use Rattle.fluent_check.specs.ReportView.{errors_view}
use Rattle.fluent_check.specs.declared.whole.ReadSources.{ReadSources}
use Rattle.fluent_grammar.specs.Tree as t
use Rattle.fluent_ids.specs.ResourceEntries.{entries_in}
use Rattle.fluent_parsed.specs.ErrorView.{ErrorView}

-- the entries of each source
abbrev pub trees_in : ReadSources → List (List t.Entry)
trees_in whole = map entries_in whole.trees.items

-- the errors of each source
abbrev pub errors_in : ReadSources → List (List ErrorView)
errors_in whole = map errors_view whole.errors.items
