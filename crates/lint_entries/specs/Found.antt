-- What is found in an entry.
use Rattle.std.specs.Prelude.{◌≡◌, map, Vec}
use Rattle.std.specs.Global.{Global}
use Rattle.fluent_grammar.specs.Words.{Text}
use Rattle.fluent_grammar.specs.Tree as t
use Rattle.lint_findings.specs.View.{finding_view}
use Rattle.lint_findings.specs.EntryFindings as e
use Rattle.lint_entries.specs.CatalogView.{ids_in, reference_in}
use Rattle.lint_entries.specs.declared.catalog.Catalog.{Catalog}
use Rattle.lint_findings.specs.declared.records.Finding.{Finding}

-- the findings of an entry of this source, at the front of a text
abbrev pub IsFoundIn : Catalog → Text → t.Entry → Text → Vec Finding Global → Type 0
IsFoundIn catalog source entry s found =
    map finding_view found.items ≡ e.entry_findings (ids_in catalog) (reference_in catalog) catalog.plurals source entry s
