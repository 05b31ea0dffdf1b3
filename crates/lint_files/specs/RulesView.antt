-- What the code's rules stand for.
use Rattle.std.specs.Prelude.{List, [], Option, Some, None}
use Rattle.fluent_grammar.specs.Tree as t
use Rattle.fluent_grammar.specs.Words.{Text}
use Rattle.fluent_ids.specs.IdsView.{ids_view}
use Rattle.lint_comparison.specs.ComparedBy.{compared_by}
use Rattle.lint_comparison.specs.declared.reference.Reference.{Reference}
use Rattle.lint_entries.specs.CatalogView.{ids_in, reference_in}
use Rattle.lint_entries.specs.Terms.{is_referred}
use Rattle.lint_files.specs.declared.rules.Rules.{Rules}
use Rattle.lint_findings.specs.Finding.{Finding}
use Rattle.lint_findings.specs.Findings as f

-- what is found of an entry by a reference, if there is one
abbrev pub compare_with : Option Reference → Text → t.Entry → Text → List Finding
compare_with None = λ source e s. []
compare_with (Some reference) = compared_by reference

abbrev pub rules_view : Rules → f.Rules
rules_view rules = record {
  functions = ids_view (Unit {0}) rules.functions.now;
  ids = ids_in rules.catalog;
  reference = reference_in rules.catalog;
  plurals = rules.catalog.plurals;
  is_referred = is_referred rules.terms.now;
  compare = compare_with rules.reference;
}
