-- What is known of a catalog and its reference.
use Rattle.std.specs.Prelude.{◌≡◌, List, [], ◌∷◌, Option}
use denote.Ref.{Bor}
use Rattle.fluent_grammar.specs.Tree as t
use Rattle.fluent_grammar.specs.Words.{Text}
use Rattle.fluent_meaning.specs.Ids.{Ids}
use Rattle.fluent_ids.specs.IdsView.{ids_view}
use Rattle.fluent_ids.specs.declared.ids.FluentIds.{FluentIds}
use Rattle.fluent_lint.specs.FileTiles.{files_view}
use Rattle.fluent_lint.specs.Reports.{options_view}
use Rattle.fluent_lint.specs.declared.known.Known.{Known}
use Rattle.fluent_lint.specs.declared.reports.Options.{Options}
use Rattle.fluent_plurals.specs.declared.plurals.LanguagePlurals.{LanguagePlurals}
use Rattle.fluent_resource.specs.Sources.{texts}
use Rattle.lint_entries.specs.Terms.{is_referred}
use Rattle.lint_entries.specs.declared.terms.ReferredTerms.{ReferredTerms}
use Rattle.lint_findings.specs.declared.records.File.{File}
use Rattle.lint_findings.specs.ComparisonFindings.{message_findings}
use Rattle.lint_findings.specs.Finding.{Finding}
use Rattle.lint_findings.specs.UnusedTerms.{is_referred_in}
use Rattle.lint_findings.specs.Findings.{called_functions, known_ids, sources}

-- these are the functions that the files of a reference call
abbrev pub AreCalledBy : List File → List (Bor Text) → Type 0
AreCalledBy references called = texts called ≡ called_functions (sources (files_view references))

-- these are the terms that the files of a catalog refer to
abbrev pub AreTermsIn : List File → ReferredTerms → Type 0
AreTermsIn files terms = (id : Text) → is_referred terms id ≡ is_referred_in (sources (files_view files)) id

-- these are the ids of some files, with the functions that are known
abbrev pub AreKnownIds : Options → List File → List File → FluentIds (Unit {0}) → Type 0
AreKnownIds o references files ids = ids_view (Unit {0}) ids ≡ known_ids (options_view o) (files_view references) (files_view files)

-- what is known of the files of a catalog and of its reference
pub record IsKnownOf (o : Options) (references files : List File) (known : Known) : Type 0 where
  pub functions : AreKnownIds o references [] known.functions
  pub ids : AreKnownIds o references files known.ids
  pub reference : AreKnownIds o references references known.reference

-- what is found of entries by ids of a catalog and of its reference, if that has files
abbrev pub compare_by : Ids (Unit {0}) → Ids (Unit {0}) → Option LanguagePlurals → List File → Text → t.Entry → Text → List Finding
compare_by ids reference plurals [] = λ source e s. []
compare_by ids reference plurals (file ∷ files) = message_findings ids reference plurals

abbrev pub compared : Known → Option LanguagePlurals → List File → Text → t.Entry → Text → List Finding
compared known plurals references = compare_by (ids_view (Unit {0}) known.ids) (ids_view (Unit {0}) known.reference) plurals references
