-- The plain data that a report stands for.
use Rattle.std.specs.Prelude.{◌≡◌, List, map}
use Rattle.std.specs.Global.{Vec}
use Rattle.fluent_answers.specs.Sources.{notices_of}
use Rattle.fluent_check.specs.declared.report.Report.{Report}
use Rattle.fluent_grammar.specs.Words.{Text}
use Rattle.fluent_grammar.specs.Tiling.{errors}
use Rattle.fluent_parsed.specs.ErrorView.{ErrorView, error_view, error_told}
use Rattle.fluent_parsed.specs.declared.errors.ParserError.{ParserError}
use Rattle.fluent_errors.specs.Errors.{Reported}
use Rattle.fluent_errors.specs.View.{bundle_view}
use Rattle.fluent_errors.specs.declared.bundle.FluentError.{FluentError}
use Rattle.fluent_value.specs.declared.function.NoFunction.{NoFunction}

-- errors that were found
abbrev pub errors_view : Vec ParserError → List ErrorView
errors_view found = map error_view found.items

-- those that a source has
abbrev pub errors_told : Text → List ErrorView
errors_told source = map error_told (errors source)

-- notices that came
abbrev pub notices_view : Vec FluentError → List Reported
notices_view told = map bundle_view told.items

-- a report has the errors of each source, and a notice for each entry whose id was there
pub record IsReportOn (sources : List Text) (report : Report) : Type 0 where
  pub errors : map errors_view report.errors.items ≡ map errors_told sources
  pub notices : notices_view report.notices ≡ notices_of NoFunction sources
