-- The text of what a check of sources found.
use Rattle.std.specs.Prelude.{ℕ, ◌+◌, List, [], ◌∷◌, ◌++◌, map, codes, decimal}
use Rattle.std.specs.List.{flat_map}
use Rattle.fluent_grammar.specs.Words.{Text}
use Rattle.fluent_parsed.specs.ErrorView.{ErrorView, error_view, kind_name}
use Rattle.fluent_parsed.specs.declared.errors.ParserError.{ParserError}
use Rattle.fluent_errors.specs.Errors.{Reported}
use Rattle.fluent_errors.specs.Texts.{bundle_text}
use Rattle.fluent_serve.specs.Frames.{ended}
use Rattle.fluent_value.specs.declared.function.NoFunction.{NoFunction}
use Rattle.fluent_answers.specs.Sources.{notices_of}
use Rattle.fluent_check.specs.ReportView.{errors_told}

-- an error of the source of this number
abbrev pub error_line : ℕ → ErrorView → Text
error_line number e = ended (codes "source " ++ (decimal number ++ (codes ": bytes " ++ (decimal e.pos.start
    ++ (codes ".." ++ (decimal e.pos.end ++ (codes ": " ++ kind_name e.kind)))))))

-- the errors that were found in the source of this number
abbrev pub error_lines : ℕ → List ParserError → Text
error_lines number errors = flat_map (error_line number) (map error_view errors)

-- the errors of sources, which are numbered from this number on
abbrev pub errors_text : ℕ → List (List ErrorView) → Text
errors_text number [] = []
errors_text number (errors ∷ rest) = flat_map (error_line number) errors ++ errors_text (number + 1) rest

-- an entry whose id was there
abbrev pub notice_line : Reported → Text
notice_line notice = ended (bundle_text notice)

abbrev pub notices_text : List Reported → Text
notices_text notices = flat_map notice_line notices

-- the errors of each source, and then the entries whose id was there, of which the first counts
abbrev pub report_text : List Text → Text
report_text sources = errors_text 1 (map errors_told sources) ++ notices_text (notices_of NoFunction sources)
