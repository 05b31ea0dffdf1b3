use Rattle.std.proofs.Common.{◌≡◌, ◌∙◌, Option, None, Some, ap, codes, option_map, rules}
use Rattle.std.specs.Prelude.{option_and_then}
use Rattle.clap.specs.Words.{Text, found_of}
use Rattle.clap.proofs.WalkLemmas.{first_value-rows}
use Rattle.ftl_arguments.specs.Linting.{format_named}
use Rattle.lint_findings.specs.Output.{Format}
use Rattle.lint_report.specs.Formats.{format_view}
use Rattle.ftl_arguments.proofs.linting.format_in.Goals as goal

pub returns-in_err-get_str : goal.returns-in_err-get_str
returns-in_err-get_str c =
    let none : ◌≡◌ {A = Option Text} None (option_map (λ s. s.now) c.get_str.result) = search rules in
    let nothing : ◌≡◌ {A = Option Format} (option_map format_view c.from_residual.result) None = search rules in
    nothing ∙ ap (option_and_then format_named) (none ∙ (c.get_str.ensures ∙ first_value-rows (found_of c.args.found.now) (codes "format")))

pub returns : goal.returns
returns c =
    let some : ◌≡◌ {A = Option Text} (Some c.in_ok-get_str.field-0.now) (option_map (λ s. s.now) c.get_str.result) = search rules in
    c.format_named.ensures ∙ ap (option_and_then format_named) (some ∙ (c.get_str.ensures ∙ first_value-rows (found_of c.args.found.now) (codes "format")))
