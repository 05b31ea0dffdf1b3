use Rattle.std.proofs.Common.{◌≡◌, ◌∙◌, Option, None, Some, ap, codes, option_map, rules}
use Rattle.std.specs.Prelude.{option_and_then}
use Rattle.clap.specs.Words.{Text, found_of}
use Rattle.clap.proofs.WalkLemmas.{first_value-rows}
use Rattle.ftl_arguments.specs.CommandView.{table_format_view}
use Rattle.ftl_arguments.specs.Projects.{TableFormat, table_format_named}
use Rattle.ftl_arguments.proofs.projects.table_format_in.Goals as goal

pub returns-in_err-get_str : goal.returns-in_err-get_str
returns-in_err-get_str c =
    let none : ◌≡◌ {A = Option Text} None (option_map (λ s. s.now) c.get_str.result) = search rules in
    let nothing : ◌≡◌ {A = Option TableFormat} (option_map table_format_view c.from_residual.result) None = search rules in
    nothing ∙ ap (option_and_then table_format_named) (none ∙ (c.get_str.ensures ∙ first_value-rows (found_of c.args.found.now) (codes "format")))

pub returns : goal.returns
returns c =
    let some : ◌≡◌ {A = Option Text} (Some c.in_ok-get_str.field-0.now) (option_map (λ s. s.now) c.get_str.result) = search rules in
    c.table_format_named.ensures ∙ ap (option_and_then table_format_named) (some ∙ (c.get_str.ensures ∙ first_value-rows (found_of c.args.found.now) (codes "format")))
