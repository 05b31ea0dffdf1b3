use Rattle.std.proofs.Common.{rules, ◌≡◌, ◌∷◌, ◌++◌, [], ap, ◌∙◌, string_bytes}
use Rattle.serde_json.specs.View.{view}
use Rattle.serde_json.specs.Written.{compact_text, has_float}
use Rattle.fluent_grammar.specs.Tiling.{tree}
use Rattle.fluent_tidy_laws.specs.Cut.{cut}
use Rattle.fluent_json.specs.Json.{json}
use Rattle.fluent_json.proofs.NoFloats.{has_no_float}
use Rattle.fluent_serve.specs.Text.{line_feed}
use Rattle.ftl_command.proofs.Refusals.{of_clean, of_files}
use Rattle.ftl_command.proofs.tidying.export_file.Goals as goal

pub returns-in-Ok-clause-text : goal.returns-in-Ok-clause-text
returns-in-Ok-clause-text g c =
    let source = string_bytes c.in_ok-source.source in
    let same : view c.in-Ok.value ≡ json (tree (cut source)) = c.in-Ok.ensures.value ∙ ap (λ z. json (tree (cut z))) c.as_str.ensures.value in
    record {
      source = source;
      held = c.in_ok-source.ensures.held;
      outcome = (search rules, c.in_ok-line_of-in-Ok.ensures (ap has_float same ∙ has_no_float (tree (cut source))) ∙ ap (λ v. compact_text v ++ line_feed ∷ []) same);
    }

pub returns-in_err-source-clause-fault : goal.returns-in_err-source-clause-fault
returns-in_err-source-clause-fault g c = search (rules, of_files)

pub returns-clause-fault : goal.returns-clause-fault
returns-clause-fault g c = search (rules, of_clean)
