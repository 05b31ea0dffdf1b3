use Rattle.std.proofs.Common.{◌≡◌, string_bytes, ◌++◌, ap, ◌∙◌}
use Rattle.fluent_grammar.specs.Tiling.{errors, list}
use Rattle.fluent_tidy_laws.specs.Cut.{cut}
use Rattle.fluent_tidy_laws.proofs.Slices.{damage_is_local}
use Rattle.fluent_tidy.proofs.cleaning.clean.Goals as goal

pub returns-clause-no_errors : goal.returns-clause-no_errors
returns-clause-no_errors c =
    let is : string_bytes c.push_cut.new.text ≡ cut c.args.source.now = c.in_ok-push_cut.ensures.text ∙ ap (λ z. z ++ cut c.args.source.now) c.new-text.ensures.bytes in
    ap errors is ∙ (damage_is_local c.args.source.now).no_errors

pub returns-clause-same_list : goal.returns-clause-same_list
returns-clause-same_list c =
    let is : string_bytes c.push_cut.new.text ≡ cut c.args.source.now = c.in_ok-push_cut.ensures.text ∙ ap (λ z. z ++ cut c.args.source.now) c.new-text.ensures.bytes in
    ap list is ∙ (damage_is_local c.args.source.now).same_list
