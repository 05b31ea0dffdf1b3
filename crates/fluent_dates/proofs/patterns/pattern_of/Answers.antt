use Rattle.std.proofs.Common.{◌≡◌, ◌∙◌, ◌||◌, IfOk, ap, false, if◌then◌else◌, subst, sym}
use Rattle.std.specs.Prelude.{is_some}
use Rattle.fluent_dates.specs.Patterns.{component_pattern, pattern_for, pattern_of, style_pattern}
use Rattle.fluent_dates.proofs.patterns.pattern_of.Goals as goal

pub returns-else-has_style : goal.returns-else-has_style
returns-else-has_style c =
    let row = c.args.row.now in
    let options = c.of_value-options.result in
    let none : (is_some options.date_style || is_some options.time_style) ≡ false = sym c.has_style.ensures ∙ c.if-has_style.false in
    let same : component_pattern row options ≡ pattern_of row c.args.value.now =
    sym (ap (λ b. if b then style_pattern row options else component_pattern row options) none) ∙ ap (pattern_for row) c.of_value-options.ensures in
    subst (λ pattern. IfOk c.component_pattern.result (λ out. out.items ≡ pattern)) same c.component_pattern.ensures
