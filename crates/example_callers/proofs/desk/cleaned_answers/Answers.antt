use Rattle.std.proofs.Common.{[], ◌∷◌, ap, ◌∙◌}
use Rattle.fluent_desk.specs.ForCallers.{answers_of, cut_one, no_text, settings_view}
use Rattle.example_callers.proofs.desk.cleaned_answers.Goals as goal

-- the cleaned source answers as the source does
pub returns : goal.returns
returns g c =
    let plurals = c.args.plurals.now in
    let m = g.M.MemoizerKind in
    c.in_ok-answers.ensures
    ∙ ap (λ text. answers_of m.category_of m.stringified plurals c.args.settings (text ∷ []) c.args.requests.now) (c.as_str.ensures.value ∙ c.in_ok-text.ensures.text)
    ∙ c.tidied_sources_keep_answers.ensures _ _ (cut_one [] [] c.args.source.now) (m.category_of plurals) (m.stringified plurals (Unit {0}) no_text) (settings_view c.args.settings) c.args.requests.now
