use Rattle.std.proofs.Common.{◌≡◌, ◌∙◌, ◌∷◌, ◌++◌, [], codes, Option, option_map, string_bytes, sym, ap, append_assoc}
use Rattle.fluent_grammar.specs.Words.{Text}
use Rattle.lint_findings.specs.Finding.{Remark, remark, warning}
use Rattle.lint_findings.specs.MissingCategories.{is_category_name}
use Rattle.lint_findings.specs.NearNames.{nearest_hint}
use Rattle.lint_flaws.proofs.plural_keys.near_remark.Goals as goal

pub returns : goal.returns
returns c =
    let words = λ (t : Text). remark warning (codes "unknown-category") t in
    let hint : Option Text = nearest_hint [] is_category_name c.args.word.now in
    c.with_hint.ensures
    ∙ ap (λ (r : Remark). record r { hint = option_map string_bytes c.in_ok-hint.hint }) c.warning.ensures
    ∙ ap (λ (h : Option Text). record (words (string_bytes c.in_ok-text.text)) { hint = h }) c.in_ok-hint.ensures
    ∙ ap (λ (t : Text). record (words t) { hint = hint }) c.in_ok-text.ensures.ok
    ∙ ap (λ (t : Text). record (words (96 ∷ t)) { hint = hint }) (sym (append_assoc c.args.word.now (96 ∷ []) (codes " is no plural category")))
