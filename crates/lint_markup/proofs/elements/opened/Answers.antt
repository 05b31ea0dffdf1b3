use Rattle.std.proofs.Common.{◌≡◌, ◌∙◌, count_by, rules}
use Rattle.lint_findings.specs.Markup.{opens}
use Rattle.lint_markup.specs.InCode.{tag_view}
use Rattle.lint_markup.proofs.Listed.{tags_counted}
use Rattle.lint_markup.proofs.elements.opened.Goals as goal

pub returns : goal.returns
returns c =
    let counted : c.count.result ≡ count_by (λ tag. opens c.args.element.now (tag_view tag)) c.args.tags.now = search rules in
    counted ∙ tags_counted (opens c.args.element.now) c.args.tags.now
