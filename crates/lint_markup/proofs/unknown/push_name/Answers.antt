use Rattle.std.proofs.Common.{◌≡◌, ◌∙◌, [], ◌∷◌, Some, None, option_map, sym, ap}
use Rattle.std.proofs.lemmas.Result.{on_ok_weaker}
use Rattle.lint_findings.specs.Comparison.{union}
use Rattle.lint_findings.specs.Tags as t
use Rattle.lint_markup.specs.InCode.{tag_view}
use Rattle.lint_markup.proofs.UnknownTags.{name_added, nameless}
use Rattle.lint_markup.proofs.unknown.push_name.Goals as goal

pub returns-in_default : goal.returns-in_default
returns-in_default c = λ ts xs has.
    let tag = tag_view c.args.tag.now in
    let none : t.tag_name tag ≡ None = sym c.tag_name.ensures ∙ ap (option_map (λ s. s.now)) c.in_default.is in
    (xs, has, nameless c.args.known.now c.args.seen.now xs tag ts c.args.found.now.items none)

pub returns : goal.returns
returns c =
    let tag = tag_view c.args.tag.now in
    let n = c.in-Some.name.now in
    let some : t.tag_name tag ≡ Some n = sym c.tag_name.ensures ∙ ap (option_map (λ s. s.now)) c.in-Some.is in
    on_ok_weaker c.add.result
    (λ gets. λ ts xs has. (
      union xs (n ∷ []),
      gets xs has,
      name_added c.args.known.now c.args.seen.now xs tag ts n c.args.found.now.items c.push_if_unknown.new.found.items c.requires.known has some c.in_ok-push_if_unknown.ensures,
    )) c.add.ensures
