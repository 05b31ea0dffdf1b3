use Rattle.std.proofs.Common.{◌∙◌, [], ◌∷◌, sym}
use Rattle.std.proofs.lemmas.Result.{on_ok_weaker}
use Rattle.lint_findings.specs.Comparison.{union}
use Rattle.lint_markup.specs.InCode.{tag_view}
use Rattle.lint_markup.proofs.UnknownTags.{element_added, element_skipped}
use Rattle.lint_markup.proofs.unknown.push_element.Goals as goal

pub returns-then-is_either : goal.returns-then-is_either
returns-then-is_either c = λ ts xs has.
    (xs, has, element_skipped c.args.known.now c.args.seen.now xs (tag_view c.args.tag.now) ts c.args.found.now.items c.requires.known has (sym c.is_either.ensures ∙ c.if-is_either.true))

pub returns : goal.returns
returns c =
    on_ok_weaker c.add.result
    (λ gets. λ ts xs has. (
      union xs (c.args.tag.now.element.now ∷ []),
      gets xs has,
      element_added c.args.known.now c.args.seen.now xs (tag_view c.args.tag.now) ts c.args.found.now.items c.push_new_element.new.found.items c.requires.known has (sym c.is_either.ensures ∙ c.if-is_either.false) c.in_ok-push_new_element.ensures,
    )) c.add.ensures
