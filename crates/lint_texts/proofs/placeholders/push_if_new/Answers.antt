use Rattle.std.proofs.Common.{◌≡◌, ◌∙◌, ◌++◌, ◌∷◌, map, sym, ap, subst}
use Rattle.std.proofs.lemmas.Result.{on_ok_weaker}
use Rattle.lint_nodes.specs.HasNames.{HasNames}
use Rattle.lint_findings.specs.Placeholders as p
use Rattle.lint_markup.specs.InCode.{said, spotted_views, texts_in}
use Rattle.lint_texts.specs.Beside.{new_at}
use Rattle.lint_texts.specs.InCode.{placeholder_view}
use Rattle.lint_texts.proofs.Named.{first_said}
use Rattle.lint_texts.proofs.PlaceholderSteps.{one_new, one_old}
use Rattle.lint_texts.proofs.placeholders.push_if_new.Goals as goal

pub returns-then-is_passed : goal.returns-then-is_passed
returns-then-is_passed c =
    let x = placeholder_view c.args.placeholder.now in
    let known = texts_in c.args.known.now in
    let old = spotted_views c.args.found.now.items in
    let h = sym c.is_passed.ensures ∙ c.if-is_passed.true in
    (c.requires, λ ps. ap (λ z. old ++ map said z) (sym (one_old c.args.all known x ps h)))

pub returns : goal.returns
returns c =
    let x = placeholder_view c.args.placeholder.now in
    let known = texts_in c.args.known.now in
    let h = sym c.is_passed.ensures ∙ c.if-is_passed.false in
    let new = c.add.new.self in
    on_ok_weaker c.add.result (λ gets.
    let has = gets known c.requires in (
      subst (HasNames new) (sym has.listed) has,
      λ ps.
          let rest = p.new_placeholders c.args.all (texts_in new) ps in
          let all : p.new_placeholders c.args.all known (x ∷ ps) ≡ new_at c.args.placeholder.now ++ rest =
          one_new c.args.all known x ps h ∙ ap (λ z. new_at c.args.placeholder.now ++ p.new_placeholders c.args.all z ps) (sym has.listed) in
          first_said (new_at c.args.placeholder.now) rest (p.new_placeholders c.args.all known (x ∷ ps)) c.args.found.now.items c.push_at.new.found.items all c.in_ok-push_at.ensures,
    ))
    c.add.ensures
