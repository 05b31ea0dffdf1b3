use Rattle.std.proofs.Common.{◌≡◌, ◌∙◌, ◌++◌, ap, subst, sym}
use Rattle.fluent_project.specs.Patterns.{AreLongest}
use Rattle.fluent_project.specs.Taking.{taken}
use Rattle.fluent_project.specs.Views.{plain}
use Rattle.fluent_project.proofs.Taken.{none_unless_taken, taken_are_longest}
use Rattle.fluent_project.proofs.matching.texts_in.Goals as goal

pub returns-in_ok-push_texts-clause-longest : goal.returns-in_ok-push_texts-clause-longest
returns-in_ok-push_texts-clause-longest c =
    let all : plain c.push_texts.new.texts.items ≡ taken c.args.locale.now c.args.pattern.now c.args.path.now =
    c.in_ok-push_texts.ensures ∙ ap (λ items. plain items ++ taken c.args.locale.now c.args.pattern.now c.args.path.now) c.new-texts.ensures.items in
    subst (AreLongest c.args.locale.now c.args.pattern.now c.args.path.now) (sym all)
    (taken_are_longest c.args.locale.now c.args.pattern.now c.args.path.now (sym c.takes.ensures ∙ c.if-takes.true))

pub returns-else-takes-clause-longest : goal.returns-else-takes-clause-longest
returns-else-takes-clause-longest c = none_unless_taken c.args.locale.now c.args.pattern.now c.args.path.now (sym c.takes.ensures ∙ c.if-takes.false)
