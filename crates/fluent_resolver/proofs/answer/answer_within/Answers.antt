use Rattle.std.proofs.Common.{◌∙◌, List, ℕ, Bor, sym}
use Rattle.fluent_ast.specs.View.{pattern_view}
use Rattle.fluent_progress.specs.Views.{resolved_in, start_of}
use Rattle.fluent_resolver.specs.Steps.{answer}
use Rattle.fluent_resolver.proofs.Asking.{lone-errors, lone-value, tells-none}
use Rattle.fluent_resolver.proofs.answer.answer_within.Goals as goal

pub returns-in_ok-transform-in-Some-clause-text : goal.returns-in_ok-transform-in-Some-clause-text
returns-in_ok-transform-in-Some-clause-text g c =
    let env = resolved_in c.args.place.now in
    let here = start_of c.args.place.now in
    let es = pattern_view (Bor (List ℕ)) (λ s. s.now) c.args.pattern.now in
    c.in_ok-transform-in-Some.ensures.text ∙ sym (lone-value env here 100 es c.in-Some.text.now (sym c.in-Some.ensures))

pub returns-in_ok-transform-in-Some-clause-told : goal.returns-in_ok-transform-in-Some-clause-told
returns-in_ok-transform-in-Some-clause-told g c =
    let env = resolved_in c.args.place.now in
    let here = start_of c.args.place.now in
    let es = pattern_view (Bor (List ℕ)) (λ s. s.now) c.args.pattern.now in
    tells-none c.args.errors.now (answer c.args.place.now c.args.pattern.now) (lone-errors env here 100 es c.in-Some.text.now (sym c.in-Some.ensures))
