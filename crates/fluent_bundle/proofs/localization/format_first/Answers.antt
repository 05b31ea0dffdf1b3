use Rattle.std.proofs.Common.{◌∙◌, Some, ap, arith, subst, sym}
use Rattle.std.proofs.lemmas.Result.{MatchResult-from_err}
use Rattle.std.specs.Option.{option_copied, option_map}
use Rattle.fluent_ast.specs.Borrowed.{elements_found}
use Rattle.fluent_resolver.specs.Asked.{TellsAll, TellsFirst}
use Rattle.fluent_bundle.proofs.FirstThere.{answers_here, answers_later}
use Rattle.fluent_bundle.specs.BundleView.{handout}
use Rattle.fluent_bundle.specs.Localization.{TellsIts, TellsItsFirst, text_in}
use Rattle.fluent_bundle.proofs.localization.format_first.Goals as goal

pub returns-in_err-text : goal.returns-in_err-text
returns-in_err-text g c =
    let t = g.T.TextTransform.transformed in
    let bundle = c.index-bundles-position.result in
    let here = answers_here t c.args.args (option_copied c.args.name) c.args.id.now c.args.bundles.now c.loop-position.position bundle c.index-bundles-position.is (omega arith) in
    let first = sym (here c.in-Some.pattern.now (sym c.pattern_in.ensures ∙ ap elements_found c.in-Some.is)) ∙ c.loop-position.invariant.answer in
    let told = subst (λ old. TellsFirst old c.format_pattern.new.errors (handout t bundle c.args.args c.in-Some.pattern.now)) c.loop-position.invariant.errors c.in_err-text.ensures.refused in
    MatchResult-from_err c.from_residual.result _ _ c.from_residual.ensures.0
    (λ _. subst (TellsItsFirst c.args.errors.now c.format_pattern.new.errors) first told)

pub returns-in-Some : goal.returns-in-Some
returns-in-Some g c =
    let t = g.T.TextTransform.transformed in
    let bundle = c.index-bundles-position.result in
    let here = answers_here t c.args.args (option_copied c.args.name) c.args.id.now c.args.bundles.now c.loop-position.position bundle c.index-bundles-position.is (omega arith) in
    let first = sym (here c.in-Some.pattern.now (sym c.pattern_in.ensures ∙ ap elements_found c.in-Some.is)) ∙ c.loop-position.invariant.answer in
    let told = subst (λ old. TellsAll old c.format_pattern.new.errors (handout t bundle c.args.args c.in-Some.pattern.now)) c.loop-position.invariant.errors c.in_ok-text.ensures.told in
    (ap (λ text. Some (c.loop-position.position, text)) c.in_ok-text.ensures.text ∙ ap (option_map text_in) first, subst (TellsIts c.args.errors.now c.format_pattern.new.errors) first told)

pub loop-position-preserved : goal.loop-position-preserved
loop-position-preserved g c =
    let later = answers_later g.T.TextTransform.transformed c.args.args (option_copied c.args.name) c.args.id.now c.args.bundles.now c.loop-position.position c.index-bundles-position.result c.index-bundles-position.is (omega arith) in
    record {
      answer = sym (later (sym c.pattern_in.ensures ∙ ap elements_found c.in_default.is)) ∙ c.loop-position.invariant.answer;
      errors = c.loop-position.invariant.errors;
    }
