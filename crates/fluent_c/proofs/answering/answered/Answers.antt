use Rattle.std.proofs.Common.{ap, ◌∙◌, sym, subst}
use Rattle.std.specs.Prelude.{List, IsSomeAnd, option_map}
use Rattle.fluent_grammar.specs.Words.{Text}
use Rattle.fluent_plurals.specs.declared.plurals.LanguagePlurals.{LanguagePlurals}
use Rattle.fluent_serve.specs.Texts.{texts}
use Rattle.fluent_run.specs.RunView.{settings_view}
use Rattle.fluent_c.specs.Answering.{answers_by, texts_of}
use Rattle.fluent_c.specs.Made.{Holds}
use Rattle.fluent_c.specs.Texts.{with_nul}
use Rattle.fluent_c.proofs.answering.answered.Goals as goal

pub returns-clause-answered : goal.returns-clause-answered
returns-clause-answered c =
    let answered : LanguagePlurals → List Text → Text = λ plurals sources. answers_by plurals (settings_view c.args.settings) sources c.args.requests.now in
    let same = ap texts c.deref.ensures.value ∙ c.in_ok-sources.ensures.read in
    let given = c.in_ok-answers.ensures ∙ ap (answered c.in-Some.plurals) same in
    let known = sym c.in-Some.is ∙ c.plurals_of.ensures in
    subst (λ found. IsSomeAnd (option_map (λ plurals. answered plurals (texts_of c.args.sources.now)) found) (Holds c.in_ok-of.field-0))
    known (c.in_ok-of.ensures.0, c.in_ok-of.ensures.1 ∙ ap with_nul given)
