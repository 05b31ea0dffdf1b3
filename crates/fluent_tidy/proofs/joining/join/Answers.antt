use Rattle.std.proofs.Common.{[], ◌∷◌, ap, sym, ◌∙◌}
use Rattle.fluent_grammar.specs.Tiling.{errors, list}
use Rattle.fluent_tidy_laws.proofs.Joining.{joined_texts_keep_lists}
use Rattle.fluent_value.specs.declared.function.NoFunction.{NoFunction}
use Rattle.fluent_answers.specs.Sources.{notices_of}
use Rattle.fluent_answers.proofs.Tidying.{joined_sources_keep_notices}
use Rattle.fluent_tidy.specs.Sources.{texts}
use Rattle.fluent_tidy.proofs.NoReturn.{all_without, any_text}
use Rattle.fluent_tidy.proofs.joining.join.Goals as goal

pub returns-clause-no_errors : goal.returns-clause-no_errors
returns-clause-no_errors c =
    let none = all_without (texts c.args.sources.now) (sym (any_text c.args.sources.now) ∙ sym c.any_return.ensures ∙ c.if-any_return.false) in
    ap errors c.in_ok-push_all.ensures.text ∙ (joined_texts_keep_lists (texts c.args.sources.now) none c.in_ok-push_all.ensures.utf8).no_errors

pub returns-clause-same_lists : goal.returns-clause-same_lists
returns-clause-same_lists c =
    let none = all_without (texts c.args.sources.now) (sym (any_text c.args.sources.now) ∙ sym c.any_return.ensures ∙ c.if-any_return.false) in
    ap list c.in_ok-push_all.ensures.text ∙ (joined_texts_keep_lists (texts c.args.sources.now) none c.in_ok-push_all.ensures.utf8).same_lists

pub returns-clause-same_notices : goal.returns-clause-same_notices
returns-clause-same_notices c =
    let none = all_without (texts c.args.sources.now) (sym (any_text c.args.sources.now) ∙ sym c.any_return.ensures ∙ c.if-any_return.false) in
    ap (λ text. notices_of NoFunction (text ∷ [])) c.in_ok-push_all.ensures.text ∙ joined_sources_keep_notices NoFunction (texts c.args.sources.now) none c.in_ok-push_all.ensures.utf8
