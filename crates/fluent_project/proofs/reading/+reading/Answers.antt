use Rattle.std.proofs.Common.{sym}
use Rattle.std.proofs.lemmas.Result.{on_ok_weaker}
use Rattle.fluent_project.specs.ReadingViews.{token_view, views}
use Rattle.fluent_project.proofs.ReadOn.{on_err, read_on, refused_as}
use Rattle.fluent_project.proofs.reading.+reading.Goals as goal

pub push_from-returns-in_ok-push_token-in-Some-clause-ok : goal.push_from-returns-in_ok-push_token-in-Some-clause-ok
push_from-returns-in_ok-push_token-in-Some-clause-ok t c =
    on_ok_weaker c.push_parts.result
    (read_on (views c.args.variables.now) c.args.at_start c.args.byte c.args.rest.now (token_view c.in-Some.token)
    (sym c.in-Some.ensures.token) c.in-Some.ensures.within c.args.parts.now.items c.push_token.new.parts.items c.push_parts.new.parts.items
    c.in_ok-push_token-in-Some.ensures)
    c.push_parts.ensures.ok

pub push_from-returns-in_ok-push_token-in-Some-clause-refused : goal.push_from-returns-in_ok-push_token-in-Some-clause-refused
push_from-returns-in_ok-push_token-in-Some-clause-refused t c =
    on_err _ _ c.push_parts.result
    (refused_as (views c.args.variables.now) c.args.at_start c.args.byte c.args.rest.now (token_view c.in-Some.token)
    (sym c.in-Some.ensures.token) c.in-Some.ensures.within)
    c.push_parts.ensures.refused
