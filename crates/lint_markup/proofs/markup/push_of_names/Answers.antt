use Rattle.std.proofs.Common.{◌∙◌, ◌++◌, List, [], map, sym, ap}
use Rattle.std.proofs.lemmas.Result.{on_ok_weaker}
use Rattle.lint_findings.specs.Doubts.{Spotted}
use Rattle.lint_findings.specs.Markup as m
use Rattle.lint_markup.specs.Beside.{missing_names_in}
use Rattle.lint_markup.specs.InCode.{said, spotted_views, tags_of, texts_in}
use Rattle.lint_markup.proofs.Known.{are_names}
use Rattle.lint_markup.proofs.Listed.{both_said}
use Rattle.lint_markup.proofs.MarkupSaid.{names_said}
use Rattle.lint_markup.proofs.markup.push_of_names.Goals as goal

pub push_unknown_names-requires : goal.push_unknown_names-requires
push_unknown_names-requires c = record { known = are_names c.in_ok-known.known _ c.in_ok-known.ensures }

pub push_missing_names-requires-clause-names : goal.push_missing_names-requires-clause-names
push_missing_names-requires-clause-names c = are_names c.in_ok-names.names _ c.in_ok-names.ensures

pub push_missing_names-requires-clause-known : goal.push_missing_names-requires-clause-known
push_missing_names-requires-clause-known c = are_names c.in_ok-known.known _ c.in_ok-known.ensures

pub returns : goal.returns
returns c =
    let old = spotted_views c.args.found.now.items in
    let known = c.in_ok-known.known in
    let names = c.in_ok-names.names in
    let is = names_said c.args.pair.now (tags_of c.args.mine.now) (tags_of c.args.others.now) known names c.in_ok-known.ensures c.in_ok-names.ensures in
    on_ok_weaker c.push_missing_names.result
    (λ added.
    both_said (m.unknown_names (texts_in known) [] (tags_of c.args.mine.now)) (missing_names_in c.args.pair.now names known) c.args.found.now.items c.push_unknown_names.new.found.items c.push_missing_names.new.found.items c.in_ok-push_unknown_names.ensures added
    ∙ ap (λ (xs : List Spotted). old ++ map said xs) (sym is)) c.push_missing_names.ensures
