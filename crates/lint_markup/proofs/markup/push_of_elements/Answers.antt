use Rattle.std.proofs.Common.{◌∙◌, ◌++◌, List, map, sym, ap}
use Rattle.std.proofs.lemmas.Result.{on_ok_weaker}
use Rattle.lint_findings.specs.Doubts.{Spotted}
use Rattle.lint_markup.specs.Beside.{missing_in, unbalanced_in}
use Rattle.lint_markup.specs.InCode.{said, spotted_views, tags_of}
use Rattle.lint_markup.proofs.Known.{are_names}
use Rattle.lint_markup.proofs.Listed.{both_said}
use Rattle.lint_markup.proofs.MarkupSaid.{elements_known, elements_unknown}
use Rattle.lint_markup.proofs.markup.push_of_elements.Goals as goal

pub has_unknown-requires : goal.has_unknown-requires
has_unknown-requires c = record { known = are_names c.in_ok-known.known _ c.in_ok-known.ensures }

pub push_unknown_elements-requires : goal.push_unknown_elements-requires
push_unknown_elements-requires c = record { known = are_names c.in_ok-known.known _ c.in_ok-known.ensures }

pub push_missing_elements-requires : goal.push_missing_elements-requires
push_missing_elements-requires c = record { known = are_names c.in_ok-known.known _ c.in_ok-known.ensures }

pub returns-then-has_unknown : goal.returns-then-has_unknown
returns-then-has_unknown c =
    let old = spotted_views c.args.found.now.items in
    let is = elements_unknown c.args.pair.now (tags_of c.args.mine.now) (tags_of c.args.others.now) c.in_ok-known.known c.in_ok-known.ensures (sym c.has_unknown.ensures ∙ c.if-has_unknown.true) in
    on_ok_weaker c.push_unknown_elements.result (λ added. added ∙ ap (λ (xs : List Spotted). old ++ map said xs) (sym is)) c.push_unknown_elements.ensures

pub returns : goal.returns
returns c =
    let old = spotted_views c.args.found.now.items in
    let known = c.in_ok-known.known in
    let is = elements_known c.args.pair.now (tags_of c.args.mine.now) (tags_of c.args.others.now) known c.in_ok-known.ensures (sym c.has_unknown.ensures ∙ c.if-has_unknown.false) in
    on_ok_weaker c.push_missing_elements.result
    (λ added.
    both_said (unbalanced_in c.args.pair.now known) (missing_in c.args.pair.now c.args.mine.now c.args.others.now known) c.args.found.now.items c.push_unbalanced.new.found.items c.push_missing_elements.new.found.items c.in_ok-push_unbalanced.ensures added
    ∙ ap (λ (xs : List Spotted). old ++ map said xs) (sym is)) c.push_missing_elements.ensures
