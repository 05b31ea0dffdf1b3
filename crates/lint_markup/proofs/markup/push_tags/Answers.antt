use Rattle.std.proofs.Common.{◌∙◌, ◌++◌, List, map, ap}
use Rattle.std.proofs.lemmas.Result.{on_ok_weaker}
use Rattle.lint_findings.specs.Markup as m
use Rattle.lint_findings.specs.Tags as t
use Rattle.lint_markup.specs.InCode.{es_of, os_of, said, spotted_views, tags_of}
use Rattle.lint_markup.proofs.markup.push_tags.Goals as goal

pub returns : goal.returns
returns c =
    let old = spotted_views c.args.found.now.items in
    let pair = c.args.pair.now in
    let mine = ap tags_of c.deref.ensures.value ∙ c.in_ok-mine.ensures in
    on_ok_weaker c.push_of_tags.result
    (λ added. added ∙ ap (λ (ts : List t.Tag). old ++ map said (m.of_tags (es_of pair) (os_of pair) ts (tags_of c.args.others.now))) mine) c.push_of_tags.ensures
