use Rattle.std.proofs.Common.{◌∙◌, ◌++◌, List, map, ap}
use Rattle.std.proofs.lemmas.Result.{on_ok_weaker}
use Rattle.lint_findings.specs.Doubts.{Spotted}
use Rattle.lint_markup.specs.Beside.{of_elements, of_names}
use Rattle.lint_markup.specs.InCode.{said, spotted_views, tags_of}
use Rattle.lint_markup.proofs.Listed.{both_said}
use Rattle.lint_markup.proofs.MarkupSaid.{both_of}
use Rattle.lint_markup.proofs.markup.push_of_tags.Goals as goal

pub returns : goal.returns
returns c =
    let old = spotted_views c.args.found.now.items in
    let pair = c.args.pair.now in
    let others = tags_of c.args.others.now in
    let mine = tags_of c.args.mine.now in
    on_ok_weaker c.push_of_names.result
    (λ added.
    both_said (of_elements pair mine others) (of_names pair mine others) c.args.found.now.items c.push_of_elements.new.found.items c.push_of_names.new.found.items c.in_ok-push_of_elements.ensures added
    ∙ ap (λ (xs : List Spotted). old ++ map said xs) (both_of pair mine others c.requires)) c.push_of_names.ensures
