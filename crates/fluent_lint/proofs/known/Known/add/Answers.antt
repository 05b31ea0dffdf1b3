use Rattle.std.proofs.Common.{◌∙◌, ◌++◌, [], ap}
use Rattle.std.proofs.lemmas.Result.{on_ok_weaker}
use Rattle.fluent_resource.specs.Sources.{texts}
use Rattle.fluent_lint.specs.FileTiles.{files_view}
use Rattle.fluent_lint.specs.Known.{by_ids, trees_by_id}
use Rattle.fluent_lint.specs.Reports.{options_view}
use Rattle.fluent_lint.proofs.Found.{known_are}
use Rattle.lint_findings.specs.Flaws.{catalog_ids}
use Rattle.fluent_lint.proofs.known.Known.add.Goals as goal

pub returns : goal.returns
returns c =
    let options = options_view c.args.options.now in
    let own = texts c.args.options.now.functions.now in
    let called = texts c.args.called.now in
    let references = c.args.references.now in
    let files = c.args.files.now in
    on_ok_weaker c.add_ids-2.result
    (λ added. record {
      functions = c.in_ok-add_known_functions.ensures ∙ ap (λ names. catalog_ids (own ++ names) []) c.requires.called;
      ids = c.in_ok-add_ids.ensures
          ∙ ap (λ trees. by_ids (own ++ called) (trees_by_id trees)) c.deref.ensures.value
          ∙ known_are options (files_view references.files.now) files.files.now files.trees.items c.requires.files.trees called c.requires.called;
      reference = added
          ∙ ap (λ trees. by_ids (own ++ called) (trees_by_id trees)) c.deref-2.ensures.value
          ∙ known_are options (files_view references.files.now) references.files.now references.trees.items c.requires.references.trees called c.requires.called;
    })
    c.add_ids-2.ensures
