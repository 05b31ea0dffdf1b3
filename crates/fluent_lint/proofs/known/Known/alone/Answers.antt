use Rattle.std.proofs.Common.{◌∙◌, ◌++◌, [], ap, refl}
use Rattle.fluent_lint.specs.Known.{by_ids, trees_by_id}
use Rattle.fluent_lint.specs.Reports.{options_view}
use Rattle.fluent_lint.proofs.Found.{known_are}
use Rattle.fluent_lint.proofs.known.Known.alone.Goals as goal

pub returns : goal.returns
returns c =
    let o = options_view c.args.options.now in
    let files = c.args.files.now in
    record {
      functions = c.in_ok-add_known_functions.ensures;
      ids = c.in_ok-add_ids.ensures
          ∙ ap (λ trees. by_ids (o.functions ++ []) (trees_by_id trees)) c.deref.ensures.value
          ∙ known_are o [] files.files.now files.trees.items c.requires.trees [] refl;
      reference = c.in_ok-add_known_functions-2.ensures;
    }
