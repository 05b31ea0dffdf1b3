use Rattle.std.proofs.Common.{ap, ◌∙◌, [], ◌∷◌}
use Rattle.fluent_meaning.specs.Ids.{notices, number_pair}
use Rattle.fluent_resource.specs.Sources.{texts}
use Rattle.fluent_check.specs.Added.{trees_by_id}
use Rattle.fluent_check.proofs.SameKinds.{notices-read}
use Rattle.fluent_check.proofs.report.report_on.Goals as goal

pub returns : goal.returns
returns c = record {
  errors = c.in_ok-read.ensures.errors;
  notices =
      c.in_ok-notices.ensures
      ∙ ap (λ trees. notices (number_pair ∷ []) (trees_by_id trees)) c.deref.ensures.value
      ∙ notices-read (number_pair ∷ []) c.in_ok-read.read.trees.items (texts c.args.sources.now) c.in_ok-read.ensures.trees;
}
