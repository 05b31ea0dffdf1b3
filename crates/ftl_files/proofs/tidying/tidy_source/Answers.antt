use Rattle.std.proofs.lemmas.Result.{IfOk-weaker}
use Rattle.ftl_files.specs.TidyView.{end_view}
use Rattle.ftl_files.proofs.ReportLemmas.{ends_so}
use Rattle.ftl_files.proofs.tidying.tidy_source.Goals as goal

pub returns : goal.returns
returns c =
    IfOk-weaker c.source_end.result _ _
    (λ end h. ends_so c.args.name.now c.args.source.now c.tidy.result (end_view end) c.tidy.ensures.text c.tidy.ensures.reason h) c.source_end.ensures
