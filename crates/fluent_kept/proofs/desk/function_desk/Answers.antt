use Rattle.std.proofs.Common.{ap, ◌∙◌}
use Rattle.std.specs.Prelude.{vec_items}
use Rattle.fluent_run.proofs.ResourceIds.{all_by_id-read}
use Rattle.fluent_run.specs.ResourceIds.{all_by_id}
use Rattle.fluent_kept.proofs.Environments.{environment-same, ids-same}
use Rattle.fluent_kept.proofs.desk.function_desk.Goals as goal

pub returns-clause-calls : goal.returns-clause-calls
returns-clause-calls c = λ catalog is.
    let names = c.args.names.now in
    let settings = c.settings.ensures ∙ ap (λ k. k.settings) is.sources in
    environment-same names _ _ catalog settings _ _ _ c.in_ok-desk.desk c.in_ok-desk.ensures (c.dates.ensures ∙ ap (λ k. k.dates) is.sources) (ap (λ k. k.plurals) is.sources)
    (ids-same names _ _ catalog settings c.args.read.now c.deref.ensures.value is)

pub returns-clause-ids : goal.returns-clause-ids
returns-clause-ids c = λ catalog is.
    c.in_ok-desk.ensures.desk.ids
    ∙ ids-same c.args.names.now _ _ catalog (c.settings.ensures ∙ ap (λ k. k.settings) is.sources) c.args.read.now c.deref.ensures.value is

pub returns-clause-entries : goal.returns-clause-entries
returns-clause-entries c = λ catalog is.
    ap (λ rs. all_by_id rs) (c.in_ok-desk.ensures.desk.resources ∙ c.deref.ensures.value)
    ∙ all_by_id-read (vec_items c.args.read.now.list) catalog.sources is.entries

pub returns-clause-stack : goal.returns-clause-stack
returns-clause-stack c = c.in_ok-desk.ensures.desk.stack
