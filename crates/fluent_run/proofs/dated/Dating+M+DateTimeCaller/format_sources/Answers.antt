use Rattle.std.proofs.Common.{Some, ap, option_copied, ◌∙◌}
use Rattle.std.specs.Prelude.{option_map}
use Rattle.fluent_answers.specs.Answers.{told}
use Rattle.fluent_meaning.specs.Substitution.{answer_written}
use Rattle.fluent_run.proofs.DatesShown.{gives_datetime, ids-dated}
use Rattle.fluent_run.proofs.Replies.{done-told}
use Rattle.fluent_run.specs.Dated.{dated_view, dating_view}
use Rattle.fluent_run.specs.DeskView.{desk_ids, elements_of, message_reply}
use Rattle.fluent_run.proofs.dated.Dating+M+DateTimeCaller.format_sources.Goals as goal

pub returns-in_default : goal.returns-in_default
returns-in_default g c =
    let d = c.args.self.now in
    let attribute = option_copied c.args.attribute in
    let args = dated_view c.args.arguments.now in
    let env = dating_view g.M.MemoizerKind.category_of (λ l. gives_datetime) (desk_ids c.of-desk.result) d in
    let same = ids-dated d.settings.overriding c.of-desk.result c.in_ok-ids.ids _ c.in_ok-resources.resources.items c.args.sources.now
    c.of-desk.ensures.ids c.in_ok-ids.ensures c.deref.ensures.value c.in_ok-resources.ensures in
    ap (option_map (λ es. told (answer_written env args es))) c.in_default.ensures
    ∙ ap (λ ids. message_reply (dating_view g.M.MemoizerKind.category_of (λ l. gives_datetime) ids d) c.args.id.now attribute args) same

pub returns : goal.returns
returns g c =
    let d = c.args.self.now in
    let attribute = option_copied c.args.attribute in
    let args = dated_view c.args.arguments.now in
    let env = dating_view g.M.MemoizerKind.category_of (λ l. gives_datetime) (desk_ids c.of-desk.result) d in
    let done = answer_written env args (elements_of c.in-Some.pattern.now) in
    let same = ids-dated d.settings.overriding c.of-desk.result c.in_ok-ids.ids _ c.in_ok-resources.resources.items c.args.sources.now
    c.of-desk.ensures.ids c.in_ok-ids.ensures c.deref.ensures.value c.in_ok-resources.ensures in
    ap Some (done-told done c.in_ok-resolve.field-0 c.in_ok-resolve.ensures)
    ∙ ap (option_map (λ es. told (answer_written env args es))) c.in-Some.ensures
    ∙ ap (λ ids. message_reply (dating_view g.M.MemoizerKind.category_of (λ l. gives_datetime) ids d) c.args.id.now attribute args) same
