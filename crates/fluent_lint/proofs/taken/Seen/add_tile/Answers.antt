use Rattle.std.proofs.Common.{◌≡◌, ◌∙◌, ◌-◌, Some, None, ap, length, option_map, subst, sym}
use Rattle.std.proofs.lemmas.Result.{on_ok_weaker}
use Rattle.fluent_ast.specs.Borrowed.{entry_of}
use Rattle.lint_findings.specs.DuplicateIds.{id_of}
use Rattle.fluent_lint.specs.TakenView.{FindsTile, MeetsTile}
use Rattle.fluent_lint.proofs.TakenSteps.{finds_comment, finds_entry, meets_comment, meets_entry}
use Rattle.fluent_lint.proofs.taken.Seen.add_tile.Goals as goal

pub returns-in-Some-clause-met : goal.returns-in-Some-clause-met
returns-in-Some-clause-met c =
    let looked = c.args.looked in
    let entry = c.in-Entry.entry.now in
    let text = c.in-Entry.text.now in
    let id = c.in-Some.id.now in
    let has_id : id_of (entry_of entry) ≡ Some id = sym c.declared_id.ensures ∙ ap (option_map (λ s. s.now)) c.in-Some.is in
    let at : c.saturating_sub-offset.result ≡ length looked.file.source.now - length text = c.saturating_sub-offset.ensures in
    on_ok_weaker c.add.result
    (λ meets. subst (λ tile. MeetsTile looked tile c.args.self.now c.args.others.now c.add.new.self c.add.new.others) (sym c.in-Entry.is)
    (meets_entry looked entry text c.saturating_sub-offset.result id has_id at c.args.self.now c.add.new.self c.args.others.now c.add.new.others meets))
    c.add.ensures.met

pub returns-in-Some-clause-found : goal.returns-in-Some-clause-found
returns-in-Some-clause-found c =
    let looked = c.args.looked in
    let entry = c.in-Entry.entry.now in
    let text = c.in-Entry.text.now in
    let id = c.in-Some.id.now in
    let has_id : id_of (entry_of entry) ≡ Some id = sym c.declared_id.ensures ∙ ap (option_map (λ s. s.now)) c.in-Some.is in
    let at : c.saturating_sub-offset.result ≡ length looked.file.source.now - length text = c.saturating_sub-offset.ensures in
    on_ok_weaker c.add.result
    (λ finds. subst (λ tile. FindsTile looked tile c.args.self.now c.args.others.now c.args.findings.now c.add.new.findings) (sym c.in-Entry.is)
    (finds_entry looked entry text c.saturating_sub-offset.result id has_id at c.args.self.now c.args.others.now c.args.findings.now c.add.new.findings finds))
    c.add.ensures.found

pub returns-in-None-clause-met : goal.returns-in-None-clause-met
returns-in-None-clause-met c =
    let looked = c.args.looked in
    let entry = c.in-Entry.entry.now in
    let none : id_of (entry_of entry) ≡ None = sym c.declared_id.ensures ∙ ap (option_map (λ s. s.now)) c.in-None.is in
    subst (λ tile. MeetsTile looked tile c.args.self.now c.args.others.now c.args.self.now c.args.others.now) (sym c.in-Entry.is)
    (meets_comment looked entry c.in-Entry.text.now none c.args.self.now c.args.others.now)

pub returns-in-None-clause-found : goal.returns-in-None-clause-found
returns-in-None-clause-found c =
    let looked = c.args.looked in
    let entry = c.in-Entry.entry.now in
    let none : id_of (entry_of entry) ≡ None = sym c.declared_id.ensures ∙ ap (option_map (λ s. s.now)) c.in-None.is in
    subst (λ tile. FindsTile looked tile c.args.self.now c.args.others.now c.args.findings.now c.args.findings.now) (sym c.in-Entry.is)
    (λ met are. finds_comment looked entry c.in-Entry.text.now none c.args.findings.now met)
