use Rattle.std.proofs.Common.{◌≡◌, map, rules, string_bytes, subst}
use Rattle.fluent_serve.specs.Texts.{texts}
use Rattle.ftl_arguments.specs.CommandView.{format_view}
use Rattle.ftl_command.specs.Files.{AreHeld}
use Rattle.ftl_arguments.specs.Meaning.{format}
use Rattle.ftl_command.specs.Plurals.{rules_view}
use Rattle.ftl_command.specs.Program.{IsFound}
use Rattle.ftl_command.proofs.FaultLemmas.{with_meant}
use Rattle.ftl_command.proofs.Refusals.{of_files, of_locale, of_memory}
use Rattle.ftl_command.proofs.RunLemmas.{by_plurals}
use Rattle.ftl_command.proofs.formatting.formatted_on.Goals as goal

pub returns-in_err-rules-clause-fault : goal.returns-in_err-rules-clause-fault
returns-in_err-rules-clause-fault g c = search (rules, of_locale)

pub returns-in-Err-clause-fault : goal.returns-in-Err-clause-fault
returns-in-Err-clause-fault g c =
    of_files g.F.Folder c.args.folder.now c.read_text_files.new.folder (format (format_view c.args.format.now)) _
    (with_meant g.F.Folder c.args.folder.now c.read_text_files.new.folder _ c.in-Err.fault _ c.with_meant.ensures (rw c.deref.ensures.value at c.in-Err.ensures.fault))

pub returns-in_err-sources-clause-fault : goal.returns-in_err-sources-clause-fault
returns-in_err-sources-clause-fault g c = search (rules, of_memory)

pub returns-in_err-formatted-clause-fault : goal.returns-in_err-formatted-clause-fault
returns-in_err-formatted-clause-fault g c = search (rules, of_memory)

pub returns-in-Some-clause-found : goal.returns-in-Some-clause-found
returns-in-Some-clause-found g c =
    let same : map string_bytes c.in-Ok.texts.items ≡ texts c.in_ok-sources.sources.items = search rules in
    let held = subst (AreHeld (g.F.Folder.contents c.args.folder.now) (texts c.args.format.now.files.items)) same (rw c.deref.ensures.value at c.in-Ok.ensures.held) in
    let found : IsFound (g.F.Folder.contents c.args.folder.now) (format_view c.args.format.now) c.in_ok-formatted.field-0 =
    by_plurals _ (rules_view c.in_ok-rules.rules) _ c.in_ok-rules.ensures.known (record {
      sources = texts c.in_ok-sources.sources.items;
      held = held;
      outcome = rw c.deref-3.ensures.value at c.in_ok-formatted.ensures;
    }) in
    rw c.in-Some.is at found
