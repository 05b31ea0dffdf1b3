use Rattle.std.proofs.Common.{rules, ◌≡◌, ap, sym, ◌∙◌, string_bytes, Err, Some}
use Rattle.serde_json.specs.View.{view}
use Rattle.serde_json.specs.Read.{read as read_text}
use Rattle.ftl_arguments.specs.Meaning.{import, tidy}
use Rattle.ftl_command.specs.Faults.{import_fault}
use Rattle.ftl_command.specs.Refusals.{IsEarlyFault}
use Rattle.ftl_command.proofs.Refusals.{of_files, of_import}
use Rattle.ftl_command.proofs.tidying.import_file.Goals as goal

pub returns-in_err-source-clause-fault : goal.returns-in_err-source-clause-fault
returns-in_err-source-clause-fault g c = search (rules, of_files)

pub returns-in_err-import-clause-fault : goal.returns-in_err-import-clause-fault
returns-in_err-import-clause-fault g c =
    let source = string_bytes c.in_ok-source.source in
    let held = c.in_ok-source.ensures.held in
    let value = view c.in_ok-value.value in
    let error = c.in_err-import.field-0.0 in
    let read : read_text source ≡ Some value = ap read_text (sym c.as_str.ensures.value) ∙ c.in_ok-value.ensures.value in
    let fault : IsEarlyFault g.F.Folder c.args.folder.now c.read_text_file.new.folder (tidy (import c.args.file.now)) (import_fault error) =
    of_import g.F.Folder c.args.folder.now c.read_text_file.new.folder (import c.args.file.now) c.in_ok-source.ensures.opens error
    (λ is. record { source = source; held = held; outcome = record { value = value; read = read; outcome = c.import.ensures.not_normal (c.in_err-import.was ∙ ap Err is) } })
    (λ is. record { source = source; held = held; outcome = record { value = value; read = read; outcome = c.import.ensures.shape (c.in_err-import.was ∙ ap Err is) } }) in
    search rules
