use Rattle.std.proofs.Common.{rules}
use Rattle.ftl_files.specs.States.{state_of}
use Rattle.ftl_files.specs.TidyView.{read_view}
use Rattle.ftl_arguments.specs.CommandView.{lint_view}
use Rattle.ftl_command.specs.Plurals.{language_asked}
use Rattle.ftl_command.proofs.Refusals.{lint_memory, of_locale}
use Rattle.ftl_command.proofs.RunLemmas.{by_plurals}
use Rattle.ftl_command.proofs.linting.report_paths.Goals as goal

pub returns-clause-linted : goal.returns-clause-linted
returns-clause-linted g c =
    by_plurals (language_asked (lint_view c.args.lint.now).locale) c.in_ok-plurals.plurals _ c.in_ok-plurals.ensures.known
    (record {
      references = read_view c.in_ok-references.references;
      files = read_view c.in_ok-files.files;
      middle = state_of g.F.Folder c.read_sources.new.folder;
      of_reference = rw c.deref.ensures.value at c.in_ok-references.ensures.read;
      of_catalog = rw c.deref-2.ensures.value at c.in_ok-files.ensures.read;
      outcome = c.in_ok-report_sources.ensures;
    })

pub returns-in_err-plurals-clause-fault : goal.returns-in_err-plurals-clause-fault
returns-in_err-plurals-clause-fault g c = search (rules, of_locale)

pub returns-in_err-references-clause-fault : goal.returns-in_err-references-clause-fault
returns-in_err-references-clause-fault g c = search (rules, lint_memory)

pub returns-in_err-files-clause-fault : goal.returns-in_err-files-clause-fault
returns-in_err-files-clause-fault g c = search (rules, lint_memory)

pub returns-in_err-report_sources-clause-fault : goal.returns-in_err-report_sources-clause-fault
returns-in_err-report_sources-clause-fault g c = search (rules, lint_memory)
