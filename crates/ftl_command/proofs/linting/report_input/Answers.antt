use Rattle.std.proofs.Common.{rules}
use Rattle.ftl_files.specs.TidyView.{read_view}
use Rattle.ftl_arguments.specs.CommandView.{lint_view}
use Rattle.ftl_command.specs.Plurals.{language_asked}
use Rattle.ftl_command.proofs.Refusals.{lint_input_locale, lint_input_memory, lint_input_read, read_locale, read_memory}
use Rattle.ftl_command.proofs.RunLemmas.{by_plurals}
use Rattle.ftl_command.proofs.linting.report_input.Goals as goal

pub returns-clause-linted : goal.returns-clause-linted
returns-clause-linted g c =
    by_plurals (language_asked (lint_view c.args.lint.now).locale) c.in_ok-plurals.plurals _ c.in_ok-plurals.ensures.known
    (record {
      references = read_view c.in_ok-references.references;
      bytes = c.in_ok-bytes.bytes.items;
      files = read_view c.in_ok-input.input;
      of_reference = rw c.deref.ensures.value at c.in_ok-references.ensures.read;
      of_input = c.in_ok-bytes.ensures.read;
      of_bytes = c.in_ok-input.ensures;
      outcome = c.in_ok-report_sources.ensures;
    })

pub returns-in_err-plurals-clause-fault : goal.returns-in_err-plurals-clause-fault
returns-in_err-plurals-clause-fault g c = search (rules, lint_input_locale)

pub returns-in_err-plurals-clause-stops : goal.returns-in_err-plurals-clause-stops
returns-in_err-plurals-clause-stops g c = search (rules, read_locale)

pub returns-in_err-references-clause-fault : goal.returns-in_err-references-clause-fault
returns-in_err-references-clause-fault g c = search (rules, lint_input_memory)

pub returns-in_err-references-clause-stops : goal.returns-in_err-references-clause-stops
returns-in_err-references-clause-stops g c = search (rules, read_memory)

pub returns-in_err-bytes-clause-fault : goal.returns-in_err-bytes-clause-fault
returns-in_err-bytes-clause-fault g c = search (rules, lint_input_read)

pub returns-in_err-input-clause-fault : goal.returns-in_err-input-clause-fault
returns-in_err-input-clause-fault g c = search (rules, lint_input_memory)

pub returns-in_err-input-clause-stops : goal.returns-in_err-input-clause-stops
returns-in_err-input-clause-stops g c = search (rules, read_memory)

pub returns-in_err-report_sources-clause-fault : goal.returns-in_err-report_sources-clause-fault
returns-in_err-report_sources-clause-fault g c = search (rules, lint_input_memory)

pub returns-in_err-report_sources-clause-stops : goal.returns-in_err-report_sources-clause-stops
returns-in_err-report_sources-clause-stops g c = search (rules, read_memory)
