use Rattle.std.proofs.Common.{◌∙◌, rules, ap, subst, sym}
use Rattle.fluent_c.specs.Linting.{Lints, lint_status, report_in}
use Rattle.fluent_c.specs.Made.{Holds}
use Rattle.fluent_c.proofs.Reports.{lints_told, some_weaker}
use Rattle.fluent_c.proofs.linting.fluent_lint.Goals as goal

pub returns-in-Ok-clause-status : goal.returns-in-Ok-clause-status
returns-in-Ok-clause-status c =
    subst (Lints c.args.options.now c.args.files.now c.args.references.now) (sym c.status_of.ensures)
    (lints_told c.args.options.now c.args.files.now c.args.references.now c.in-Ok.has_failed (c.are_all_utf8.ensures.utf8 c.if-not-are_all_utf8.false))

pub returns-in-Ok-clause-report : goal.returns-in-Ok-clause-report
returns-in-Ok-clause-report c = λ _.
    some_weaker (report_in c.args.options.now c.args.files.now c.args.references.now) c.in-Ok.ensures.report
    (λ report is. (subst (λ text. Holds text report.text) (sym c.put.ensures) is.0, c.status_of.ensures ∙ ap lint_status is.1))

pub returns-in-Err-UnknownLocale-clause-status : goal.returns-in-Err-UnknownLocale-clause-status
returns-in-Err-UnknownLocale-clause-status c = record {
  decided = search rules;
  not_utf8 = search rules;
  utf8 = λ _. c.are_all_utf8.ensures.utf8 c.if-not-are_all_utf8.false;
  unknown_locale = λ _. c.in-Err-UnknownLocale.ensures.unknown c.in-Err-UnknownLocale.field-0-is;
}

pub returns-in-Err-Memory-clause-status : goal.returns-in-Err-Memory-clause-status
returns-in-Err-Memory-clause-status c = record {
  decided = search rules;
  not_utf8 = search rules;
  utf8 = λ _. c.are_all_utf8.ensures.utf8 c.if-not-are_all_utf8.false;
  unknown_locale = search rules;
}
