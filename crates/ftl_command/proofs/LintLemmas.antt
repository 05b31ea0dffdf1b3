-- What holds of the report on a catalog.
use Rattle.std.proofs.Common.{◌≡◌, ◌≢◌, Err, Option, subst}
use Rattle.std.specs.Io.KnownBytes.{Appends}
use Rattle.fluent_serve.specs.Text.{Text}
use Rattle.fluent_serve.specs.Exchange.{Devices}
use Rattle.fluent_lint.specs.LintReport.{LintReport}
use Rattle.ftl_arguments.specs.Linting.{Lint}
use Rattle.ftl_files.specs.Files.{State}
use Rattle.ftl_command.specs.Linted.{EndsLint, LintInputEnds, OnInputReport, OnLintReport, Unread, lint_unread, report_asked}
use Rattle.ftl_command.specs.Plurals.{language_asked}
use Rattle.ftl_command.specs.Program.{WritesFront}
use Rattle.ftl_command.specs.declared.ended.Ended.{Ended}
use Rattle.ftl_command.specs.declared.fault.Fault.{Fault}
use Rattle.ftl_command.specs.declared.fault.Fault.TheVariants.{Output}
use Rattle.ftl_command.proofs.FormatLemmas.{if_some}

-- what follows for each report follows for the one on a catalog
pub on_lint_report : (l : Lint) (before after : State) (P Q : LintReport → Unread → Type 0) → ((report : LintReport) (unread : Unread) → P report unread → Q report unread) →
    OnLintReport l before after P → OnLintReport l before after Q
on_lint_report l before after P Q each on =
    if_some (language_asked l.locale) (λ plurals read. record {
      references = read.references;
      files = read.files;
      middle = read.middle;
      of_reference = read.of_reference;
      of_catalog = read.of_catalog;
      outcome = each (report_asked l plurals read.references.files read.files.files) (lint_unread read.references read.files) read.outcome;
    }) on

-- and for the one on the input
pub on_input_report : (l : Lint) (before after : State) (left left_after : Option Text) (P Q : LintReport → Unread → Type 0) →
    ((report : LintReport) (unread : Unread) → P report unread → Q report unread) → OnInputReport l before after left left_after P → OnInputReport l before after left left_after Q
on_input_report l before after left left_after P Q each on =
    if_some (language_asked l.locale) (λ plurals read. record {
      references = read.references;
      bytes = read.bytes;
      files = read.files;
      of_reference = read.of_reference;
      of_input = read.of_input;
      of_bytes = read.of_bytes;
      outcome = each (report_asked l plurals read.references.files read.files.files) (lint_unread read.references read.files) read.outcome;
    }) on

-- of either
module _ (On : (LintReport → Unread → Type 0) → Type 0)
    (weaker : (P Q : LintReport → Unread → Type 0) → ((report : LintReport) (unread : Unread) → P report unread → Q report unread) → On P → On Q)
    (made : LintReport) (unread : Unread) (held held_after : Option Text) (text : Text) (is : On (λ report rest. (made ≡ report) × (unread ≡ rest))) (same : text ≡ made.text) where
  -- it is written, and the end is its own
  pub linted_so : (end : Ended) → Appends held held_after text → EndsLint unread made.has_failed end →
      On (λ report rest. Appends held held_after report.text × EndsLint rest report.has_failed end)
  linted_so end written ends =
      weaker (λ report rest. (made ≡ report) × (unread ≡ rest)) (λ report rest. Appends held held_after report.text × EndsLint rest report.has_failed end)
      (λ report rest equal.
      subst (λ (r : LintReport). Appends held held_after r.text × EndsLint rest r.has_failed end) equal.0
      (subst (Appends held held_after) same written, subst (λ (u : Unread). EndsLint u made.has_failed end) equal.1 ends)) is

  -- a front of it is written
  pub lint_cut : WritesFront held held_after text → On (λ report rest. WritesFront held held_after report.text)
  lint_cut front =
      weaker (λ report rest. (made ≡ report) × (unread ≡ rest)) (λ report rest. WritesFront held held_after report.text)
      (λ report rest equal. subst (λ (r : LintReport). WritesFront held held_after r.text) equal.0 (subst (WritesFront held held_after) same front)) is

-- nothing is written before a fault of reading
pub lint_input_unread : (l : Lint) (before after : State) (d : Devices) (fault : Fault) → after.contents ≡ before.contents → d.held_after ≡ d.held_before → fault ≢ Output →
    LintInputEnds l before after d (Err fault)
lint_input_unread l before after d fault kept same other =
    record { linted = tt; memory = λ is. same; input = λ is. same; output = λ is. absurd (other cc); kept = kept }
