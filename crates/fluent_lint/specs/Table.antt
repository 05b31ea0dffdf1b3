-- The table of languages: what it counts, from all that is found.
use Rattle.std.specs.Prelude.{ℕ, ◌+◌, ◌*◌, ◌/◌, ◌==◌, if◌then◌else◌, List, codes}
use Rattle.lint_findings.specs.Finding.{error, warning}
use Rattle.lint_findings.specs.Findings.{FileFinding}
use Rattle.fluent_lint.specs.Totals.{code_count, severity_count}
use Rattle.fluent_lint.specs.declared.original.Messages.{Messages}
use Rattle.fluent_lint.specs.declared.table.Counts.{Counts}

abbrev pub missing_count : List FileFinding → Messages → ℕ
missing_count found m = code_count (codes "missing-message") found + m.lacking

-- of files with these numbers of messages
abbrev pub counts : List FileFinding → Messages → Counts
counts found m = record {
  messages = m.translated + missing_count found m;
  translated = m.translated;
  missing = missing_count found m;
  obsolete = code_count (codes "obsolete-message") found + m.alone;
  untranslated = code_count (codes "untranslated") found;
  errors = severity_count error found;
  warnings = severity_count warning found;
}

abbrev pub no_counts : Counts
no_counts = record { messages = 0; translated = 0; missing = 0; obsolete = 0; untranslated = 0; errors = 0; warnings = 0 }

abbrev pub both_counts : Counts → Counts → Counts
both_counts c d = record {
  messages = c.messages + d.messages;
  translated = c.translated + d.translated;
  missing = c.missing + d.missing;
  obsolete = c.obsolete + d.obsolete;
  untranslated = c.untranslated + d.untranslated;
  errors = c.errors + d.errors;
  warnings = c.warnings + d.warnings;
}

abbrev pub both_messages : Messages → Messages → Messages
both_messages m n = record {
  translated = m.translated + n.translated;
  lacking = m.lacking + n.lacking;
  alone = m.alone + n.alone;
}

-- how many of a thousand messages are translated, rounded down; of no messages all
abbrev pub per_mille : Counts → ℕ
per_mille c = if c.messages == 0 then 1000 else (c.translated * 1000) / c.messages
