-- What the code's values stand for.
use Rattle.lint_findings.specs.Summary as summaries
use Rattle.lint_report.specs.declared.summary.Summary.{Summary}

abbrev pub summary_view : Summary → summaries.Summary
summary_view s = record {
  file = s.file.now;
  messages = s.messages;
  missing = s.missing;
  obsolete = s.obsolete;
  untranslated = s.untranslated;
}
