-- The findings of a source by its refusals.
use Rattle.std.specs.Prelude.{ℕ, List, map, drop, if◌then◌else◌, codes, option_map}
use Rattle.std.specs.List.{filter_map}
use Rattle.fluent_grammar.specs.Words.{Text}
use Rattle.fluent_grammar.specs.Refusal as r
use Rattle.fluent_grammar.specs.Tiling.{is_field_kind}
use Rattle.fluent_parsed.specs.ErrorView.{ErrorView, Span, KindView}
use Rattle.fluent_parser.specs.Refusals.{RefusalView, refusal_view}
use Rattle.fluent_parser.specs.declared.refusals.Refusal.{Refusal}
use Rattle.lint_findings.specs.Finding.{Finding, error}
use Rattle.lint_findings.specs.SyntaxErrors.{name_at_front, sentence}
use Rattle.lint_findings.specs.SyntaxFindings.{begins_marked, mark_finding}
use Rattle.lint_findings.specs.Hints as hints
use Rattle.lint_files.specs.Kinds.{kind_of}

-- where the junk of some errors begins
abbrev pub starts_of : List ErrorView → List ℕ
starts_of errors = filter_map (λ (e : ErrorView). option_map (λ (s : Span). s.start) e.slice) errors

-- the refusal that is reported
abbrev pub reported : RefusalView → r.Refusal
reported v = record { kind = kind_of v.kind; at = v.at }

-- where its finding is: an entry with nothing to hold is reported at its start
abbrev pub offset_of : ℕ → ℕ → KindView → ℕ
offset_of start place kind = if is_field_kind (kind_of kind) then start else place

-- the finding that says what is refused in a source
abbrev pub refusal_finding_of : Text → RefusalView → Finding
refusal_finding_of source v =
    let junk = drop v.start source in
    record {
      offset = offset_of v.start v.place v.kind;
      code = codes "syntax";
      severity = error;
      entry = name_at_front junk;
      text = sentence junk (reported v);
      hint = hints.hint junk (reported v);
    }

-- the finding of a refusal of a source
abbrev pub finding_of : Text → RefusalView → Finding
finding_of source v = if begins_marked v.start (drop v.start source) then mark_finding else refusal_finding_of source v

-- the same of a refusal as code has it, and of several
abbrev pub refusal_finding_by : Text → Refusal → Finding
refusal_finding_by source refusal = refusal_finding_of source (refusal_view source refusal)

abbrev pub finding_by : Text → Refusal → Finding
finding_by source refusal = finding_of source (refusal_view source refusal)

abbrev pub findings_by : Text → List Refusal → List Finding
findings_by source refusals = map (finding_of source) (map (refusal_view source) refusals)
