-- The first reference of a pattern that enters one whose references never end.
use Rattle.std.specs.Prelude.{if◌then◌else◌, List, [], ◌∷◌, Option, Some, None}
use Rattle.fluent_grammar.specs.Words.{Text}
use Rattle.fluent_meaning.specs.Fallback.{inline_fallback}
use Rattle.fluent_meaning.specs.Ids.{Ids}
use Rattle.fluent_errors.specs.Errors.{cyclic}
use Rattle.lint_findings.specs.EntryFindings.{finding_in}
use Rattle.lint_findings.specs.Finding.{Finding, Remark}
use Rattle.lint_findings.specs.FlawHints.{goes_on_text}
use Rattle.lint_findings.specs.Flaws.{unresolved}
use Rattle.lint_findings.specs.FlawWords.{flaw_words}
use Rattle.lint_nodes.specs.Marks.{is_entered}
use Rattle.lint_findings.specs.Nodes.{Node, expression, select, repeated_key}

abbrev pub first_or : Option Text → Option Text → Option Text
first_or None later = later
first_or (Some x) later = Some x

module _ (ids : Ids (Unit {0})) where
  -- a node as it is written, if it is such a reference
  abbrev pub entered : Node → Option Text
  entered (expression i) = if is_entered ids i then Some (inline_fallback i) else None
  entered (select i vs) = None
  entered (repeated_key k) = None

  -- the first of these
  abbrev pub first_entered : List Node → Option Text
  first_entered [] = None
  first_entered (node ∷ nodes) = first_or (entered node) (first_entered nodes)

-- that references never end, and go on at one that is written so
abbrev pub goes_on_remark : Text → Remark
goes_on_remark reference = record (flaw_words (unresolved cyclic)) { hint = Some (goes_on_text reference) }

-- its finding, if there is such a reference
abbrev pub endless_at : Text → Text → Text → Option Text → List Finding
endless_at source owner at None = []
endless_at source owner at (Some reference) = finding_in source owner at (goes_on_remark reference) ∷ []
