-- The findings of junk.
use Rattle.std.specs.Prelude.{ℕ, ◌==◌, Bool, ◌&&◌, if◌then◌else◌, List, [], ◌∷◌, Some, None, codes}
use Rattle.fluent_grammar.specs.Words.{Text}
use Rattle.fluent_grammar.specs.Refusal.{Refusal}
use Rattle.lint_findings.specs.Tiles.{Tile, entry_tile, junk_tile}
use Rattle.lint_findings.specs.SyntaxErrors.{reported_refusal, reported_offset, name_at_front, sentence}
use Rattle.lint_findings.specs.Hints as hints
use Rattle.lint_findings.specs.Hints.{byte_order_mark, has_prefix}
use Rattle.lint_findings.specs.Finding.{error, Finding}

-- Junk at this offset is the front of a file with a byte order mark. No entry has the mark, so the first line is junk.
abbrev pub begins_marked : ℕ → Text → Bool
begins_marked at s = at == 0 && has_prefix byte_order_mark s

-- the finding of the mark, in place of one of what is refused there
abbrev pub mark_finding : Finding
mark_finding = record {
  offset = 0;
  code = codes "byte-order-mark";
  severity = error;
  entry = None;
  text = codes "the file begins with a byte order mark, so its first line can't be read";
  hint = Some (codes "`ftl tidy` removes it");
}

-- the finding of what is refused in junk at this offset
abbrev pub refusal_finding : ℕ → Text → Refusal → Finding
refusal_finding at s refusal =
    let reported = reported_refusal s refusal in
    record {
      offset = reported_offset at s reported;
      code = codes "syntax";
      severity = error;
      entry = name_at_front s;
      text = sentence s reported;
      hint = hints.hint s reported;
    }

-- the finding of junk at this offset
abbrev pub syntax_finding : ℕ → Text → Refusal → Finding
syntax_finding at s refusal = if begins_marked at s then mark_finding else refusal_finding at s refusal

-- of the junk among tiles
abbrev pub syntax_findings : List Tile → List Finding
syntax_findings [] = []
syntax_findings (entry_tile at s e ∷ rest) = syntax_findings rest
syntax_findings (junk_tile at s refusal ∷ rest) = syntax_finding at s refusal ∷ syntax_findings rest
