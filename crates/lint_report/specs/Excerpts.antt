-- What is shown of a line, by the text before a finding and the text from the finding on.
use Rattle.std.specs.Prelude.{◌≡◌, ℕ, ◌-◌, nat_lt, Bool, true, [], ◌∷◌, ◌++◌, length, take, drop, map, is_some}
use Rattle.std.specs.Str.{chars}
use Rattle.fluent_grammar.specs.Words.{Text, after_line_end}
use Rattle.lint_findings.specs.Position.{to_line_end}
use Rattle.lint_findings.specs.ShownLine.{masked_character, dots_if, shown_characters, characters_before}
use Rattle.lint_findings.specs.PlaceView.{IsAfter}
use Rattle.lint_report.specs.declared.excerpts.Excerpt.{Excerpt}
use Rattle.lint_report.specs.declared.excerpts.Window.{Window}

-- the front of a text is a line end, or the text is empty
abbrev pub is_at_line_end : Text → Bool
is_at_line_end [] = true
is_at_line_end (c ∷ cs) = is_some (after_line_end (c ∷ cs))

-- the first characters of the line at the front of a text
pub record IsFront (text : Text) (most : ℕ) (e : Excerpt) : Type 0 where
  pub characters : chars e.text.now ≡ take most (chars (to_line_end text))
  pub count : e.count ≡ length (chars e.text.now)
  pub is_cut : e.is_cut ≡ nat_lt most (length (chars (to_line_end text)))

-- the last characters of a text
pub record IsEnd (text : Text) (most : ℕ) (e : Excerpt) : Type 0 where
  pub characters : chars e.text.now ≡ drop (length (chars text) - most) (chars text)
  pub count : e.count ≡ length (chars e.text.now)
  pub is_cut : e.is_cut ≡ nat_lt most (length (chars text))

-- the characters that are shown of a line, whatever the column is
abbrev pub IsWindow : Text → Text → Window → Type 0
IsWindow front rest w = (at : ℕ) → IsAfter front rest at →
    (shown_characters (chars (front ++ to_line_end rest)) at
    ≡ dots_if w.before.is_cut ++ (map masked_character (chars w.before.text.now ++ chars w.after.text.now) ++ dots_if w.after.is_cut))
    × (characters_before (chars (front ++ to_line_end rest)) at ≡ dots_if w.before.is_cut ++ map masked_character (chars w.before.text.now))
