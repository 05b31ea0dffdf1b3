-- Texts of a pattern in plain lines.
use Rattle.std.specs.Prelude.{◌≡◌, false, ◌==◌, length, take, drop, Ok}
use Rattle.fluent_grammar.specs.Words.{Text, open_brace, begins_with, begins_crlf, spaces}
use Rattle.fluent_grammar.specs.Lines.{ends_line, is_blank_text, pattern_ends}
use Rattle.fluent_tokens.specs.Counted.{IsText}
use Rattle.fluent_tokens.specs.Lookup.{is_last_feed}
use Rattle.fluent_tokens.specs.declared.plain.PlainLine.{PlainLine}

-- A text begins here: no brace, no CR LF, not the end.
pub record IsTextStart (s : Text) : Type 0 where
  pub some : (length s == 0) ≡ false
  pub brace : begins_with open_brace s ≡ false
  pub crlf : begins_crlf s ≡ false

-- A text stands here, of so many bytes; whether it is blank, and whether it ends its line.
pub record IsTextOf (line : PlainLine) (s : Text) : Type 0 where
  pub start : IsTextStart s
  pub text : IsText s (Ok line.count)
  pub blank : line.is_blank ≡ is_blank_text (take line.count s)
  pub ends : line.ends_line ≡ ends_line (take line.count s)

-- A pattern goes on in the line that begins here, with a text after its spaces.
pub record IsPlainLine (s : Text) (line : PlainLine) : Type 0 where
  pub feed : is_last_feed s ≡ false
  pub pattern : pattern_ends s ≡ false
  pub indent_is : line.indent ≡ spaces s
  pub text : IsTextOf line (drop line.indent s)
