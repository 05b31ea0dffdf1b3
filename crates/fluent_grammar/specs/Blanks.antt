-- Blank blocks and lines, by their bytes.
use Rattle.std.specs.Prelude.{◌≡◌, ◌⊎◌, ℕ, not, ◌==◌, [], ◌∷◌, ◌++◌, replicate, None, true}
use Rattle.std.specs.List.{list_all}
use Rattle.fluent_grammar.specs.Words.{Text, line_feed, carriage_return, space, skip_spaces, after_line_end}

-- Lines of spaces, each with its line end: LF or CR LF.
pub data BlankLines : Text → Type 0 where
  no_lines : BlankLines []
  ends_lf : {more : Text} (spaces : ℕ) → BlankLines more → BlankLines (replicate spaces space ++ line_feed ∷ more)
  ends_crlf : {more : Text} (spaces : ℕ) → BlankLines more → BlankLines (replicate spaces space ++ carriage_return ∷ line_feed ∷ more)

-- A blank block at the front of a text, at column 0: as many blank lines as there are. No blank line follows it.
pub record BlankBlock (blanks text rest : Text) : Type 0 where
  pub split : text ≡ blanks ++ rest
  pub lines : BlankLines blanks
  pub longest : after_line_end (skip_spaces rest) ≡ None

-- A line at the front of a text: up to and with its line feed, or to the end of the text.
pub record Line (line text rest : Text) : Type 0 where
  pub split : text ≡ line ++ rest
  pub ends : ((bytes : Text) × (line ≡ bytes ++ (line_feed ∷ [])) × (list_all (λ c. not (c == line_feed)) bytes ≡ true)) ⊎
      ((rest ≡ []) × (list_all (λ c. not (c == line_feed)) line ≡ true))
