-- The line that is shown for a finding, with a caret below its offset.
use Rattle.std.specs.Prelude.{ℕ, ◌+◌, ◌-◌, ◌==◌, min, nat_lt, Bool, not, ◌&&◌, ◌||◌, if◌then◌else◌, List, [], ◌∷◌, ◌++◌, length, take, drop, map, replicate, codes, decimal}
use Rattle.std.specs.List.{flat_map}
use Rattle.std.specs.Option.{option_map_or}
use Rattle.std.specs.Str.{chars, encode_utf8_all}
use Rattle.fluent_grammar.specs.Words.{Text, space, is_between}
use Rattle.lint_findings.specs.Position.{position_of, line_at}
use Rattle.lint_findings.specs.Files.{File}
use Rattle.lint_findings.specs.Finding.{Finding}

-- ---- masked characters

-- a control character other than the tab, or a mark that changes the direction of the text around it
abbrev pub is_masked : ℕ → Bool
is_masked c =
    (nat_lt c 32 && not (c == 9)) || (is_between 127 159 c || (is_between 0x202A 0x202E c || is_between 0x2066 0x2069 c))

-- U+FFFD for those
abbrev pub masked_character : ℕ → ℕ
masked_character c = if is_masked c then 0xFFFD else c

abbrev pub masked_text : Text → Text
masked_text s = encode_utf8_all (map masked_character (chars s))

-- ---- long lines

-- the most characters of a line that are shown
abbrev pub shown_length : ℕ
shown_length = 120

-- The first character that is shown, of a line of `len` characters with a finding at character `at`: half of what is
-- shown is before the finding, if the line has as much on both sides.
abbrev pub first_shown : ℕ → ℕ → ℕ
first_shown len at = min (at - 60) (len - shown_length)

-- two dots, if something is left out
abbrev pub dots_if : Bool → List ℕ
dots_if cut = if cut then 46 ∷ 46 ∷ [] else []

-- the characters of a line that are shown, and those of them before the finding
abbrev pub shown_characters : List ℕ → ℕ → List ℕ
shown_characters line at =
    let first = first_shown (length line) at in
    dots_if (nat_lt 0 first)
    ++ (map masked_character (take shown_length (drop first line)) ++ dots_if (nat_lt (first + shown_length) (length line)))

abbrev pub characters_before : List ℕ → ℕ → List ℕ
characters_before line at =
    let first = first_shown (length line) at in
    dots_if (nat_lt 0 first) ++ map masked_character (take (at - first) (drop first line))

-- ---- the caret

module _ (width : ℕ → ℕ) where
  -- below a character: a tab for a tab, and otherwise as many spaces as it is wide
  abbrev pub character_padding : ℕ → Text
  character_padding c = if c == 9 then c ∷ [] else replicate (width c) space

  abbrev pub padding : List ℕ → Text
  padding cs = flat_map character_padding cs

  -- The number of the line, the line, this caret below the finding, and the hint if there is one. Before a finding are
  -- as many characters as its column says, less one.
  abbrev pub shown_line_by : Text → File → Finding → Text
  shown_line_by caret file f =
      let p = position_of file.source f.offset in
      let number = decimal p.line in
      let margin = replicate (length number) space in
      let line = chars (line_at file.source f.offset) in
      let at = p.column - 1 in
      number ++ (codes " | " ++ (encode_utf8_all (shown_characters line at) ++ (codes "\n"
      ++ (margin ++ (codes " | " ++ (padding (characters_before line at) ++ (caret ++ (codes "\n"
      ++ option_map_or (λ hint. margin ++ (codes " = " ++ (masked_text hint ++ codes "\n"))) f.hint []))))))))

  abbrev pub shown_line : File → Finding → Text
  shown_line file f = shown_line_by (codes "^") file f
