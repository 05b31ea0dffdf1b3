-- Tables of lines, computed. Counted by hand.
use Rattle.std.specs.Prelude.{◌≡◌, ℕ, Bool, true, false, [], ◌∷◌, ◌++◌, codes}
use Rattle.std.proofs.Common.{refl}
use Rattle.fluent_tokens.specs.declared.row.Row.{Row}
use Rattle.fluent_tokens.specs.Table.{Line, lines}
use Rattle.fluent_tokens.specs.Lookup.{is_last_line, past_comments}

-- a line that begins no comment and is plain or not
abbrev line_by : Bool → ℕ → ℕ → ℕ → Bool → Bool → Line
line_by is_plain start end spaces begins_entry ends_pattern = record {
  start = start;
  end = end;
  spaces = spaces;
  begins_entry = begins_entry;
  begins_comment = false;
  ends_pattern = ends_pattern;
  is_plain = is_plain;
}

-- a line with no brace
abbrev line : ℕ → ℕ → ℕ → Bool → Bool → Line
line = line_by true

-- a line with one
abbrev braced : ℕ → ℕ → ℕ → Bool → Bool → Line
braced = line_by false

-- a comment line
abbrev comment_line : ℕ → ℕ → Line
comment_line start end = record { start = start; end = end; spaces = 0; begins_entry = true; begins_comment = true; ends_pattern = true; is_plain = true }

no_byte : lines [] ≡ line 0 0 0 false true ∷ []
no_byte = refl

-- after a line feed at the end there is one more line
message : lines (codes "a = b\n") ≡ line 0 5 0 true true ∷ line 6 6 0 false true ∷ []
message = refl

term_without_line_feed : lines (codes "-t = x") ≡ line 0 6 0 true true ∷ []
term_without_line_feed = refl

comment : lines (codes "# c\n\n") ≡ comment_line 0 3 ∷ line 4 4 0 false false ∷ line 5 5 0 false true ∷ []
comment = refl

indented_lines : lines (codes "    b\n  }") ≡ line 0 5 4 false false ∷ braced 6 9 2 false true ∷ []
indented_lines = refl

attribute : lines (codes " .a") ≡ line 0 3 1 false true ∷ []
attribute = refl

brace_at_column_zero : lines (codes "{x}") ≡ braced 0 3 0 false false ∷ []
brace_at_column_zero = refl

only_spaces : lines (codes " \n") ≡ line 0 1 1 false false ∷ line 2 2 0 false true ∷ []
only_spaces = refl

-- a sign after spaces begins none
indented_sign : lines (codes " # c") ≡ line 0 4 1 false false ∷ []
indented_sign = refl

-- CR LF is a line end of two bytes
crlf : lines (codes "a" ++ 13 ∷ 10 ∷ codes "b") ≡ line 0 1 0 true true ∷ line 3 4 0 true true ∷ []
crlf = refl

blank_crlf : lines (13 ∷ 10 ∷ []) ≡ line 0 0 0 false false ∷ line 2 2 0 false true ∷ []
blank_crlf = refl

-- a carriage return alone is none
carriage_return : lines (codes "a" ++ 13 ∷ codes "b") ≡ line 0 3 0 true true ∷ []
carriage_return = refl

-- a brace makes its own line alone one that isn't plain
brace_behind_plain : lines (codes "a\nb {") ≡ line 0 1 0 true true ∷ braced 2 5 0 true true ∷ []
brace_behind_plain = refl

closing_brace : lines (codes "a }\n") ≡ braced 0 3 0 true true ∷ line 4 4 0 false true ∷ []
closing_brace = refl

-- ---- patterns of one line

-- a row of a plain line that begins no entry
abbrev plain_row : ℕ → ℕ → Bool → Row
plain_row start end ends_pattern = record { start = start; end = end; spaces = 0; begins_entry = false; begins_comment = false; ends_pattern = ends_pattern; is_plain = true }

-- a, LF, b
ended : is_last_line (plain_row 0 1 true) (plain_row 2 3 true ∷ []) ≡ true
ended = refl

-- a, LF, two spaces, b
goes_on : is_last_line (plain_row 0 1 true) (plain_row 2 5 false ∷ []) ≡ false
goes_on = refl

-- a
end_of_text : is_last_line (plain_row 0 1 true) [] ≡ false
end_of_text = refl

-- a, LF, LF, b
blank_behind : is_last_line (plain_row 0 1 true) (plain_row 2 2 false ∷ plain_row 3 4 true ∷ []) ≡ true
blank_behind = refl

-- a, CR, LF, b
crlf_behind : is_last_line (plain_row 0 1 true) (plain_row 3 4 true ∷ []) ≡ false
crlf_behind = refl

-- a, LF, CR, LF, b
blank_crlf_behind : is_last_line (plain_row 0 1 true) (plain_row 2 2 false ∷ plain_row 4 5 true ∷ []) ≡ false
blank_crlf_behind = refl

-- ---- comment lines, passed over

comments : past_comments false (codes "# a\n#b\nc = d") ≡ codes "c = d"
comments = refl

blank_line_after : past_comments false (codes "# a\n\n# b") ≡ codes "\n# b"
blank_line_after = refl

comments_alone : past_comments false (codes "# a\n# b\n") ≡ []
comments_alone = refl

comment_crlf : past_comments false (codes "# a" ++ 13 ∷ 10 ∷ codes "# b\nc") ≡ codes "c"
comment_crlf = refl

return_in_comment : past_comments false (codes "# a" ++ 13 ∷ codes "b\nc") ≡ codes "c"
return_in_comment = refl
