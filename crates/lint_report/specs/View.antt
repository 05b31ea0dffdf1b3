-- What the code's values stand for.
use Rattle.std.specs.Prelude.{◌≡◌, ℕ, false, [], ◌++◌, drop, Option, option_map, codes, String, string_bytes}
use Rattle.std.specs.declared.alloc.Global.{Global}
use Rattle.std.specs.Option.{option_map_or, unwrap_or}
use Rattle.unicode_width.specs.Width.{char_width}
use Rattle.fluent_grammar.specs.Words.{Text}
use Rattle.lint_findings.specs.Findings.{FileFinding}
use Rattle.lint_findings.specs.Position.{position_of, line_from}
use Rattle.lint_findings.specs.View.{file_view, finding_view}
use Rattle.lint_findings.specs.declared.records.Finding.{Finding}
use Rattle.lint_findings.specs.declared.records.File.{File}
use Rattle.lint_findings.specs.PlaceView.{IsPlaceIn, place_position}
use Rattle.lint_findings.specs.declared.places.SourcePosition.{SourcePosition}

-- a finding with its file
abbrev pub in_file : File → Finding → FileFinding
in_file file f = record { file = file_view file; finding = finding_view f }

-- the finding is on the line and in the column of this place
abbrev pub IsAt : File → Finding → SourcePosition → Type 0
IsAt file f p = position_of file.source.now f.offset ≡ place_position p

-- The place is one of the file, and the finding is on the line that begins where it says.
pub record IsOnLine (file : File) (f : Finding) (p : SourcePosition) : Type 0 where
  pub place : IsPlaceIn file.source.now p
  pub line : line_from file.source.now f.offset file.source.now ≡ drop p.line_start file.source.now

-- a text that may be missing
abbrev pub optional_text : Option (String Global) → Option Text
optional_text text = option_map string_bytes text

-- an entry before what is wrong with it
abbrev pub entry_label : Option Text → Text
entry_label entry = option_map_or (λ id. id ++ codes ": ") entry []

-- how many columns a character takes in a terminal
abbrev pub shown_width : ℕ → ℕ
shown_width c = unwrap_or (char_width false c) 0
