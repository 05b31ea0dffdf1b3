-- Sources that nest too deep to be read, and what is said of them.
use Rattle.std.specs.Prelude.{◌≡◌, ℕ, ◌<◌, ◌++◌, length, take, drop, Option, None, Some, IfSome, codes, decimal}
use Rattle.memchr.specs.Find.{is_byte2, places}
use Rattle.fluent_grammar.specs.Words.{open_brace, open_paren}
use Rattle.fluent_serve.specs.Text.{Text}
use Rattle.fluent_parser.specs.Depth.{NestsPast}
use Rattle.lint_findings.specs.Position.{position_of}

-- a text nests past the 6 MB of the machine's stack that a program reads in
abbrev pub NestsTooDeep : Text → Type 0
NestsTooDeep text = NestsPast 6291456 text

-- a text opens fewer than 2,000 placeables and calls
abbrev pub IsShallow : Text → Type 0
IsShallow text = length (places (is_byte2 open_brace open_paren) text) < 2000

-- a part of a source that begins at this offset does, by itself
pub record IsDeepAt (source : Text) (offset : ℕ) : Type 0 where
  pub count : ℕ
  pub deep : NestsTooDeep (take count (drop offset source))

-- one begins on this line
pub record IsDeepOn (source : Text) (line : ℕ) : Type 0 where
  pub offset : ℕ
  pub on : line ≡ (position_of source offset).line
  pub deep : IsDeepAt source offset

-- `ftl: FILE:LINE: nests too deep`, or without the line if no part does by itself
abbrev pub depth_line : Text → Option ℕ → Text
depth_line name None = codes "ftl: " ++ (name ++ codes ": nests too deep\n")
depth_line name (Some line) = codes "ftl: " ++ (name ++ (codes ":" ++ (decimal line ++ codes ": nests too deep\n")))

-- the source of a file nests too deep, and this is said
pub record IsDepthReport (name source report : Text) : Type 0 where
  pub line : Option ℕ
  pub is : report ≡ depth_line name line
  pub deep : NestsTooDeep source
  pub on : IfSome line (IsDeepOn source)
