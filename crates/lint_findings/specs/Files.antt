-- Files, and where something is in them.
use Rattle.std.specs.Prelude.{ℕ, ◌++◌, codes, decimal}
use Rattle.fluent_grammar.specs.Words.{Text}
use Rattle.lint_findings.specs.Position.{position_of}

-- a file by its name, with its text
pub record File : Type 0 where
  pub name : Text
  pub source : Text

-- `FILE:LINE:COLUMN`
abbrev pub location : File → ℕ → Text
location file offset =
    let p = position_of file.source offset in
    file.name ++ (codes ":" ++ (decimal p.line ++ (codes ":" ++ decimal p.column)))
