-- Texts that aren't TOML.
use Rattle.std.specs.Prelude.{◌≡◌, ◌≤◌, ◌==◌, ℕ, suc, None, count_by, length, take}
use Rattle.toml.specs.Errors.{IsMemory, span_start}
use Rattle.toml.specs.Parse.{parse_document}
use Rattle.toml.specs.declared.de.error.Error.{Error}
use Rattle.fluent_project.specs.declared.text.TextError.{TextError}
use Rattle.fluent_project.specs.declared.text.TextError.TheVariants as text_error
use Rattle.fluent_project.specs.Patterns.{Text}

-- the line on which a text ends, from 1
abbrev pub last_line : Text → ℕ
last_line text = suc (count_by (λ byte. byte == 10) text)

-- the text isn't TOML, and this is the line of a place in it
abbrev pub IsNoToml : Text → TextError → Type 0
IsNoToml text text_error.Memory = Unit {0}
IsNoToml text (text_error.NotToml line) =
    (parse_document text ≡ None) × (place : ℕ) × (place ≤ length text) × (line ≡ last_line (take place text))

-- what an error of the toolchain's reader is told as
abbrev pub IsToldBy : Text → Error → TextError → Type 0
IsToldBy text error text_error.Memory = IsMemory error
IsToldBy text error (text_error.NotToml line) = (¬ (IsMemory error)) × (line ≡ last_line (take (span_start error) text))
