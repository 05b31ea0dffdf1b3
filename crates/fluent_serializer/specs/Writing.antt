-- What writers do to the text that they write to.
use Rattle.std.specs.Prelude.{◌≡◌, ℕ, ◌++◌, false, Bool, List, not, ◌&&◌, Result, OnOk, String, string_bytes}
use Rattle.std.specs.Global.{Global}
use Rattle.fluent_grammar.specs.Words.{Text}
use Rattle.fluent_grammar.specs.Tree as t
use Rattle.fluent_grammar.specs.Written.{Sign, begins_with_dot, ends_line, indent_before, is_many_lined, onto}

-- signs were laid out after what was written, unless the call fails
abbrev pub Writes : {A E : Type 0} → Result A E → String Global → String Global → List Sign → Type 0
Writes result old new signs = OnOk result (string_bytes new ≡ onto (string_bytes old) signs)

-- a text with the indent that a piece takes after it
abbrev pub with_indent : Text → ℕ → Text → Text
with_indent text level piece = text ++ indent_before (ends_line false text) level piece

-- whether a pattern begins on a line of its own
abbrev pub begins_on_new_line : t.Elements → Bool
begins_on_new_line es = is_many_lined es && not (begins_with_dot es)
