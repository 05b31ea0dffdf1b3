-- What calls add to a text.
use Rattle.std.specs.Prelude.{◌≡◌, ◌++◌, String, string_bytes}
use Rattle.std.specs.declared.alloc.Global.{Global}
use Rattle.fluent_grammar.specs.Words.{Text}

-- the new text is the old one and then `more`
abbrev pub Appends : String Global → String Global → Text → Type 0
Appends old new more = string_bytes new ≡ string_bytes old ++ more
