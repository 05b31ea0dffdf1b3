-- What the braces and parentheses of a text take of the machine's stack at most, wherever they stand.
use Rattle.std.specs.Prelude.{ℕ, ◌+◌, ◌==◌, if◌then◌else◌, [], ◌∷◌}
use Rattle.fluent_grammar.specs.Words.{Text, open_brace, open_paren}
use Rattle.fluent_text.specs.declared.stack.reading.TheConstants.{PLACEABLE, CALL, SELECT}

-- An opening brace begins a placeable, which may have one select. An opening parenthesis begins the arguments of a call.
abbrev pub byte_weight : ℕ → ℕ
byte_weight c = if c == open_brace then PLACEABLE + SELECT else if c == open_paren then CALL else 0

-- all of them in a text
abbrev pub weight : Text → ℕ
weight [] = 0
weight (c ∷ cs) = byte_weight c + weight cs
