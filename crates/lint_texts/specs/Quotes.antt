-- What the code looks for in a text: parts of it, and quotes.
use Rattle.std.specs.Prelude.{◌≡◌, Bool, false, ◌&&◌, ◌||◌, if◌then◌else◌, nat_le, nat_lt, List, [], ◌∷◌, ◌++◌, map, Vec}
use Rattle.std.specs.Global.{Global}
use denote.Ref.{Bor}
use Rattle.fluent_grammar.specs.Words.{Text, begins, is_digit}
use Rattle.lint_findings.specs.Letters.{begins_three}
use Rattle.lint_findings.specs.Typing.{curly_at, has_text}

-- a text begins with a byte that begins a character
abbrev pub begins_character : Text → Bool
begins_character s = begins (λ c. nat_lt c 128 || nat_le 192 c) s

abbrev pub AddsTexts : Vec (Bor Text) Global → Vec (Bor Text) Global → List Text → Type 0
AddsTexts old new added = map (λ s. s.now) new.items ≡ map (λ s. s.now) old.items ++ added

-- an end of a text, if it begins with a curly quote
abbrev pub if_curly : Text → List Text
if_curly s = if curly_at s then s ∷ [] else []

-- a digit and `”` are at the front
abbrev pub begins_inches : Text → Bool
begins_inches [] = false
begins_inches (c ∷ s) = is_digit c && begins_three 0xE2 0x80 0x9D s

abbrev pub has_ellipsis : Text → Bool
has_ellipsis s = has_text (0xE2 ∷ 0x80 ∷ 0xA6 ∷ []) s
