-- The texts that values are shown as.
use Rattle.std.specs.Prelude.{◌≡◌, ◌<◌, ℕ, pos, List, [], Option, decimal, unwrap_or}
use Rattle.fluent_number.specs.Number.{number_from_integer}
use Rattle.fluent_number.specs.Text.{number_text}
use Rattle.fluent_value.specs.Value.{Value, text, number, custom, none, error}
use Rattle.fluent_value.specs.View.{value_view}
use Rattle.fluent_value.specs.declared.value.FluentValue.{FluentValue}

-- without a formatter: of values of a program's own type by `shown`
abbrev pub plain_text : {S : Type 0} → (S → List ℕ) → Value S → List ℕ
plain_text shown (text s) = s
plain_text shown (number n) = number_text n
plain_text shown (custom c) = shown c
plain_text shown none = []
plain_text shown error = []

-- the formatter's text, if it answers one, or else the plain one
abbrev pub shown_text : {S : Type 0} → (Value S → Option (List ℕ)) → (S → List ℕ) → Value S → List ℕ
shown_text formatted shown v = unwrap_or (formatted v) (plain_text shown v)

-- the text that a value is shown as in a scope, by the scope's formatter and its texts of values of the program's own type
abbrev pub text_in : {Scope C S : Type 0} → (Scope → Value S → Option (List ℕ)) → (Scope → S → List ℕ) → Scope → (C → S) → FluentValue C → List ℕ
text_in formatted shown scope meaning value = shown_text (formatted scope) (shown scope) (value_view meaning value)

-- whatever values of the program's own type are shown as, a formatter changes nothing of this value's text
abbrev pub IsPlain : {S : Type 0} → (Value S → Option (List ℕ)) → Value S → Type 0
IsPlain {S} formatted v = (shown : S → List ℕ) → shown_text formatted shown v ≡ plain_text shown v

-- a formatter changes no text
abbrev pub KeepsTexts : {S : Type 0} → (Value S → Option (List ℕ)) → Type 0
KeepsTexts formatted = (s : List ℕ) → IsPlain formatted (text s)

-- a formatter changes no whole number below this one that has no options: its digits alone are shown
abbrev pub IsPlainBelow : {S : Type 0} → (Value S → Option (List ℕ)) → ℕ → Type 0
IsPlainBelow {S} formatted bound =
    (n : ℕ) → n < bound → (shown : S → List ℕ) → shown_text formatted shown (number (number_from_integer (pos n))) ≡ decimal n
