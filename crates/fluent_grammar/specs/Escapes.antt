-- What a string literal's raw text stands for. Texts are bytes of UTF-8, and so is the result.
use Rattle.std.specs.Prelude.{ℕ, zero, suc, ◌+◌, ◌-◌, ◌*◌, min, Bool, ◌&&◌, ◌||◌, ◌==◌, nat_lt, nat_le, if◌then◌else◌, [], ◌∷◌, ◌++◌, length, take, drop, encode_utf8}
use Rattle.std.specs.List.{prefix_len, list_all}
use Rattle.std.specs.Str.{continuation_len}
use Rattle.fluent_grammar.specs.Words.{Text, quote, backslash, small_u, capital_u, is_digit, is_capital, is_between, is_hex_digit}

-- U+FFFD, what stands for an escape that has no meaning
abbrev pub replacement : Text
replacement = encode_utf8 0xFFFD

-- the value of a hex digit
abbrev pub hex_value : ℕ → ℕ
hex_value c = if is_digit c then c - 48 else if is_capital c then c - 55 else c - 87

-- the number that hex digits write, after those of a number
abbrev pub hex_number : ℕ → Text → ℕ
hex_number n [] = n
hex_number n (c ∷ cs) = hex_number (16 * n + hex_value c) cs

-- a byte within a character, after its first
abbrev pub is_continuation : ℕ → Bool
is_continuation b = is_between 128 191 b

-- a scalar value: a code point, but no surrogate
abbrev pub is_scalar : ℕ → Bool
is_scalar c = nat_lt c 0xD800 || (nat_le 0xE000 c && nat_le c 0x10FFFF)

-- The length of an escape's digits: this many bytes, clipped at the end of the text, and extended to the end of a
-- character that the count cuts.
abbrev pub digits_len : ℕ → Text → ℕ
digits_len count s = let clipped = min count (length s) in clipped + prefix_len is_continuation (drop clipped s)

-- the character of exactly this many hex digits of a scalar value, and U+FFFD for other texts
abbrev pub character_of : ℕ → Text → Text
character_of count s =
    if length s == count && (list_all is_hex_digit s && is_scalar (hex_number 0 s)) then encode_utf8 (hex_number 0 s)
    else replacement

-- An escape, from after its backslash on: what it stands for, and how many bytes it takes.
pub record Escape : Type 0 where
  pub stands_for : Text
  pub len : ℕ

abbrev pub unicode_escape : ℕ → Text → Escape
unicode_escape count s = let n = digits_len count s in record { stands_for = character_of count (take n s); len = suc n }

-- Any other escape takes one character. At the end of the text there is nothing to take.
abbrev pub escape_at : Text → Escape
escape_at [] = record { stands_for = replacement; len = 0 }
escape_at (c ∷ cs) =
    if c == backslash || c == quote then record { stands_for = c ∷ []; len = 1 }
    else if c == small_u then unicode_escape 4 cs
    else if c == capital_u then unicode_escape 6 cs
    else record { stands_for = replacement; len = suc (continuation_len c) }

-- the unescaped text after this many bytes at the front, which belong to an escape that was read
unfoldable pub unescaped_behind : ℕ → Text → Text
unescaped_behind n [] = []
unescaped_behind (suc n) (c ∷ cs) = unescaped_behind n cs
unescaped_behind zero (c ∷ cs) =
    if c == backslash then (let escape = escape_at cs in escape.stands_for ++ unescaped_behind escape.len cs)
    else c ∷ unescaped_behind zero cs

-- the unescaped text
abbrev pub unescaped : Text → Text
unescaped s = unescaped_behind 0 s
