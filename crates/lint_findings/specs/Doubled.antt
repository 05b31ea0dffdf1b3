-- A word that stands twice in a row, as `the the`, where the reference has none.
use Rattle.std.specs.Prelude.{ℕ, ◌==◌, Bool, true, false, not, ◌&&◌, ◌||◌, if◌then◌else◌, List, [], ◌∷◌, drop, take, length, Option, Some, None, is_some, codes}
use Rattle.std.specs.Char.{is_ascii}
use Rattle.std.specs.List.{list_any, prefix_len}
use Rattle.std.specs.Str.{str_eq_ignore_ascii_case}
use Rattle.fluent_grammar.specs.Words.{Text, space, is_between, is_letter, begins_with}
use Rattle.lint_findings.specs.Doubts.{Spotted, doubled_word, spotted_at}
use Rattle.lint_findings.specs.Tags.{is_blank_byte}
use Rattle.lint_findings.specs.Typing.{first_found}

-- ---- words

-- A letter, or a byte of a character beyond ASCII. Those of U+0080 to U+00BF, of U+2000 to U+2FFF and of U+F000 on are
-- mostly signs.
abbrev pub is_word_byte : ℕ → Bool
is_word_byte c = is_letter c || ((is_between 0x80 0xE1 c && not (c == 0xC2)) || is_between 0xE3 0xEE c)

abbrev pub word_len : Text → ℕ
word_len s = prefix_len is_word_byte s

-- what may follow a word: a blank or a sign, or nothing
abbrev pub is_sign : ℕ → Bool
is_sign c = c == 33 || (c == 41 || (c == 44 || (c == 46 || (c == 58 || (c == 59 || c == 63)))))

abbrev pub ends_word : Text → Bool
ends_word [] = true
ends_word (c ∷ s) = is_blank_byte c || is_sign c

-- words that some languages rightly say twice, as French `vous vous` and German `die die`
abbrev pub said_twice : List Text
said_twice =
    codes "das" ∷ codes "dat" ∷ codes "dem" ∷ codes "den" ∷ codes "der" ∷ codes "det" ∷ codes "die" ∷ codes "do" ∷ codes "je"
    ∷ codes "nous" ∷ codes "que" ∷ codes "se" ∷ codes "sie" ∷ codes "that" ∷ codes "vous" ∷ []

-- two characters or more: those beyond ASCII have two bytes or more
abbrev pub is_long : Text → Bool
is_long [] = false
is_long (c ∷ []) = false
is_long (c ∷ d ∷ []) = is_ascii c
is_long (c ∷ d ∷ e ∷ s) = true

-- a word of two characters or more that is none of these
abbrev pub counts_twice : Text → Bool
counts_twice w = is_long w && not (list_any (str_eq_ignore_ascii_case w) said_twice)

-- ---- twice

-- a word is at the front, in capital or small letters, and nothing of it goes on
abbrev pub is_again : Text → Text → Bool
is_again w s = str_eq_ignore_ascii_case (take (length w) s) w && ends_word (drop (length w) s)

-- after a word and one space the word is there again
abbrev pub goes_on_with : Text → Text → Bool
goes_on_with w rest = begins_with space rest && (is_again w (drop 1 rest) && counts_twice w)

-- the word at the front stands there twice
abbrev pub is_doubled : Text → Bool
is_doubled s = goes_on_with (take (word_len s) s) (drop (word_len s) s)

-- ---- in a text

-- from the first such word after a space on
abbrev pub doubled_later : Text → Option Text
doubled_later [] = None
doubled_later (c ∷ s) = if c == space && is_doubled s then Some s else doubled_later s

-- at the front, or after a space
abbrev pub doubled_in : Text → Option Text
doubled_in s = if is_doubled s then Some s else doubled_later s

abbrev pub has_doubled : Text → Bool
has_doubled s = is_some (doubled_in s)

-- at what was found, unless one of the others has such a word
abbrev pub unless_doubled : List Text → Option Text → List Spotted
unless_doubled others None = []
unless_doubled others (Some s) = if list_any has_doubled others then [] else spotted_at s doubled_word ∷ []

abbrev pub doubled_words : List Text → List Text → List Spotted
doubled_words texts others = unless_doubled others (first_found doubled_in texts)
