-- Characters that a text shouldn't have: the one that stands for a lost one, control characters, spaces without width
-- and marks of direction that end nothing, or that nothing ends.
use Rattle.std.specs.Prelude.{ℕ, suc, ◌-◌, ◌==◌, ◌/◌, ◌%◌, nat_lt, Bool, true, false, not, ◌&&◌, ◌||◌, if◌then◌else◌, List, [], ◌∷◌, ◌++◌, drop, Option, Some, None, option_map, codes}
use Rattle.std.specs.Fmt.{digit_glyph}
use Rattle.std.specs.Option.{option_or}
use Rattle.fluent_grammar.specs.Words.{Text, line_feed, carriage_return, space, quote, close_bracket, begins_with, is_between}
use Rattle.lint_findings.specs.Finding.{Remark, remark, warning}

-- whether these three bytes are at the front
abbrev pub begins_three : ℕ → ℕ → ℕ → Text → Bool
begins_three a b c (x ∷ y ∷ z ∷ s) = x == a && (y == b && z == c)
begins_three a b c _ = false

-- ---- characters

-- U+FFFD
abbrev pub is_lost : Text → Bool
is_lost s = begins_three 0xEF 0xBF 0xBD s

-- U+0000 to U+001F but tabs and the bytes of line ends, and U+007F
abbrev pub is_control_byte : Text → Bool
is_control_byte [] = false
is_control_byte (c ∷ s) =
    c == 127
    || (nat_lt c 32 && (not (c == 9 || c == line_feed) && not (c == carriage_return && begins_with line_feed s)))

-- U+0080 to U+009F
abbrev pub is_later_control : Text → Bool
is_later_control (c ∷ d ∷ s) = c == 0xC2 && is_between 0x80 0x9F d
is_later_control _ = false

-- U+200B ZERO WIDTH SPACE
abbrev pub is_zero_width_space : Text → Bool
is_zero_width_space s = begins_three 0xE2 0x80 0x8B s

-- U+2060 WORD JOINER
abbrev pub is_word_joiner : Text → Bool
is_word_joiner s = begins_three 0xE2 0x81 0xA0 s

-- U+FEFF ZERO WIDTH NO-BREAK SPACE
abbrev pub is_mark : Text → Bool
is_mark s = begins_three 0xEF 0xBB 0xBF s

-- U+202D LEFT-TO-RIGHT OVERRIDE and U+202E RIGHT-TO-LEFT OVERRIDE
abbrev pub turns : Text → Bool
turns s = begins_three 0xE2 0x80 0xAD s || begins_three 0xE2 0x80 0xAE s

-- a mark that something has to end: these, U+202A, U+202B, and U+2066 to U+2068
abbrev pub opens : Text → Bool
opens s =
    turns s
    || (begins_three 0xE2 0x80 0xAA s || (begins_three 0xE2 0x80 0xAB s
    || (begins_three 0xE2 0x81 0xA6 s || (begins_three 0xE2 0x81 0xA7 s || begins_three 0xE2 0x81 0xA8 s))))

-- a mark that ends one: U+202C, U+2069
abbrev pub closes : Text → Bool
closes s = begins_three 0xE2 0x80 0xAC s || begins_three 0xE2 0x81 0xA9 s

-- ---- where they stand

-- no text follows on this line, or in this literal
abbrev pub is_end : Text → Bool
is_end [] = true
is_end (c ∷ s) = c == line_feed || (c == carriage_return || c == quote)

-- Marks hold to the end of a line. At most this many may be open at once, by Unicode's rules.
abbrev pub deepest : ℕ
deepest = 125

abbrev pub deeper : ℕ → ℕ
deeper d = if nat_lt d deepest then suc d else d

-- After a byte, how many marks are open: none in a new line.
abbrev pub depth_after : ℕ → Text → ℕ
depth_after d s =
    if begins_with line_feed s then 0
    else if opens s then deeper d
    else if closes s then d - 1
    else d

-- Whether a mark is ended in what follows it, inside of which this many are open.
abbrev pub is_ended : ℕ → Text → Bool
is_ended d [] = false
is_ended d (c ∷ s) =
    if c == line_feed then false
    else if closes (c ∷ s) && d == 0 then true
    else is_ended (depth_after d (c ∷ s)) s

-- Whether a text begins after this byte, if it does so before it or hasn't begun: at a line, after a key or a quote.
abbrev pub begins_after : Bool → ℕ → Bool
begins_after before c = c == line_feed || (c == close_bracket || (c == quote || (before && c == space)))

-- ---- what is said

abbrev pub second_byte : Text → Option ℕ
second_byte (c ∷ d ∷ s) = Some d
second_byte _ = None

abbrev pub first_byte : Text → Option ℕ
first_byte [] = None
first_byte (c ∷ s) = Some c

-- the last byte of the number of the control character at the front, if one is there
abbrev pub control_of : Text → Option ℕ
control_of s =
    if is_later_control s then second_byte s
    else if is_control_byte s then first_byte s
    else None

-- A letter of a script that writes no spaces may follow: then a zero width space belongs to spelling.
abbrev pub begins_spaceless : Text → Bool
begins_spaceless s = begins_with 0xE0 s || begins_with 0xE1 s

abbrev pub zero_width_name : Text → Option Text
zero_width_name s =
    if is_zero_width_space s && not (begins_spaceless (drop 3 s)) then Some (codes "U+200B ZERO WIDTH SPACE")
    else if is_word_joiner s then Some (codes "U+2060 WORD JOINER")
    else if is_mark s then Some (codes "U+FEFF ZERO WIDTH NO-BREAK SPACE")
    else None

-- the name of a character without width that is inside of a text, if one is at the front
abbrev pub unseen_name : Bool → Text → Option Text
unseen_name begins s = if begins || is_end (drop 3 s) then None else zero_width_name s

-- Nothing ends the mark of direction at the front, and no more are open before it than Unicode allows.
abbrev pub is_left_open : ℕ → Text → Bool
is_left_open d s = nat_lt d deepest && not (is_ended 0 (drop 3 s))

-- what a mark of direction at the front does, of which this many are open before it
abbrev pub direction_words : Bool → ℕ → Text → Option Text
direction_words begins d s =
    if turns s then Some (codes "this mark turns round what follows")
    else if opens s && (not begins && is_left_open d s) then Some (codes "nothing ends this mark of direction")
    else if closes s && d == 0 then Some (codes "this mark of direction ends nothing")
    else None

-- by the last byte of its number
abbrev pub control_remark : ℕ → Remark
control_remark c =
    remark warning (codes "control-character")
    (codes "U+00" ++ (digit_glyph true (c / 16) ∷ digit_glyph true (c % 16) ∷ codes " is a control character"))

abbrev pub lost_remark : Remark
lost_remark = remark warning (codes "replacement-character") (codes "U+FFFD stands for a character that was lost")

abbrev pub unseen_remark : Text → Remark
unseen_remark name = remark warning (codes "zero-width") (name ++ codes " isn't seen")

abbrev pub direction_remark : Text → Remark
direction_remark words = remark warning (codes "unbalanced-direction") words

-- of the character at the front: of a control character, or else a lost one, one without width, or a mark of direction
abbrev pub letter_at : Bool → ℕ → Text → Option Remark
letter_at begins d s =
    option_or (option_map control_remark (control_of s))
    (if is_lost s then Some lost_remark
    else option_or (option_map unseen_remark (unseen_name begins s)) (option_map direction_remark (direction_words begins d s)))

-- ---- all

abbrev pub placed : ℕ → Option Remark → List Remark
placed n None = []
placed n (Some r) = record r { inside = n } ∷ []

-- of an end of a text that this many bytes stand before
abbrev pub letters_from : ℕ → Bool → ℕ → Text → List Remark
letters_from n begins d [] = []
letters_from n begins d (c ∷ s) =
    placed n (letter_at begins d (c ∷ s)) ++ letters_from (suc n) (begins_after begins c) (depth_after d (c ∷ s)) s

-- of a text of the source
abbrev pub letters : Text → List Remark
letters s = letters_from 0 true 0 s
