-- Worked rows: wide and masked characters, and long lines.
use Rattle.std.specs.Prelude.{◌≡◌, ℕ, ◌==◌, nat_lt, if◌then◌else◌, [], ◌∷◌, ◌++◌, replicate, Some, None, codes}
use Rattle.std.proofs.Common.{refl}
use Rattle.fluent_grammar.specs.Words.{Text}
use Rattle.lint_findings.specs.Findings.{findings}
use Rattle.lint_findings.specs.Finding.{error}
use Rattle.lint_findings.specs.ShownLine.{shown_line}
use Rattle.lint_findings.specs.Report.{report_text}
use Rattle.lint_findings.proofs.Computing.{computing_findings, file, options_with}

-- U+0301 has no width, and characters from U+2E80 on have two columns
width : ℕ → ℕ
width c = if c == 0x301 then 0 else if nat_lt c 0x2E80 then 1 else 2

Shows : Text → Text → Type 0
Shows source written = report_text width (findings (options_with []) (file (codes "a.ftl") source ∷ [])) ≡ written

-- ---- U+65E5 and U+672C

wide_characters : Shows (codes "a = " ++ (0xE6 ∷ 0x97 ∷ 0xA5 ∷ 0xE6 ∷ 0x9C ∷ 0xAC ∷ codes "{ -b }\n"))
    (codes "a.ftl:1:9: error: a: there is no term `-b` [unknown-term]\n1 | a = "
    ++ (0xE6 ∷ 0x97 ∷ 0xA5 ∷ 0xE6 ∷ 0x9C ∷ 0xAC ∷ codes "{ -b }\n  |           ^\n"))
unfolding computing_findings file width Shows
wide_characters = refl

a_combining_character : Shows (codes "a = e" ++ (0xCC ∷ 0x81 ∷ codes "{ -b }\n"))
    (codes "a.ftl:1:9: error: a: there is no term `-b` [unknown-term]\n1 | a = e" ++ (0xCC ∷ 0x81 ∷ codes "{ -b }\n  |        ^\n"))
unfolding computing_findings file width Shows
a_combining_character = refl

-- ---- U+001B is masked in the line

a_control_character : Shows (codes "a = " ++ (27 ∷ codes "[31m{ -b }\n"))
    (codes "a.ftl:1:12: error: a: there is no term `-b` [unknown-term]\n1 | a = " ++ (0xEF ∷ 0xBF ∷ 0xBD ∷ (codes "[31m{ -b }\n  |             ^\n"
    ++ (codes "a.ftl:1:5: warning: a: U+001B is a control character [control-character]\n1 | a = " ++ (0xEF ∷ 0xBF ∷ 0xBD ∷ codes "[31m{ -b }\n  |     ^\n")))))
unfolding computing_findings file width Shows
a_control_character = refl

-- U+202E is masked in the line and in the sentence
a_direction_mark : Shows (0xE2 ∷ 0x80 ∷ 0xAE ∷ codes "\n")
    (codes "a.ftl:1:1: error: expected a message, a term or a comment, found `" ++ (0xEF ∷ 0xBF ∷ 0xBD ∷ (codes "` [syntax]\n1 | " ++ (0xEF ∷ 0xBF ∷ 0xBD ∷ codes "\n  | ^\n"))))
unfolding computing_findings file width Shows
a_direction_mark = refl

-- a name that would clear the line and move the cursor
a_file_name : report_text width (findings (options_with []) (file (27 ∷ codes "[2Ka.ftl\r") (codes "a = { -b }\n") ∷ []))
    ≡ 0xEF ∷ 0xBF ∷ 0xBD ∷ (codes "[2Ka.ftl" ++ (0xEF ∷ 0xBF ∷ 0xBD ∷ codes ":1:7: error: a: there is no term `-b` [unknown-term]\n1 | a = { -b }\n  |       ^\n"))
unfolding computing_findings file width
a_file_name = refl

-- U+202E in a hint
a_hint : shown_line width (record { name = codes "a.ftl"; source = codes "a" })
    (record { offset = 0; code = codes "syntax"; severity = error; entry = None; text = codes "b"; hint = Some (codes "c" ++ (0xE2 ∷ 0x80 ∷ 0xAE ∷ [])) })
    ≡ codes "1 | a\n  | ^\n  = c" ++ (0xEF ∷ 0xBF ∷ 0xBD ∷ codes "\n")
unfolding computing_findings width
a_hint = refl

-- ---- offsets within a character and within a line end

shows_at : Text → ℕ → Text
shows_at source offset = shown_line width (record { name = codes "a.ftl"; source = source })
    (record { offset = offset; code = codes "syntax"; severity = error; entry = None; text = codes "b"; hint = None })

-- after the first byte of U+00E9, as after the character
within_a_character : shows_at (195 ∷ 169 ∷ codes "z") 1 ≡ shows_at (195 ∷ 169 ∷ codes "z") 2
unfolding computing_findings width shows_at
within_a_character = refl

within_a_line_end : shows_at (codes "ab\r\nc") 3 ≡ codes "1 | ab\n  |   ^\n"
unfolding computing_findings width shows_at
within_a_line_end = refl

after_the_last_line_end : shows_at (codes "ab\r\n") 4 ≡ codes "2 | \n  | ^\n"
unfolding computing_findings width shows_at
after_the_last_line_end = refl

-- ---- long lines

xs : ℕ → Text
xs n = replicate n 120

spaces : ℕ → Text
spaces n = replicate n 32

cut_before : Shows (codes "a = " ++ (xs 200 ++ codes "{ -b }\n"))
    (codes "a.ftl:1:207: error: a: there is no term `-b` [unknown-term]\n1 | .." ++ (xs 114 ++ (codes "{ -b }\n  | " ++ (spaces 118 ++ codes "^\n"))))
unfolding computing_findings file width xs spaces Shows
cut_before = refl

cut_before_and_after : Shows (codes "a = " ++ (xs 100 ++ (codes "{ -b }" ++ (xs 100 ++ codes "\n"))))
    (codes "a.ftl:1:107: error: a: there is no term `-b` [unknown-term]\n1 | .." ++ (xs 58 ++ (codes "{ -b }" ++ (xs 56 ++ (codes "..\n  | " ++ (spaces 62 ++ codes "^\n"))))))
unfolding computing_findings file width xs spaces Shows
cut_before_and_after = refl

cut_after : Shows (codes "a = { -b }" ++ (xs 200 ++ codes "\n"))
    (codes "a.ftl:1:7: error: a: there is no term `-b` [unknown-term]\n1 | a = { -b }" ++ (xs 110 ++ codes "..\n  |       ^\n"))
unfolding computing_findings file width xs spaces Shows
cut_after = refl

not_cut : Shows (codes "a = { -b }" ++ (xs 110 ++ codes "\n"))
    (codes "a.ftl:1:7: error: a: there is no term `-b` [unknown-term]\n1 | a = { -b }" ++ (xs 110 ++ codes "\n  |       ^\n"))
unfolding computing_findings file width xs spaces Shows
not_cut = refl
