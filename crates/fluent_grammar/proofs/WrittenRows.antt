-- The written text of trees that were read, checked by computing. Above each: the source, and what is written.
use Rattle.std.specs.Prelude.{◌≡◌, [], ◌∷◌, refl, true, codes}
use Rattle.fluent_grammar.specs.Tiling.{tree}
use Rattle.fluent_grammar.specs.Written.{written, written_with}
use Rattle.fluent_grammar.proofs.Computing.{computing}

-- \nkey1 = Value 1\n\ng@Rb@ge = #2y ds\n\nkey2 = Value 2\n\n
-- key1 = Value 1\nkey2 = Value 2\n
junk_is_left_out : written (tree (10 ∷ 107 ∷ 101 ∷ 121 ∷ 49 ∷ 32 ∷ 61 ∷ 32 ∷ 86 ∷ 97 ∷ 108 ∷ 117 ∷ 101 ∷ 32 ∷ 49 ∷ 10 ∷ 10 ∷ 103 ∷ 64 ∷ 82 ∷ 98 ∷ 64 ∷ 103 ∷ 101 ∷ 32 ∷ 61 ∷ 32 ∷ 35 ∷ 50 ∷ 121 ∷ 32 ∷ 100 ∷ 115 ∷ 10 ∷ 10 ∷ 107 ∷ 101 ∷ 121 ∷ 50 ∷ 32 ∷ 61 ∷ 32 ∷ 86 ∷ 97 ∷ 108 ∷ 117 ∷ 101 ∷ 32 ∷ 50 ∷ 10 ∷ 10 ∷ [])) ≡ 107 ∷ 101 ∷ 121 ∷ 49 ∷ 32 ∷ 61 ∷ 32 ∷ 86 ∷ 97 ∷ 108 ∷ 117 ∷ 101 ∷ 32 ∷ 49 ∷ 10 ∷ 107 ∷ 101 ∷ 121 ∷ 50 ∷ 32 ∷ 61 ∷ 32 ∷ 86 ∷ 97 ∷ 108 ∷ 117 ∷ 101 ∷ 32 ∷ 50 ∷ 10 ∷ []
unfolding computing
junk_is_left_out = refl

-- \nkey1 = Value 1\n\ng@Rb@ge = #2y ds\n\nkey2 = Value 2\n\n
-- key1 = Value 1\ng@Rb@ge = #2y ds\n\nkey2 = Value 2\n
junk_is_written_raw : written_with true (tree (10 ∷ 107 ∷ 101 ∷ 121 ∷ 49 ∷ 32 ∷ 61 ∷ 32 ∷ 86 ∷ 97 ∷ 108 ∷ 117 ∷ 101 ∷ 32 ∷ 49 ∷ 10 ∷ 10 ∷ 103 ∷ 64 ∷ 82 ∷ 98 ∷ 64 ∷ 103 ∷ 101 ∷ 32 ∷ 61 ∷ 32 ∷ 35 ∷ 50 ∷ 121 ∷ 32 ∷ 100 ∷ 115 ∷ 10 ∷ 10 ∷ 107 ∷ 101 ∷ 121 ∷ 50 ∷ 32 ∷ 61 ∷ 32 ∷ 86 ∷ 97 ∷ 108 ∷ 117 ∷ 101 ∷ 32 ∷ 50 ∷ 10 ∷ 10 ∷ [])) ≡ 107 ∷ 101 ∷ 121 ∷ 49 ∷ 32 ∷ 61 ∷ 32 ∷ 86 ∷ 97 ∷ 108 ∷ 117 ∷ 101 ∷ 32 ∷ 49 ∷ 10 ∷ 103 ∷ 64 ∷ 82 ∷ 98 ∷ 64 ∷ 103 ∷ 101 ∷ 32 ∷ 61 ∷ 32 ∷ 35 ∷ 50 ∷ 121 ∷ 32 ∷ 100 ∷ 115 ∷ 10 ∷ 10 ∷ 107 ∷ 101 ∷ 121 ∷ 50 ∷ 32 ∷ 61 ∷ 32 ∷ 86 ∷ 97 ∷ 108 ∷ 117 ∷ 101 ∷ 32 ∷ 50 ∷ 10 ∷ []
unfolding computing
junk_is_written_raw = refl

-- # c\n\na = b\n
-- # c\n\na = b\n
a_comment_apart : written (tree (35 ∷ 32 ∷ 99 ∷ 10 ∷ 10 ∷ 97 ∷ 32 ∷ 61 ∷ 32 ∷ 98 ∷ 10 ∷ [])) ≡ 35 ∷ 32 ∷ 99 ∷ 10 ∷ 10 ∷ 97 ∷ 32 ∷ 61 ∷ 32 ∷ 98 ∷ 10 ∷ []
unfolding computing
a_comment_apart = refl

-- a = { -b( ) }\n
-- a = { -b() }\n
empty_arguments : written (tree (97 ∷ 32 ∷ 61 ∷ 32 ∷ 123 ∷ 32 ∷ 45 ∷ 98 ∷ 40 ∷ 32 ∷ 41 ∷ 32 ∷ 125 ∷ 10 ∷ [])) ≡ 97 ∷ 32 ∷ 61 ∷ 32 ∷ 123 ∷ 32 ∷ 45 ∷ 98 ∷ 40 ∷ 41 ∷ 32 ∷ 125 ∷ 10 ∷ []
unfolding computing
empty_arguments = refl

-- m={$n ->\n[a]x\n*[b]y\n}
-- m =\n    { $n ->\n        [a] x\n       *[b] y\n    }\n
a_select_on_its_lines : written (tree (109 ∷ 61 ∷ 123 ∷ 36 ∷ 110 ∷ 32 ∷ 45 ∷ 62 ∷ 10 ∷ 91 ∷ 97 ∷ 93 ∷ 120 ∷ 10 ∷ 42 ∷ 91 ∷ 98 ∷ 93 ∷ 121 ∷ 10 ∷ 125 ∷ [])) ≡ 109 ∷ 32 ∷ 61 ∷ 10 ∷ 32 ∷ 32 ∷ 32 ∷ 32 ∷ 123 ∷ 32 ∷ 36 ∷ 110 ∷ 32 ∷ 45 ∷ 62 ∷ 10 ∷ 32 ∷ 32 ∷ 32 ∷ 32 ∷ 32 ∷ 32 ∷ 32 ∷ 32 ∷ 91 ∷ 97 ∷ 93 ∷ 32 ∷ 120 ∷ 10 ∷ 32 ∷ 32 ∷ 32 ∷ 32 ∷ 32 ∷ 32 ∷ 32 ∷ 42 ∷ 91 ∷ 98 ∷ 93 ∷ 32 ∷ 121 ∷ 10 ∷ 32 ∷ 32 ∷ 32 ∷ 32 ∷ 125 ∷ 10 ∷ []
unfolding computing
a_select_on_its_lines = refl

-- \nunnormalized-message=This message has\n  abnormal spacing and indentation
-- unnormalized-message =\n    This message has\n    abnormal spacing and indentation\n
normal_spacing : written (tree (10 ∷ 117 ∷ 110 ∷ 110 ∷ 111 ∷ 114 ∷ 109 ∷ 97 ∷ 108 ∷ 105 ∷ 122 ∷ 101 ∷ 100 ∷ 45 ∷ 109 ∷ 101 ∷ 115 ∷ 115 ∷ 97 ∷ 103 ∷ 101 ∷ 61 ∷ 84 ∷ 104 ∷ 105 ∷ 115 ∷ 32 ∷ 109 ∷ 101 ∷ 115 ∷ 115 ∷ 97 ∷ 103 ∷ 101 ∷ 32 ∷ 104 ∷ 97 ∷ 115 ∷ 10 ∷ 32 ∷ 32 ∷ 97 ∷ 98 ∷ 110 ∷ 111 ∷ 114 ∷ 109 ∷ 97 ∷ 108 ∷ 32 ∷ 115 ∷ 112 ∷ 97 ∷ 99 ∷ 105 ∷ 110 ∷ 103 ∷ 32 ∷ 97 ∷ 110 ∷ 100 ∷ 32 ∷ 105 ∷ 110 ∷ 100 ∷ 101 ∷ 110 ∷ 116 ∷ 97 ∷ 116 ∷ 105 ∷ 111 ∷ 110 ∷ [])) ≡ 117 ∷ 110 ∷ 110 ∷ 111 ∷ 114 ∷ 109 ∷ 97 ∷ 108 ∷ 105 ∷ 122 ∷ 101 ∷ 100 ∷ 45 ∷ 109 ∷ 101 ∷ 115 ∷ 115 ∷ 97 ∷ 103 ∷ 101 ∷ 32 ∷ 61 ∷ 10 ∷ 32 ∷ 32 ∷ 32 ∷ 32 ∷ 84 ∷ 104 ∷ 105 ∷ 115 ∷ 32 ∷ 109 ∷ 101 ∷ 115 ∷ 115 ∷ 97 ∷ 103 ∷ 101 ∷ 32 ∷ 104 ∷ 97 ∷ 115 ∷ 10 ∷ 32 ∷ 32 ∷ 32 ∷ 32 ∷ 97 ∷ 98 ∷ 110 ∷ 111 ∷ 114 ∷ 109 ∷ 97 ∷ 108 ∷ 32 ∷ 115 ∷ 112 ∷ 97 ∷ 99 ∷ 105 ∷ 110 ∷ 103 ∷ 32 ∷ 97 ∷ 110 ∷ 100 ∷ 32 ∷ 105 ∷ 110 ∷ 100 ∷ 101 ∷ 110 ∷ 116 ∷ 97 ∷ 116 ∷ 105 ∷ 111 ∷ 110 ∷ 10 ∷ []
unfolding computing
normal_spacing = refl

-- a =\n{ $x }\n
-- a = { $x }\n
a_placeable_at_column_zero : written (tree (97 ∷ 32 ∷ 61 ∷ 10 ∷ 123 ∷ 32 ∷ 36 ∷ 120 ∷ 32 ∷ 125 ∷ 10 ∷ [])) ≡ 97 ∷ 32 ∷ 61 ∷ 32 ∷ 123 ∷ 32 ∷ 36 ∷ 120 ∷ 32 ∷ 125 ∷ 10 ∷ []
unfolding computing
a_placeable_at_column_zero = refl

-- a = .x\n    y\n
-- a = .x\n    y\n
a_dot_first : written (tree (97 ∷ 32 ∷ 61 ∷ 32 ∷ 46 ∷ 120 ∷ 10 ∷ 32 ∷ 32 ∷ 32 ∷ 32 ∷ 121 ∷ 10 ∷ [])) ≡ 97 ∷ 32 ∷ 61 ∷ 32 ∷ 46 ∷ 120 ∷ 10 ∷ 32 ∷ 32 ∷ 32 ∷ 32 ∷ 121 ∷ 10 ∷ []
unfolding computing
a_dot_first = refl

-- a = {{{{"x"}}}}
-- a = {{ {{"x"}} }}\n
nested_placeables : written (tree (97 ∷ 32 ∷ 61 ∷ 32 ∷ 123 ∷ 123 ∷ 123 ∷ 123 ∷ 34 ∷ 120 ∷ 34 ∷ 125 ∷ 125 ∷ 125 ∷ 125 ∷ [])) ≡ 97 ∷ 32 ∷ 61 ∷ 32 ∷ 123 ∷ 123 ∷ 32 ∷ 123 ∷ 123 ∷ 34 ∷ 120 ∷ 34 ∷ 125 ∷ 125 ∷ 32 ∷ 125 ∷ 125 ∷ 10 ∷ []
unfolding computing
nested_placeables = refl

-- a={{1->\n*[b]c\n}}
-- a =\n    {{ 1 ->\n       *[b] c\n    }}\n
a_nested_select : written (tree (97 ∷ 61 ∷ 123 ∷ 123 ∷ 49 ∷ 45 ∷ 62 ∷ 10 ∷ 42 ∷ 91 ∷ 98 ∷ 93 ∷ 99 ∷ 10 ∷ 125 ∷ 125 ∷ [])) ≡ 97 ∷ 32 ∷ 61 ∷ 10 ∷ 32 ∷ 32 ∷ 32 ∷ 32 ∷ 123 ∷ 123 ∷ 32 ∷ 49 ∷ 32 ∷ 45 ∷ 62 ∷ 10 ∷ 32 ∷ 32 ∷ 32 ∷ 32 ∷ 32 ∷ 32 ∷ 32 ∷ 42 ∷ 91 ∷ 98 ∷ 93 ∷ 32 ∷ 99 ∷ 10 ∷ 32 ∷ 32 ∷ 32 ∷ 32 ∷ 125 ∷ 125 ∷ 10 ∷ []
unfolding computing
a_nested_select = refl

-- a={F({1->\n*[b]c\n})}
-- a = { F({1 ->\n       *[b] c\n    }) }\n
a_select_as_argument : written (tree (97 ∷ 61 ∷ 123 ∷ 70 ∷ 40 ∷ 123 ∷ 49 ∷ 45 ∷ 62 ∷ 10 ∷ 42 ∷ 91 ∷ 98 ∷ 93 ∷ 99 ∷ 10 ∷ 125 ∷ 41 ∷ 125 ∷ [])) ≡ 97 ∷ 32 ∷ 61 ∷ 32 ∷ 123 ∷ 32 ∷ 70 ∷ 40 ∷ 123 ∷ 49 ∷ 32 ∷ 45 ∷ 62 ∷ 10 ∷ 32 ∷ 32 ∷ 32 ∷ 32 ∷ 32 ∷ 32 ∷ 32 ∷ 42 ∷ 91 ∷ 98 ∷ 93 ∷ 32 ∷ 99 ∷ 10 ∷ 32 ∷ 32 ∷ 32 ∷ 32 ∷ 125 ∷ 41 ∷ 32 ∷ 125 ∷ 10 ∷ []
unfolding computing
a_select_as_argument = refl

-- a = b\n\n c
-- a =\n    b\n\n    c\n
a_blank_line_takes_no_indent : written (tree (97 ∷ 32 ∷ 61 ∷ 32 ∷ 98 ∷ 10 ∷ 10 ∷ 32 ∷ 99 ∷ [])) ≡ 97 ∷ 32 ∷ 61 ∷ 10 ∷ 32 ∷ 32 ∷ 32 ∷ 32 ∷ 98 ∷ 10 ∷ 10 ∷ 32 ∷ 32 ∷ 32 ∷ 32 ∷ 99 ∷ 10 ∷ []
unfolding computing
a_blank_line_takes_no_indent = refl

-- brand = Firefox\n    .gender = masculine\nupd = { brand.gender ->\n    [masculine] He\n   *[other] It\n }\n
a_messages_attribute_as_selector : written (tree (codes "brand = Firefox\n    .gender = masculine\nupd = { brand.gender ->\n    [masculine] He\n   *[other] It\n }\n"))
    ≡ codes "brand = Firefox\n    .gender = masculine\nupd =\n    { brand.gender ->\n        [masculine] He\n       *[other] It\n    }\n"
unfolding computing
a_messages_attribute_as_selector = refl
