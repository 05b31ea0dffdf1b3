-- The first, the fourth and the fifth shape on worked sources, by computing. Above each row stands the source where `codes` can't hold it;
-- what is shaped is told from the rule, by hand.
use Rattle.std.specs.Prelude.{◌≡◌, Bool, true, false, ◌∷◌, ◌++◌, codes}
use Rattle.std.proofs.Common.{refl}
use Rattle.fluent_grammar.specs.Words.{Text}
use Rattle.fluent_grammar.specs.Tiling.{tree}
use Rattle.fluent_grammar.proofs.Computing.{computing}
use Rattle.fluent_tidy_laws.specs.Shapes.{tree_shaped}

-- whether the tree of a source has one of these shapes
abbrev shaped : Text → Bool
shaped source = tree_shaped (tree source)

-- ---- a pattern of many lines, or with a select, that begins with a dot, an opening bracket or an asterisk

dot_and_lines : shaped (codes "a = .x\n    y\n") ≡ true
unfolding computing
dot_and_lines = refl

bracket_and_lines : shaped (codes "a = [x\n    y\n") ≡ true
unfolding computing
bracket_and_lines = refl

asterisk_and_lines : shaped (codes "a = *x\n    y\n") ≡ true
unfolding computing
asterisk_and_lines = refl

asterisk_and_select : shaped (codes "a = *{1->\n*[b]c\n}\n") ≡ true
unfolding computing
asterisk_and_select = refl

dot_and_nested_select : shaped (codes "a = .{{1->\n*[b]c\n}}\n") ≡ true
unfolding computing
dot_and_nested_select = refl

dot_on_one_line : shaped (codes "a = .x\n") ≡ false
unfolding computing
dot_on_one_line = refl

dot_and_placeable : shaped (codes "a = .{1}\n") ≡ false
unfolding computing
dot_and_placeable = refl

dot_within : shaped (codes "a = x.\n    y\n") ≡ false
unfolding computing
dot_within = refl

dot_in_a_literal : shaped (codes "a = {\".\"}\n    y\n") ≡ false
unfolding computing
dot_in_a_literal = refl

dot_and_select_in_an_argument : shaped (codes "a = .{F({1->\n*[b]c\n})}\n") ≡ false
unfolding computing
dot_and_select_in_an_argument = refl

dot_in_a_variant : shaped (codes "a = {1->\n*[b].x\n y\n}\n") ≡ true
unfolding computing
dot_in_a_variant = refl

dot_in_an_attribute : shaped (codes "a =\n .b = .x\n  y\n") ≡ true
unfolding computing
dot_in_an_attribute = refl

dot_in_a_term : shaped (codes "-a = .x\n y\n") ≡ true
unfolding computing
dot_in_a_term = refl

-- ---- a comment without lines, or with a nonempty line of white space alone

sign_alone : shaped (codes "#") ≡ true
unfolding computing
sign_alone = refl

sign_and_line_end : shaped (codes "#\n") ≡ false
unfolding computing
sign_and_line_end = refl

sign_and_space : shaped (codes "# \n") ≡ false
unfolding computing
sign_and_space = refl

sign_and_two_spaces : shaped (codes "#  \n") ≡ true
unfolding computing
sign_and_two_spaces = refl

-- # \t\n
sign_and_tab : shaped (codes "# " ++ 9 ∷ codes "\n") ≡ true
unfolding computing
sign_and_tab = refl

-- # U+3000\n
sign_and_ideographic_space : shaped (codes "# " ++ 227 ∷ 128 ∷ 128 ∷ codes "\n") ≡ true
unfolding computing
sign_and_ideographic_space = refl

white_line_of_a_group_comment : shaped (codes "## a\n##  \n## b\n") ≡ true
unfolding computing
white_line_of_a_group_comment = refl

spaces_around_a_word : shaped (codes "#  a \n") ≡ false
unfolding computing
spaces_around_a_word = refl

white_line_above_a_message : shaped (codes "#  \na = b\n") ≡ true
unfolding computing
white_line_above_a_message = refl

-- ---- a pattern whose last text is trimmed to nothing

-- a = b\n    \t\n
tab_on_the_last_line : shaped (codes "a = b\n    " ++ 9 ∷ codes "\n") ≡ true
unfolding computing
tab_on_the_last_line = refl

-- a = {1}\t\n
tab_behind_a_placeable : shaped (codes "a = {1}" ++ 9 ∷ codes "\n") ≡ true
unfolding computing
tab_behind_a_placeable = refl

-- a = \t\n
tab_alone : shaped (codes "a = " ++ 9 ∷ codes "\n") ≡ true
unfolding computing
tab_alone = refl

spaces_behind_a_placeable : shaped (codes "a = {1}  \n") ≡ false
unfolding computing
spaces_behind_a_placeable = refl

-- a = b\t\n
tab_behind_a_text : shaped (codes "a = b" ++ 9 ∷ codes "\n") ≡ false
unfolding computing
tab_behind_a_text = refl

-- a = \t{1}\n
tab_before_a_placeable : shaped (codes "a = " ++ 9 ∷ codes "{1}\n") ≡ false
unfolding computing
tab_before_a_placeable = refl

-- a = {1->\n*[b]\t\n}\n
tab_in_a_variant : shaped (codes "a = {1->\n*[b]" ++ 9 ∷ codes "\n}\n") ≡ true
unfolding computing
tab_in_a_variant = refl
