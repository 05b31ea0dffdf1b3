-- Tidy texts of worked sources, by computing.
use Rattle.std.proofs.Common.{◌≡◌, [], ◌∷◌, refl}
use Rattle.std.specs.Prelude.{codes}
use Rattle.fluent_grammar.proofs.Computing.{computing}
use Rattle.fluent_parser.specs.Starts.{starts, starts_from}
use Rattle.fluent_tidy.specs.TidyText.{laid_anew, plain}

-- the empty text
empty : laid_anew (plain (codes "")) ≡ codes ""
unfolding computing starts_from
empty = refl

-- comments alone: one blank line between two
comments_alone : laid_anew (plain (codes "# a\n\n\n\n# b")) ≡ codes "# a\n\n# b\n"
unfolding computing starts_from
comments_alone = refl

comments_alone_stays : laid_anew (codes "# a\n\n# b\n") ≡ codes "# a\n\n# b\n"
unfolding computing starts_from
comments_alone_stays = refl

-- a comment that stands by itself, before a message
group : laid_anew (plain (codes "## G\na = 1\n")) ≡ codes "## G\n\na = 1\n"
unfolding computing starts_from
group = refl

group_stays : laid_anew (codes "## G\n\na = 1\n") ≡ codes "## G\n\na = 1\n"
unfolding computing starts_from
group_stays = refl

-- groups stay, with one blank line between
groups : laid_anew (plain (codes "a = 1\n\n\n\nb = 2\nc = 3\n")) ≡ codes "a = 1\n\nb = 2\nc = 3\n"
unfolding computing starts_from
groups = refl

groups_stays : laid_anew (codes "a = 1\n\nb = 2\nc = 3\n") ≡ codes "a = 1\n\nb = 2\nc = 3\n"
unfolding computing starts_from
groups_stays = refl

-- a comment right above a message stays there
own : laid_anew (plain (codes "a=1\n\n# c\nb=2\n")) ≡ codes "a = 1\n\n# c\nb = 2\n"
unfolding computing starts_from
own = refl

own_stays : laid_anew (codes "a = 1\n\n# c\nb = 2\n") ≡ codes "a = 1\n\n# c\nb = 2\n"
unfolding computing starts_from
own_stays = refl

-- a comment of one sign before a blank line stands by itself
free : laid_anew (plain (codes "a=1\n# c\n\nb=2\n")) ≡ codes "a = 1\n\n# c\n\nb = 2\n"
unfolding computing starts_from
free = refl

free_stays : laid_anew (codes "a = 1\n\n# c\n\nb = 2\n") ≡ codes "a = 1\n\n# c\n\nb = 2\n"
unfolding computing starts_from
free_stays = refl

-- comments of two levels
levels : laid_anew (plain (codes "# a\n## b\n### c\n")) ≡ codes "# a\n\n## b\n\n### c\n"
unfolding computing starts_from
levels = refl

levels_stays : laid_anew (codes "# a\n\n## b\n\n### c\n") ≡ codes "# a\n\n## b\n\n### c\n"
unfolding computing starts_from
levels_stays = refl

-- CR LF
returns : laid_anew (plain (codes "a = 1\r\n\r\nb = 2\r\n")) ≡ codes "a = 1\n\nb = 2\n"
unfolding computing starts_from
returns = refl

returns_stays : laid_anew (codes "a = 1\n\nb = 2\n") ≡ codes "a = 1\n\nb = 2\n"
unfolding computing starts_from
returns_stays = refl

-- a blank line of spaces
white : laid_anew (plain (codes "a = 1\n   \nb = 2\n")) ≡ codes "a = 1\n\nb = 2\n"
unfolding computing starts_from
white = refl

white_stays : laid_anew (codes "a = 1\n\nb = 2\n") ≡ codes "a = 1\n\nb = 2\n"
unfolding computing starts_from
white_stays = refl

-- a last line without a line feed, and blank lines at both ends
unended : laid_anew (plain (codes "\n\na = b\n\nc = d\n\n\n")) ≡ codes "a = b\n\nc = d\n"
unfolding computing starts_from
unended = refl

unended_stays : laid_anew (codes "a = b\n\nc = d\n") ≡ codes "a = b\n\nc = d\n"
unfolding computing starts_from
unended_stays = refl

-- a blank line within a pattern stays its own
within : laid_anew (plain (codes "a =\n    b\n\n    c\nd = e")) ≡ codes "a =\n    b\n\n    c\nd = e\n"
unfolding computing starts_from
within = refl

within_stays : laid_anew (codes "a =\n    b\n\n    c\nd = e\n") ≡ codes "a =\n    b\n\n    c\nd = e\n"
unfolding computing starts_from
within_stays = refl

-- what begins a line within braces begins no entry
braces : laid_anew (plain (codes "a = {\n\nb\n}\nc = d\n")) ≡ codes "a = { b }\nc = d\n"
unfolding computing starts_from
braces = refl

braces_stays : laid_anew (codes "a = { b }\nc = d\n") ≡ codes "a = { b }\nc = d\n"
unfolding computing starts_from
braces_stays = refl

-- a byte order mark
marked : laid_anew (plain (239 ∷ 187 ∷ 191 ∷ codes "a = 1\n")) ≡ codes "a = 1\n"
unfolding computing starts_from
marked = refl

-- a carriage return alone stays where it is
return_alone : plain (codes "a = \r1\r\n\n") ≡ codes "a = \r1\n\n"
return_alone = refl

-- spaces of a blank line are left out before CR LF, and stay before LF and at the end; others stay
blank_spaces : plain (codes "  \r\na =\r\n    x\r\n      \r\n    y  \r\n   \n\r  \r\n  ") ≡ codes "\na =\n    x\n\n    y  \n   \n\r  \n  "
blank_spaces = refl

-- so a blank line of a pattern has no spaces after tidying if it had none in the text before
blank_within : laid_anew (plain (codes "a =\r\n    x\r\n      \r\n    y\r\n")) ≡ codes "a =\n    x\n\n    y\n"
unfolding computing starts_from
blank_within = refl

blank_within_stays : laid_anew (codes "a =\n    x\n\n    y\n") ≡ codes "a =\n    x\n\n    y\n"
unfolding computing starts_from
blank_within_stays = refl

-- where the parts begin: an own comment is one
parts : starts (codes "\na = 1\n\n# b\nb = 2\n") ≡ 1 ∷ 8 ∷ 12 ∷ []
unfolding computing starts_from
parts = refl

-- junk is a part, too
junk : starts (codes "a\nb = 2\n") ≡ 0 ∷ 2 ∷ []
unfolding computing starts_from
junk = refl
