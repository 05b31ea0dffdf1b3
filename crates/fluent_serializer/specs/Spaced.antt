-- What is written of entries with one blank line at most between two of them.
use Rattle.std.specs.Prelude.{Bool, true, false, ◌&&◌, ◌||◌, List, [], ◌∷◌, ◌++◌, drop}
use Rattle.fluent_grammar.specs.Words.{Text, number_sign}
use Rattle.fluent_grammar.specs.Tree as t
use Rattle.fluent_grammar.specs.Written.{Sign, comment_signs, gap_signs, laid_out, message_signs, term_signs}

-- a comment that stands by itself
abbrev pub is_free : t.Entry → Bool
is_free (t.message m) = false
is_free (t.term m) = false
is_free (t.comment c) = true
is_free (t.group_comment c) = true
is_free (t.resource_comment c) = true
is_free (t.junk s) = false

-- an entry without blank lines around it; of junk nothing is written
abbrev pub alone_signs : t.Entry → List Sign
alone_signs (t.message m) = message_signs m
alone_signs (t.term m) = term_signs m
alone_signs (t.comment c) = comment_signs (number_sign ∷ []) c
alone_signs (t.group_comment c) = comment_signs (number_sign ∷ number_sign ∷ []) c
alone_signs (t.resource_comment c) = comment_signs (number_sign ∷ number_sign ∷ number_sign ∷ []) c
alone_signs (t.junk s) = []

-- the first of some marks, if there is one
abbrev pub first_mark : List Bool → Bool
first_mark [] = false
first_mark (apart ∷ more) = apart

-- Whether a blank line stands before an entry: only after another, where it is marked, or one of the two is a comment that stands by itself.
abbrev pub is_parted : Bool → Bool → Bool → t.Entry → Bool
is_parted after free apart e = after && (free || (is_free e || apart))

-- The entries, of which some are marked to stand apart. `after` says whether an entry stands right before the first, and `free` whether
-- it is a comment that stands by itself.
abbrev pub spaced_signs : Bool → Bool → List Bool → List t.Entry → List Sign
spaced_signs after free marks [] = []
spaced_signs after free marks (e ∷ es) = gap_signs (is_parted after free (first_mark marks) e) ++ (alone_signs e ++ spaced_signs true (is_free e) (drop 1 marks) es)

-- the written text of a tree with a blank line before the entries that are marked, and around comments that stand by themselves
abbrev pub spaced : List Bool → List t.Entry → Text
spaced marks es = laid_out false (spaced_signs false false marks es)
