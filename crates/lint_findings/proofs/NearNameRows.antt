-- Worked rows: the nearest name.
use Rattle.std.specs.Prelude.{◌≡◌, false, [], ◌∷◌, ◌++◌, List, Option, Some, None, codes}
use Rattle.std.proofs.Common.{refl}
use Rattle.fluent_grammar.specs.Words.{Text, is_among}
use Rattle.lint_findings.specs.Comparison.{unknown_variable, unused_variable}
use Rattle.lint_findings.specs.ComparisonFindings.{difference_hint}
use Rattle.lint_findings.specs.NearNames.{nearest, omissions, swaps}
use Rattle.lint_findings.proofs.Computing.{computing_findings, file, Reports, ReportsWithReference}

-- the nearest of these names
Nearest : List Text → Text → Option Text → Type 0
Nearest known name near = nearest (λ x. is_among x known) name ≡ near

two_swapped : swaps (codes "abcd") ≡ codes "bacd" ∷ codes "acbd" ∷ codes "abdc" ∷ []
two_swapped = refl

one_left_out : omissions (codes "abc") ≡ codes "bc" ∷ codes "ac" ∷ codes "ab" ∷ []
one_left_out = refl

by_a_swap : Nearest (codes "other" ∷ codes "brand" ∷ []) (codes "brnad") (Some (codes "brand"))
unfolding computing_findings Nearest
by_a_swap = refl

by_one_byte_too_much : Nearest (codes "brand" ∷ []) (codes "brrand") (Some (codes "brand"))
unfolding computing_findings Nearest
by_one_byte_too_much = refl

by_a_missing_byte : Nearest (codes "main-menu" ∷ []) (codes "mainmenu") (Some (codes "main-menu"))
unfolding computing_findings Nearest
by_a_missing_byte = refl

by_its_case : Nearest (codes "name" ∷ []) (codes "Name") (Some (codes "name"))
unfolding computing_findings Nearest
by_its_case = refl

-- a swap before an omission, an omission before a replacement, a replacement before an addition
in_order : Nearest (codes "abd" ∷ codes "abdc" ∷ []) (codes "abcd") (Some (codes "abdc"))
unfolding computing_findings Nearest
in_order = refl

an_omission_first : Nearest (codes "abx" ∷ codes "ab" ∷ []) (codes "abc") (Some (codes "ab"))
unfolding computing_findings Nearest
an_omission_first = refl

a_replacement_first : Nearest (codes "xabc" ∷ codes "abx" ∷ []) (codes "abc") (Some (codes "abx"))
unfolding computing_findings Nearest
a_replacement_first = refl

two_slips : Nearest (codes "brand" ∷ []) (codes "barnt") None
unfolding computing_findings Nearest
two_slips = refl

two_bytes : Nearest (codes "ab" ∷ []) (codes "ba") None
unfolding computing_findings Nearest
two_bytes = refl

-- 65 bytes, the first one too much
a_long_name : Nearest (codes "abcdefghijklmnopqrstuvwxyz-abcdefghijklmnopqrstuvwxyz-abcdefghij" ∷ []) (codes "aabcdefghijklmnopqrstuvwxyz-abcdefghijklmnopqrstuvwxyz-abcdefghij") None
unfolding computing_findings Nearest
a_long_name = refl

-- é
another_letter : Nearest (codes "name" ∷ []) (codes "nam" ++ (195 ∷ 169 ∷ [])) None
unfolding computing_findings Nearest
another_letter = refl

-- ---- of a difference, if the message of the reference is shown with these variables

a_variable : difference_hint (codes "count" ∷ codes "name" ∷ []) (unknown_variable (codes "nmae")) ≡ Some (codes "did you mean `$name`?")
unfolding computing_findings
a_variable = refl

another_variable : difference_hint (codes "count" ∷ codes "name" ∷ []) (unknown_variable (codes "nom")) ≡ None
unfolding computing_findings
another_variable = refl

not_of_an_unused_variable : difference_hint (codes "name" ∷ []) (unused_variable (codes "nmae")) ≡ None
not_of_an_unused_variable = refl

-- ---- in a catalog

near_messages_and_terms : Reports [] (file (codes "a.ftl") (codes "brand = B\n-firm = F\nab = { brnad } { -frm } { firmm } { -firmb } { firm } { xyz }\n") ∷ [])
    (codes "a.ftl:3:8: error: ab: there is no message `brnad` [unknown-message]\n3 | ab = { brnad } { -frm } { firmm } { -firmb } { firm } { xyz }\n  |        ^\n  = did you mean `brand`?\na.ftl:3:18: error: ab: there is no term `-frm` [unknown-term]\n3 | ab = { brnad } { -frm } { firmm } { -firmb } { firm } { xyz }\n  |                  ^\n  = did you mean `-firm`?\na.ftl:3:27: error: ab: there is no message `firmm` [unknown-message]\n3 | ab = { brnad } { -frm } { firmm } { -firmb } { firm } { xyz }\n  |                           ^\n  = a variable is written `$firmm`\na.ftl:3:37: error: ab: there is no term `-firmb` [unknown-term]\n3 | ab = { brnad } { -frm } { firmm } { -firmb } { firm } { xyz }\n  |                                     ^\n  = did you mean `-firm`?\na.ftl:3:48: error: ab: there is no message `firm` [unknown-message]\n3 | ab = { brnad } { -frm } { firmm } { -firmb } { firm } { xyz }\n  |                                                ^\n  = `-firm` is a term\na.ftl:3:57: error: ab: there is no message `xyz` [unknown-message]\n3 | ab = { brnad } { -frm } { firmm } { -firmb } { firm } { xyz }\n  |                                                         ^\n  = a variable is written `$xyz`\n")
unfolding computing_findings file Reports
near_messages_and_terms = refl

-- the reference's message gets the variables of the one that it refers to
near_variables : ReportsWithReference false (file (codes "en.ftl") (codes "m = { k }\nk = { $name }\n") ∷ []) (file (codes "de.ftl") (codes "m = { $Name } { $nom }\nk = { $name }\n") ∷ [])
    (codes "de.ftl:1:7: error: m: the reference has no variable `$Name` [unknown-variable]\n1 | m = { $Name } { $nom }\n  |       ^\n  = did you mean `$name`?\nde.ftl:1:17: error: m: the reference has no variable `$nom` [unknown-variable]\n1 | m = { $Name } { $nom }\n  |                 ^\n")
unfolding computing_findings file ReportsWithReference
near_variables = refl
