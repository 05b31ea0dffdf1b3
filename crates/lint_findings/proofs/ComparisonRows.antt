-- Worked rows: differences from a reference.
use Rattle.std.specs.Prelude.{◌≡◌, [], ◌∷◌, List, codes}
use Rattle.std.proofs.Common.{refl}
use Rattle.fluent_grammar.specs.Words.{Text}
use Rattle.lint_findings.specs.Flaws.{catalog_ids}
use Rattle.lint_findings.specs.Comparison.{Difference, missing_message, obsolete_message, missing_value, missing_attribute, obsolete_attribute, unknown_variable, missing_variable, unused_variable, untranslated, all_differences}
use Rattle.lint_findings.proofs.Computing.{computing_findings}

-- How a translation differs from a reference.
Differs : Text → Text → List (Text × Difference) → Type 0
Differs source reference differences =
    all_differences (catalog_ids [] (source ∷ [])) (catalog_ids [] (reference ∷ [])) ≡ differences

same_ids : Differs (codes "a = Hallo { $n }\n") (codes "a = Hello { $n }\n") []
unfolding computing_findings Differs
same_ids = refl

missing_and_obsolete : Differs (codes "a = x\nc = y\n") (codes "a = b\nb = c\n") ((codes "c", obsolete_message) ∷ (codes "b", missing_message) ∷ [])
unfolding computing_findings Differs
missing_and_obsolete = refl

another_shape : Differs (codes "a =\n    .t = x\n") (codes "a = b\n    .u = c\n") ((codes "a", missing_value) ∷ (codes "a", missing_attribute (codes "u")) ∷ (codes "a", obsolete_attribute (codes "t")) ∷ [])
unfolding computing_findings Differs
another_shape = refl

another_variable : Differs (codes "a = { $nmae }!\n") (codes "a = { $name }\n") ((codes "a", unknown_variable (codes "nmae")) ∷ (codes "a", unused_variable (codes "name")) ∷ [])
unfolding computing_findings Differs
another_variable = refl

-- of the reference's variables one is shown, and one is only chosen by
lost_variables : Differs (codes "a = x\n") (codes "a = { $n ->\n   *[x] { NUMBER($m) }\n }\n") ((codes "a", unused_variable (codes "n")) ∷ (codes "a", missing_variable (codes "m")) ∷ [])
unfolding computing_findings Differs
lost_variables = refl

-- messages that are referred to get the same arguments, and terms don't
variables_come_by_messages : Differs (codes "a = { $n }\nb = { $n }\n-t = { $k }\n") (codes "a = { b }\nb = { $n }, { $n }\n-t = { $j }\n") []
unfolding computing_findings Differs
variables_come_by_messages = refl

the_same_text : Differs (codes "a = b\n") (codes "a = b\n") ((codes "a", untranslated) ∷ [])
unfolding computing_findings Differs
the_same_text = refl
