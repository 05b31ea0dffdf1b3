-- Worked rows: flaws.
use Rattle.std.specs.Prelude.{◌≡◌, [], ◌∷◌, Some, None, codes}
use Rattle.std.proofs.Common.{refl}
use Rattle.fluent_grammar.specs.Words.{Text}
use Rattle.fluent_grammar.specs.Tree as t
use Rattle.fluent_errors.specs.Errors.{unknown, to_message, to_term, to_function, no_value, missing_default, cyclic}
use Rattle.lint_findings.specs.Flaws.{Owner, unresolved, duplicate_key, catalog_flaws}
use Rattle.lint_findings.proofs.Computing.{computing_findings}

value : Text → Owner
value label = record { label = label; attribute = None }

attribute : Text → Text → Owner
attribute label name = record { label = label; attribute = Some name }

clean : catalog_flaws [] (codes "-t = T\na = { -t } { NUMBER($n) }\nb = { a }\n" ∷ []) ≡ []
unfolding computing_findings
clean = refl

unknown_ids : catalog_flaws [] (codes "a = { b } { -c }\n    .t = { D() }\n" ∷ []) ≡
    (value (codes "a"), unresolved (unknown (to_message (codes "b") None))) ∷ (value (codes "a"), unresolved (unknown (to_term (codes "c") None)))
    ∷ (attribute (codes "a") (codes "t"), unresolved (unknown (to_function (codes "D")))) ∷ []
unfolding computing_findings value attribute
unknown_ids = refl

functions_of_the_program_are_known : catalog_flaws (codes "D" ∷ []) (codes "a = { D() }\n" ∷ []) ≡ []
unfolding computing_findings
functions_of_the_program_are_known = refl

in_another_source : catalog_flaws [] (codes "a = { b.t }\n" ∷ codes "b =\n    .t = x\n" ∷ []) ≡ []
unfolding computing_findings
in_another_source = refl

no_such_value : catalog_flaws [] (codes "a = { b }\nb =\n    .t = x\n" ∷ []) ≡ (value (codes "a"), unresolved (no_value (codes "b"))) ∷ []
unfolding computing_findings value
no_such_value = refl

-- `a` isn't on the circle, and leads into it
a_circle : catalog_flaws [] (codes "a = { b }\nb = { c }\nc = { b }\nd = x\n" ∷ []) ≡
    (value (codes "a"), unresolved cyclic) ∷ (value (codes "b"), unresolved cyclic) ∷ (value (codes "c"), unresolved cyclic) ∷ []
unfolding computing_findings value
a_circle = refl

-- an attribute that refers to the value of its message is on no circle
an_attribute_of_its_value : catalog_flaws [] (codes "a = x\n    .t = { a }\n" ∷ []) ≡ []
unfolding computing_findings
an_attribute_of_its_value = refl

a_lone_mark_and_a_duplicate_key : catalog_flaws [] (codes "a = { $n ->\n    [one] x\n    [one] y\n  * }\n" ∷ []) ≡
    (value (codes "a"), unresolved missing_default) ∷ (value (codes "a"), duplicate_key (t.identifier_key (codes "one"))) ∷ []
unfolding computing_findings value
a_lone_mark_and_a_duplicate_key = refl
