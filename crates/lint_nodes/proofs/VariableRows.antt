-- Worked rows: the variables that a message is shown with.
use Rattle.std.specs.Prelude.{◌≡◌, [], ◌∷◌, List, codes}
use Rattle.std.proofs.Common.{refl}
use Rattle.fluent_grammar.specs.Words.{Text}
use Rattle.lint_findings.specs.Comparison.{variables_of}
use Rattle.lint_findings.specs.Flaws.{catalog_ids}
use Rattle.lint_findings.proofs.Computing.{computing_findings}

-- The message of an id is shown with these variables.
IsShownWith : Text → Text → List Text → Type 0
IsShownWith source id names = variables_of (catalog_ids [] (source ∷ [])) id ≡ names

each_once : IsShownWith (codes "a = { $y } { $x } { $y }\n    .t = { $z }\n") (codes "a") (codes "y" ∷ codes "x" ∷ codes "z" ∷ [])
unfolding computing_findings IsShownWith
each_once = refl

-- first its own, and all of a message of which an attribute is named
its_own_first : IsShownWith (codes "a = { b.t } { $x }\nb = { $y }\n    .t = { $z }\n") (codes "a") (codes "x" ∷ codes "y" ∷ codes "z" ∷ [])
unfolding computing_findings IsShownWith
its_own_first = refl

-- those of `b` and of `c`, which `a` names, are before those of `d`, which `b` names
nearer_first : IsShownWith (codes "a = { b } { c }\nb = { d }\nc = { $x }\nd = { $y } { $x }\n") (codes "a") (codes "x" ∷ codes "y" ∷ [])
unfolding computing_findings IsShownWith
nearer_first = refl

-- of a message that refers to itself, and of one that another refers back to
of_itself : IsShownWith (codes "a = { a } { $x } { a.t }\n") (codes "a") (codes "x" ∷ [])
unfolding computing_findings IsShownWith
of_itself = refl

of_each_other : IsShownWith (codes "a = { b } { $x }\nb = { a } { $y } { $x }\n") (codes "b") (codes "y" ∷ codes "x" ∷ [])
unfolding computing_findings IsShownWith
of_each_other = refl

-- what a term gets is there, and what is in the term isn't
passed_to_terms : IsShownWith (codes "a = { -t($x) }\n-t = { $y } { b }\nb = { $z }\n") (codes "a") (codes "x" ∷ [])
unfolding computing_findings IsShownWith
passed_to_terms = refl

of_what_is_missing : IsShownWith (codes "a = { b } { -t } { $x }\n") (codes "a") (codes "x" ∷ [])
unfolding computing_findings IsShownWith
of_what_is_missing = refl

of_no_message : IsShownWith (codes "-t = { $x }\n") (codes "t") []
unfolding computing_findings IsShownWith
of_no_message = refl
