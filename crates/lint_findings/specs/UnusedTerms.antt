-- Terms that no entry refers to.
use Rattle.std.specs.Prelude.{ℕ, Bool, if◌then◌else◌, List, [], ◌∷◌, codes}
use Rattle.std.specs.List.{flat_map}
use Rattle.fluent_grammar.specs.Words.{Text, is_among}
use Rattle.fluent_grammar.specs.Tree as t
use Rattle.fluent_grammar.specs.Tree.{Inline}
use Rattle.fluent_tidy_laws.specs.Joined.{lists}
use Rattle.lint_findings.specs.References.{elements_references}
use Rattle.lint_findings.specs.Flaws.{entry_patterns}
use Rattle.lint_findings.specs.DuplicateIds.{label_of}
use Rattle.lint_findings.specs.Finding.{note, Finding, Remark, remark, finding_at}

abbrev pub referred_term : Inline → List Text
referred_term (t.term_reference id a c) = id ∷ []
referred_term _ = []

-- the terms that sources refer to, each as often as they do: a reference of a term to itself is one, too
abbrev pub referred_terms : List Text → List Text
referred_terms texts = flat_map (λ p. flat_map referred_term (elements_references p.1)) (flat_map entry_patterns (lists texts))

-- an entry of sources refers to the term of this id
abbrev pub is_referred_in : List Text → Text → Bool
is_referred_in texts id = is_among id (referred_terms texts)

abbrev pub unused_remark : Remark
unused_remark = remark note (codes "unused-term") (codes "no entry refers to this term")

-- The finding of an entry at an offset, if it is a term that nothing refers to.
abbrev pub unused_findings : (Text → Bool) → t.Entry → ℕ → List Finding
unused_findings is_referred (t.term m) at =
    if is_referred m.id then []
    else finding_at at (label_of (t.term m)) unused_remark ∷ []
unused_findings is_referred _ at = []
