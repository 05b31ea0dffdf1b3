-- A text has one rest after some attributes.
use Rattle.std.proofs.Common.{◌≡◌, ◌∙◌, List, [], ◌∷◌, sym, subst}
use Rattle.fluent_grammar.specs.Words.{Text, skip_blank_block}
use Rattle.fluent_grammar.specs.Refusal.{Reading, got}
use Rattle.fluent_grammar.specs.Tree as t
use Rattle.fluent_grammar.proofs.Got.{got_node}
use Rattle.lint_findings.specs.Occurrences.{after_equals, pattern_read}
use Rattle.lint_entries.specs.AttributePlaces.{AreAttributesAt, IsBodyAt}

pub rest_is : {A : Type 0} {r : Reading A} {a b : A} {u v : Text} → r ≡ got a u → r ≡ got b v → u ≡ v
rest_is p q = (got_node (sym p ∙ q)).1

pub same_rest : (as' : List t.Attribute) (s a b : Text) → AreAttributesAt as' s a → AreAttributesAt as' s b → a ≡ b
same_rest [] s a b p q = sym p ∙ q
same_rest (x ∷ xs) s a b p q = same_rest xs p.0 a b p.2 (subst (λ u. AreAttributesAt xs u b) (sym (rest_is p.1 q.1)) q.2)

-- after a body whose pattern left this, its attributes are there
pub attributes_after : (value : t.Elements) (as' : List t.Attribute) (name rest u : Text) → IsBodyAt value as' name rest → pattern_read (after_equals name) ≡ got value u → AreAttributesAt as' (skip_blank_block u) rest
attributes_after value as' name rest u body read = subst (λ v. AreAttributesAt as' (skip_blank_block v) rest) (rest_is body.1 read) body.2
