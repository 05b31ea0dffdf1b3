-- Trees that are well formed, so canonical: comments of one level side by side, before a message, of a message's own; a term with an attribute.
use Rattle.std.proofs.Common.{List, [], ◌∷◌, Some, None, refl}
use Rattle.std.specs.Str.{trim_end, chars}
use Rattle.std.specs.Char.{encode_utf8}
use Rattle.fluent_grammar.specs.Words.{Text}
use Rattle.fluent_grammar.specs.Tree as t
use Rattle.fluent_tidy_laws.specs.Normal.{IsCanonical}
use Rattle.fluent_tidy_laws.specs.WellFormed.{IsName, WellFormedPattern, WellFormedComment, WellFormedTree}
use Rattle.fluent_tidy_laws.proofs.WrittenTree.{well_formed_trees_are_canonical}

-- `a` and `b`
a_name : IsName (97 ∷ [])
a_name = record { letter_first = refl; bytes = refl }

abbrev lines : List Text
lines = (97 ∷ []) ∷ [] ∷ (98 ∷ []) ∷ []

abbrev tree_of_comments : List t.Entry
tree_of_comments =
    t.comment lines ∷ t.comment lines ∷ t.message (record { id = 97 ∷ []; value = Some (t.text (98 ∷ []) t.no_elements); attributes = []; comment = None })
    ∷ t.message (record { id = 97 ∷ []; value = None; attributes = record { id = 97 ∷ []; value = t.text (98 ∷ []) t.no_elements } ∷ []; comment = Some lines })
    ∷ t.group_comment lines ∷ t.term (record { id = 97 ∷ []; value = t.text (98 ∷ []) t.no_elements; attributes = []; comment = None }) ∷ t.resource_comment lines ∷ []

a_comment : WellFormedComment lines
unfolding trim_end chars encode_utf8
a_comment = ((λ e. absurd cc), refl)

a_value : WellFormedPattern (t.text (98 ∷ []) t.no_elements)
unfolding trim_end chars encode_utf8
a_value = (refl, (refl, refl, refl), tt)

comments-well_formed : WellFormedTree tree_of_comments
comments-well_formed = (
  a_comment,
  (
    a_comment,
    ((a_name, a_value, tt, tt), ((a_name, (λ e. absurd cc), (a_name, a_value, tt), a_comment), (a_comment, ((a_name, a_value, tt, tt), (a_comment, tt))))),
  ),
)

comments-canonical : IsCanonical tree_of_comments
comments-canonical = well_formed_trees_are_canonical tree_of_comments comments-well_formed
