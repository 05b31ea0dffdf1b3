-- The variables of an id that isn't that of a message.
use Rattle.std.proofs.Common.{◌≡◌, ◌∙◌, ℕ, zero, suc, [], ◌∷◌, ◌++◌, length, Option, Some, None, refl, ap, sym, subst}
use Rattle.std.specs.List.{flat_map}
use Rattle.fluent_grammar.specs.Words.{Text}
use Rattle.fluent_ids.specs.Found.{message_in}
use Rattle.fluent_meaning.specs.Ids.{Ids, Meaning, number_function, function, message, term, find}
use Rattle.lint_nodes.specs.HasNames.{HasNames}
use Rattle.lint_nodes.specs.declared.name_set.Names.{Names}
use Rattle.lint_findings.specs.Comparison.{message_of, messages_within, references_of, union, variable_of, variables_of}

no_references : {F : Type 0} (meaning : Option (Meaning F)) → message_in meaning ≡ None → references_of meaning ≡ []
no_references None is = refl
no_references (Some number_function) is = refl
no_references (Some (function f)) is = refl
no_references (Some (term m)) is = refl
no_references (Some (message m)) is = absurd cc

module _ {F : Type 0} (ids : Ids F) (id : Text) (none : message_in (find ids id) ≡ None) where
  alone : (n : ℕ) → messages_within n ids (id ∷ []) ≡ id ∷ []
  unfolding messages_within
  alone zero = refl
  alone (suc n) = ap (λ references. messages_within n ids (union (id ∷ []) (flat_map message_of references ++ []))) (no_references (find ids id) none) ∙ alone n

  no_variables : variables_of ids id ≡ []
  no_variables =
      ap (λ messages. union [] (flat_map (λ other. flat_map variable_of (references_of (find ids other))) messages)) (alone (length ids))
      ∙ ap (λ references. union [] (flat_map variable_of references ++ [])) (no_references (find ids id) none)

  -- so no names are all of them
  pub none_listed : (names : Names) → HasNames names [] → HasNames names (variables_of ids id)
  none_listed names has = subst (HasNames names) (sym no_variables) has
