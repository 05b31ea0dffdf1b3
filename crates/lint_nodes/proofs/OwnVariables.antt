-- The variables of a message that refers to no message.
use Rattle.std.proofs.Common.{◌≡◌, ◌∙◌, ℕ, zero, suc, List, [], ◌∷◌, ◌++◌, length, Option, Some, None, true, refl, ap, sym, subst, append-nil, arith, Bor}
use Rattle.std.specs.Prelude.{◌==◌}
use Rattle.std.proofs.lemmas.Bool.{eqb-true}
use Rattle.std.specs.List.{flat_map}
use Rattle.fluent_grammar.specs.Tree as t
use Rattle.fluent_grammar.specs.Tree.{Inline}
use Rattle.fluent_grammar.specs.Words.{Text}
use Rattle.fluent_ids.specs.Found.{message_in}
use Rattle.fluent_meaning.specs.Ids.{Ids, Meaning, number_function, function, message, term, find}
use Rattle.lint_findings.specs.Comparison.{message_of, messages_within, references_of, union, variable_of, variables_of}
use Rattle.lint_nodes.specs.HasNames.{HasNames, texts}
use Rattle.lint_nodes.specs.HasReached.{AreOwn, message_references, messages_in, variables_in}
use Rattle.lint_nodes.specs.declared.name_set.Names.{Names}
use Rattle.lint_nodes.proofs.Unions.{union_begins}

-- no names were added
pub none_added : (ms : List Text) → union [] ms ≡ [] → ms ≡ []
none_added [] e = refl
none_added (y ∷ ys) e =
    let begins = union_begins (y ∷ []) ys in
    absurd (let more : y ∷ begins.0 ≡ [] = sym begins.1 ∙ e in cc)

pub no_items : (items : List (Bor Text)) → (length items == 0) ≡ true → texts items ≡ []
no_items [] empty = refl
no_items (x ∷ xs) empty = absurd (omega (arith, eqb-true (length (x ∷ xs)) 0 empty))

references_by : {F : Type 0} (m : t.Message) (meaning : Option (Meaning F)) → message_in meaning ≡ Some m → references_of meaning ≡ message_references m
references_by m None is = absurd cc
references_by m (Some number_function) is = absurd cc
references_by m (Some (function f)) is = absurd cc
references_by m (Some (term k)) is = absurd cc
references_by m (Some (message k)) is =
    let same : k ≡ m = cc in
    ap message_references same

module _ {F : Type 0} (ids : Ids F) (id : Text) (m : t.Message) (is : message_in (find ids id) ≡ Some m) where
  are_own : references_of (find ids id) ≡ message_references m
  are_own = references_by m (find ids id) is

  alone : messages_in (message_references m) ≡ [] → (n : ℕ) → messages_within n ids (id ∷ []) ≡ id ∷ []
  unfolding messages_within
  alone none zero = refl
  alone none (suc n) =
      ap (λ (is' : List Inline). messages_within n ids (union (id ∷ []) (flat_map message_of is' ++ []))) are_own
      ∙ ap (λ (ms : List Text). messages_within n ids (union (id ∷ []) (ms ++ []))) none ∙ alone none n

  own : messages_in (message_references m) ≡ [] → variables_of ids id ≡ union [] (variables_in (message_references m))
  own none =
      ap (λ (messages : List Text). union [] (flat_map (λ other. flat_map variable_of (references_of (find ids other))) messages)) (alone none (length ids))
      ∙ ap (λ (is' : List Inline). union [] (flat_map variable_of is' ++ [])) are_own ∙ ap (union []) (append-nil (variables_in (message_references m)))

  -- they are those of the id that stands for it
  pub own_are_all : (names : Names) → AreOwn m (Some names) → HasNames names (variables_of ids id)
  own_are_all names h = subst (HasNames names) (sym (own h.0)) h.1
