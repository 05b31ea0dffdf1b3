-- Entries go into a map of ids one after the other.
use Rattle.std.specs.Prelude.{◌≡◌, refl, Bool, false, List, [], ◌∷◌, ◌++◌}
use Rattle.std.proofs.Common.{ap, sym, ◌∙◌, append_assoc}
use Rattle.fluent_grammar.specs.Words.{Text}
use Rattle.fluent_meaning.specs.Ids.{Ids, Meaning, with_id, with_ids, notice, notices}

module _ {F : Type 0} where
  pub with_ids-++ : (overriding : Bool) (ids : Ids F) (pairs more : List (Text × Meaning F)) → with_ids overriding ids (pairs ++ more) ≡ with_ids overriding (with_ids overriding ids pairs) more
  with_ids-++ overriding ids [] more = refl
  with_ids-++ overriding ids (pair ∷ pairs) more = with_ids-++ overriding (with_id overriding ids pair) pairs more

  pub notices-++ : (ids : Ids F) (pairs more : List (Text × Meaning F)) → notices ids (pairs ++ more) ≡ notices ids pairs ++ notices (with_ids false ids pairs) more
  notices-++ ids [] more = refl
  notices-++ ids (pair ∷ pairs) more =
      ap (λ es. notice ids pair ++ es) (notices-++ (with_id false ids pair) pairs more)
      ∙ sym (append_assoc (notice ids pair) (notices (with_id false ids pair) pairs) (notices (with_ids false ids (pair ∷ pairs)) more))
