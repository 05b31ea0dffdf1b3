-- Which entry of an id stays in a map.
use Rattle.std.proofs.Common.{◌≡◌, Bool, true, false, cond, List, [], ◌∷◌, ◌++◌, Option, Some, None, refl, ap, sym, ◌∙◌, append_assoc, append-nil}
use Rattle.std.specs.Prelude.{reverse, is_some, not, ◌&&◌}
use Rattle.std.proofs.lemmas.Bool.{false≢true}
use Rattle.std.proofs.lemmas.Grind.{reverse_onto}
use Rattle.std.specs.Map.{keys_of}
use Rattle.std.specs.BTreeMap.{insert_entry, is_at}
use Rattle.std.specs.Cmp.Lexicographic.{same_text, texts_ties}
use Rattle.fluent_grammar.specs.Words.{Text}
use Rattle.fluent_value.specs.Args.{order, IsAscending}
use Rattle.fluent_value.proofs.Map.{set_is_found, others_stay, still_ascending}
use Rattle.fluent_meaning.specs.Choice.{or_else}
use Rattle.fluent_meaning.specs.Ids.{Ids, Meaning, find, with_id, with_ids}

same_id : (id other : Text) → is_at (order id) other ≡ true → id ≡ other
same_id id other h = same_text id other (sym (texts_ties id other ∙ h))

module _ {F : Type 0} where
  -- what is found in two lists, one before the other
  find-by : (b : Bool) (m : Meaning F) (o p q : Option (Meaning F)) → o ≡ or_else p q → cond b (Some m) o ≡ or_else (cond b (Some m) p) q
  find-by true m o p q h = refl
  find-by false m o p q h = h

  pub find-++ : (ids more : Ids F) (id : Text) → find (ids ++ more) id ≡ or_else (find ids id) (find more id)
  find-++ [] more id = refl
  find-++ (pair ∷ ids) more id = find-by (is_at (order id) pair.0) pair.1 (find (ids ++ more) id) (find ids id) (find more id) (find-++ ids more id)

  -- what is found where a pair was put in its place
  inserted-by : (ids : Ids F) (name id : Text) (m : Meaning F) (b : Bool) → is_at (order id) name ≡ b → find (insert_entry order ids name m) id ≡ cond b (Some m) (find ids id)
  inserted-by ids name id m true h = ap (λ x. find (insert_entry order ids name m) x) (same_id id name h) ∙ set_is_found name m ids
  inserted-by ids name id m false h = others_stay name m id h ids

  pub find-inserted : (ids : Ids F) (name id : Text) (m : Meaning F) → find (insert_entry order ids name m) id ≡ cond (is_at (order id) name) (Some m) (find ids id)
  find-inserted ids name id m = inserted-by ids name id m (is_at (order id) name) refl

  -- the first stays: a pair is put in only where its id is not there
  there-first : (o q : Option (Meaning F)) (m : Meaning F) (b : Bool) → (b ≡ true → is_some o ≡ true) → or_else o q ≡ or_else o (cond b (Some m) q)
  there-first (Some x) q m b h = refl
  there-first None q m true h = absurd (false≢true (h refl))
  there-first None q m false h = refl

  absent-first : (o q : Option (Meaning F)) (m : Meaning F) (b : Bool) → (b ≡ true → is_some o ≡ false) → or_else (cond b (Some m) o) q ≡ or_else o (cond b (Some m) q)
  absent-first o q m false h = refl
  absent-first None q m true h = refl
  absent-first (Some x) q m true h = absurd (false≢true (sym (h refl)))

  first-by : (ids : Ids F) (pair : Text × Meaning F) (pairs : Ids F) (id : Text) (there : Bool) → is_some (find ids pair.0) ≡ there → or_else (find (cond there ids (insert_entry order ids pair.0 pair.1)) id) (find pairs id) ≡ or_else (find ids id) (find (pair ∷ pairs) id)
  first-by ids pair pairs id true h =
      there-first (find ids id) (find pairs id) pair.1 (is_at (order id) pair.0) (λ same. ap (λ x. is_some (find ids x)) (same_id id pair.0 same) ∙ h)
  first-by ids pair pairs id false h =
      ap (λ o. or_else o (find pairs id)) (find-inserted ids pair.0 id pair.1)
      ∙ absent-first (find ids id) (find pairs id) pair.1 (is_at (order id) pair.0) (λ same. ap (λ x. is_some (find ids x)) (same_id id pair.0 same) ∙ h)

  with_id-first : (ids : Ids F) (pair : Text × Meaning F) (there : Bool) → is_some (find ids pair.0) ≡ there → with_id false ids pair ≡ cond there ids (insert_entry order ids pair.0 pair.1)
  with_id-first ids pair true h = ap (λ b. cond (b && true) ids (insert_entry order ids pair.0 pair.1)) h
  with_id-first ids pair false h = ap (λ b. cond (b && true) ids (insert_entry order ids pair.0 pair.1)) h

  pub first_stays : (ids : Ids F) (pairs : List (Text × Meaning F)) (id : Text) → find (with_ids false ids pairs) id ≡ find (ids ++ pairs) id
  first_stays ids [] id = ap (λ xs. find xs id) (sym (append-nil ids))
  first_stays ids (pair ∷ pairs) id =
      let there = is_some (find ids pair.0) in
      first_stays (with_id false ids pair) pairs id
      ∙ find-++ (with_id false ids pair) pairs id
      ∙ ap (λ xs. or_else (find xs id) (find pairs id)) (with_id-first ids pair there refl)
      ∙ first-by ids pair pairs id there refl
      ∙ sym (find-++ ids (pair ∷ pairs) id)

  -- the last stays: each pair is put in
  with_id-last : (ids : Ids F) (pair : Text × Meaning F) (there : Bool) → cond (there && false) ids (insert_entry order ids pair.0 pair.1) ≡ insert_entry order ids pair.0 pair.1
  with_id-last ids pair true = refl
  with_id-last ids pair false = refl

  pub last_stays : (ids : Ids F) (pairs : List (Text × Meaning F)) (id : Text) → find (with_ids true ids pairs) id ≡ find (reverse pairs ++ ids) id
  last_stays ids [] id = refl
  last_stays ids (pair ∷ pairs) id =
      last_stays (with_id true ids pair) pairs id
      ∙ find-++ (reverse pairs) (with_id true ids pair) id
      ∙ ap (λ xs. or_else (find (reverse pairs) id) (find xs id)) (with_id-last ids pair (is_some (find ids pair.0)))
      ∙ ap (or_else (find (reverse pairs) id)) (find-inserted ids pair.0 id pair.1)
      ∙ sym (find-++ (reverse pairs) (pair ∷ ids) id)
      ∙ ap (λ xs. find xs id) (sym (append_assoc (reverse pairs) (pair ∷ []) ids))
      ∙ ap (λ xs. find (xs ++ ids) id) (sym (reverse_onto pairs pair []))

  -- and the ids ascend
  ascend-by : (ids : Ids F) (pair : Text × Meaning F) (b : Bool) → IsAscending (keys_of ids) → IsAscending (keys_of (cond b ids (insert_entry order ids pair.0 pair.1)))
  ascend-by ids pair true h = h
  ascend-by ids pair false h = still_ascending pair.0 pair.1 ids h

  pub ids_ascend : (overriding : Bool) (ids : Ids F) (pairs : List (Text × Meaning F)) → IsAscending (keys_of ids) → IsAscending (keys_of (with_ids overriding ids pairs))
  ids_ascend overriding ids [] h = h
  ids_ascend overriding ids (pair ∷ pairs) h = ids_ascend overriding (with_id overriding ids pair) pairs (ascend-by ids pair (is_some (find ids pair.0) && not overriding) h)
