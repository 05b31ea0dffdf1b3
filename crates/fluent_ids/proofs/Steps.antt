-- The entries of a resource, put in or looked at one after the other.
use Rattle.std.proofs.Common.{◌≡◌, Bool, true, false, not, ◌&&◌, ◌||◌, ℕ, ◌+◌, ◌<◌, List, [], ◌∷◌, ◌++◌, length, map, take, get_or, Option, Some, None, option_map, is_some, cond, refl, ap, sym, ◌∙◌, append-nil}
use Rattle.std.specs.Str.{bytes_eq}
use Rattle.std.specs.BTreeMap.{insert_entry}
use Rattle.std.specs.Bool.{nat_eq}
use Rattle.std.specs.Cmp.Lexicographic.{nat_list_eq_equiv, pointwise, same_text}
use Rattle.std.specs.HashSet.{HashSet, Updates, contains_by}
use Rattle.std.proofs.lemmas.List.{map-append, take_more}
use denote.Ref.{Bor}
use Rattle.fluent_grammar.specs.Tree as t
use Rattle.fluent_ast.specs.View.{entry_view}
use Rattle.fluent_ast.specs.declared.Entry.{Entry as Plain}
use Rattle.fluent_errors.specs.Errors as e
use Rattle.fluent_value.specs.Args.{order}
use Rattle.fluent_meaning.specs.Ids as ids
use Rattle.fluent_meaning.specs.Ids.{Ids, Meaning, find, kind_of, with_id, with_ids, notice, notices, entries_by_id}
use Rattle.fluent_meaning.proofs.InTurn.{with_ids-++, notices-++}
use Rattle.fluent_value.proofs.Map.{still_ascending}
use Rattle.std.specs.HashMap.{HashMap, get}
use Rattle.std.specs.HashMap as hash
use Rattle.std.specs.List.Sorted.{IsStrictlySortedBy}
use Rattle.std.specs.Map.{keys_of}
use Rattle.std.specs.Option.{unwrap_or}
use Rattle.std.specs.Cow.{cow_str_bytes}
use Rattle.fluent_ids.specs.EntryView.{meaning_of}
use Rattle.fluent_ids.specs.IdsView.{sorted}
use Rattle.fluent_ids.specs.declared.entry.Entry.{Entry}
use Rattle.fluent_ids.proofs.Sorted.{Key, same_key, found, found_sorted, put_in, same_map, sorted_ascends}

over_by : {A : Type 0} (b o : Bool) (x y : A) → o ≡ true → cond (b && not o) x y ≡ y
over_by true o x y h = rw h refl
over_by false o x y h = refl

new_by : {A : Type 0} (b o : Bool) (x y : A) → b ≡ false → cond (b && not o) x y ≡ y
new_by b o x y h = rw h refl

old_by : {A : Type 0} (b o : Bool) (x y : A) → b ≡ true → o ≡ false → cond (b && not o) x y ≡ x
old_by b o x y h g = rw (h, g) refl

abbrev plain : Plain (Bor (List ℕ)) → t.Entry
plain = entry_view _ (λ s. s.now)

module _ {F : Type 0} where
  -- an entry that is put in, since the last of an id stays
  pub put_over : (ids next : Ids F) (pair : List ℕ × Meaning F) (o : Bool) → o ≡ true → next ≡ insert_entry order ids pair.0 pair.1 → next ≡ with_id o ids pair
  put_over ids next pair o h is = is ∙ sym (over_by (is_some (find ids pair.0)) o ids (insert_entry order ids pair.0 pair.1) h)

  -- an entry that is put in, since its id is new
  pub put_new : (ids next : Ids F) (pair : List ℕ × Meaning F) (o : Bool) → is_some (find ids pair.0) ≡ false → next ≡ insert_entry order ids pair.0 pair.1 → next ≡ with_id o ids pair
  put_new ids next pair o h is = is ∙ sym (new_by (is_some (find ids pair.0)) o ids (insert_entry order ids pair.0 pair.1) h)

  by_id-++ : (es fs : List t.Entry) → entries_by_id {F = F} (es ++ fs) ≡ entries_by_id es ++ entries_by_id fs
  by_id-++ [] fs = refl
  by_id-++ (t.message m ∷ es) fs = ap (λ ps. (m.id, ids.message m) ∷ ps) (by_id-++ es fs)
  by_id-++ (t.term m ∷ es) fs = ap (λ ps. (m.id, ids.term m) ∷ ps) (by_id-++ es fs)
  by_id-++ (t.comment c ∷ es) fs = by_id-++ es fs
  by_id-++ (t.group_comment c ∷ es) fs = by_id-++ es fs
  by_id-++ (t.resource_comment c ∷ es) fs = by_id-++ es fs
  by_id-++ (t.junk s ∷ es) fs = by_id-++ es fs

  there_by : (same : Bool) (id k : List ℕ) (ids : Ids F) → bytes_eq k id ≡ same → is_some (find ids k) ≡ true → is_some (find ids id) ≡ (same || is_some (find ids id))
  there_by true id k ids h known = ap (λ x. is_some (find ids x)) (sym (same_text k id (sym h))) ∙ known
  there_by false id k ids h known = refl

  put_is_some : (b : Bool) (v : Meaning F) (o : Option (Meaning F)) → is_some (cond b (Some v) o) ≡ (b || is_some o)
  put_is_some true v o = refl
  put_is_some false v o = refl

  known_by : (b : Bool) (id k : List ℕ) (v : Meaning F) (ids : Ids F) → is_some (find ids k) ≡ b → is_some (find (cond (b && not false) ids (insert_entry order ids k v)) id) ≡ (bytes_eq k id || is_some (find ids id))
  known_by true id k v ids h = there_by (bytes_eq k id) id k ids refl h
  known_by false id k v ids h = ap is_some (found id k v ids) ∙ (put_is_some (bytes_eq id k) v (find ids id) ∙ ap (λ b. b || is_some (find ids id)) (nat_list_eq_equiv.symm id k))

  -- the ids that are there once a pair was put in
  pub known_after : (ids : Ids F) (pair : List ℕ × Meaning F) (id : List ℕ) → is_some (find (with_id false ids pair) id) ≡ (bytes_eq pair.0 id || is_some (find ids id))
  known_after ids pair id = known_by (is_some (find ids pair.0)) id pair.0 pair.1 ids refl

  pub none_from : (o : Option (Meaning F)) → is_some o ≡ false → o ≡ None
  none_from None h = refl
  none_from (Some m) h = cc

  module _ (items : List (Plain (Bor (List ℕ)))) (i : ℕ) (item : Plain (Bor (List ℕ))) (inside : i < length items) (is : item ≡ get_or items i item) where
    -- the pairs of the first entries
    abbrev pairs : ℕ → List (List ℕ × Meaning F)
    pairs n = entries_by_id (map plain (take n items))

    more : (new : List (List ℕ × Meaning F)) → new ≡ entries_by_id (plain item ∷ []) → pairs (i + 1) ≡ pairs i ++ new
    more new one =
        ap (λ es. entries_by_id (map plain es)) (take_more items i item inside)
        ∙ (ap (λ es. entries_by_id es) (map-append plain (take i items) (get_or items i item ∷ []))
        ∙ (by_id-++ (map plain (take i items)) (plain (get_or items i item) ∷ [])
        ∙ rw (← is, one) refl))

    -- an entry that has no id
    pub skipped : [] ≡ entries_by_id {F = F} (plain item ∷ []) → pairs (i + 1) ≡ pairs i
    skipped one = more [] one ∙ append-nil (pairs i)

    module _ (pair : List ℕ × Meaning F) (one : pair ∷ [] ≡ entries_by_id (plain item ∷ [])) (ids : Ids F) where
      put_last : (o : Bool) → with_ids o ids (pairs (i + 1)) ≡ with_id o (with_ids o ids (pairs i)) pair
      put_last o = ap (with_ids o ids) (more (pair ∷ []) one) ∙ with_ids-++ o ids (pairs i) (pair ∷ [])

      -- one more entry that was put in
      pub put_more : (o : Bool) (now next : Ids F) → now ≡ with_ids o ids (pairs i) → next ≡ with_id o now pair → next ≡ with_ids o ids (pairs (i + 1))
      put_more o now next before put = put ∙ (ap (λ m. with_id o m pair) before ∙ sym (put_last o))

      told_last : notices ids (pairs (i + 1)) ≡ notices ids (pairs i) ++ notice (with_ids false ids (pairs i)) pair
      told_last =
          ap (λ ps. notices ids ps) (more (pair ∷ []) one)
          ∙ (notices-++ ids (pairs i) (pair ∷ [])
          ∙ ap (λ l. notices ids (pairs i) ++ l) (append-nil (notice (with_ids false ids (pairs i)) pair)))

      -- the notices once one more entry was looked at
      pub tell_more : (before after : List e.Reported) (known : Bool) (kind : e.Kind) → before ≡ notices ids (pairs i) → known ≡ is_some (find (with_ids false ids (pairs i)) pair.0) → kind ≡ kind_of pair.1 →
          after ≡ before ++ cond known (e.overriding kind pair.0 ∷ []) [] → after ≡ notices ids (pairs (i + 1))
      tell_more before after known kind h_before h_known h_kind h_after = h_after ∙ rw (h_before, h_known, h_kind) (sym told_last)

      -- the ids that are known once one more entry was looked at
      pub know_more : (other : List ℕ) (before after : Bool) → before ≡ is_some (find (with_ids false ids (pairs i)) other) → after ≡ (bytes_eq pair.0 other || before) →
          after ≡ is_some (find (with_ids false ids (pairs (i + 1))) other)
      know_more other before after h_before h_after =
          h_after
          ∙ (ap (λ b. bytes_eq pair.0 other || b) h_before
          ∙ (sym (known_after (with_ids false ids (pairs i)) pair other)
          ∙ ap (λ m. is_some (find m other)) (sym (put_last false))))

or_by : (known b a : Bool) → (known || cond b true a) ≡ (b || (known || a))
or_by true true a = refl
or_by true false a = refl
or_by false true a = refl
or_by false false a = refl

-- the ids that are known once one more was seen
pub seen_more : {S : Type 0} (known : Bool) (old new : HashSet (Bor (List ℕ)) S) (id : Bor (List ℕ)) → Updates (λ x y. pointwise nat_eq x.now y.now) old new id true → (other : List ℕ) →
    (known || contains_by (λ k. bytes_eq other k.now) new) ≡ (bytes_eq id.now other || (known || contains_by (λ k. bytes_eq other k.now) old))
seen_more known old new id h other =
    ap (λ b. known || b) (h.0 (record { ref_ptr = (0, 0); now = other })) ∙ or_by known (bytes_eq id.now other) (contains_by (λ k. bytes_eq other k.now) old)

module _ {F : Type 0} where
  kept_by : (b : Bool) (id k : List ℕ) (v : Meaning F) (ids : Ids F) → bytes_eq id k ≡ b → find ids k ≡ Some v → cond b (Some v) (find ids id) ≡ find ids id
  kept_by true id k v ids same is = sym is ∙ ap (λ x. find ids x) (sym (same_text id k (sym same)))
  kept_by false id k v ids apart is = refl

  -- what is put in over itself
  kept_same : (k : List ℕ) (v : Meaning F) (ids : Ids F) → IsStrictlySortedBy order (keys_of ids) → find ids k ≡ Some v → insert_entry order ids k v ≡ ids
  kept_same k v ids ascends is = same_map (insert_entry order ids k v) ids (still_ascending k v ids ascends) ascends (λ id. found id k v ids ∙ kept_by (bytes_eq id k) id k v ids refl is)

module _ (F : Type 0) {S : Type 0} (m n : HashMap (Key F) (Entry F) S) (o : Bool) (first : o ≡ false) where
  first_by : (k : List ℕ) (v : Entry F) (there : Option (Entry F)) → find (sorted F m.entries) k ≡ option_map (meaning_of F) there →
      sorted F n.entries ≡ insert_entry order (sorted F m.entries) k (meaning_of F (unwrap_or there v)) → sorted F n.entries ≡ with_id o (sorted F m.entries) (k, meaning_of F v)
  first_by k v None is put = put_new (sorted F m.entries) (sorted F n.entries) (k, meaning_of F v) o (ap is_some is) put
  first_by k v (Some old) is put =
      put
      ∙ kept_same k (meaning_of F old) (sorted F m.entries) (sorted_ascends F m.entries) is
      ∙ sym (old_by (is_some (find (sorted F m.entries) k)) o (sorted F m.entries) (insert_entry order (sorted F m.entries) k (meaning_of F v)) (ap is_some is) first)

  -- an entry that is put in, unless its id is there
  pub put_first : (k : Key F) (v : Entry F) → hash.Updates (same_key F) m n k (Some (unwrap_or (get (same_key F) m k) v)) → sorted F n.entries ≡ with_id o (sorted F m.entries) (cow_str_bytes k, meaning_of F v)
  put_first k v h = first_by (cow_str_bytes k) v (get (same_key F) m k) (found_sorted F (cow_str_bytes k) m.entries) (put_in F m n k (unwrap_or (get (same_key F) m k) v) h)
