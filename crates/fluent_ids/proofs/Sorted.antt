-- The plain map that the entries of a map stand for: what is found in it, and that their order makes no difference.
use Rattle.std.proofs.Common.{◌≡◌, Bool, true, false, ℕ, List, [], ◌∷◌, Option, Some, option_map, cond, refl, ap, sym, ◌∙◌}
use Rattle.std.specs.List.Sorted.{IsStrictlySortedBy}
use Rattle.std.specs.Cmp.Lexicographic.{nat_list_cmp_total, nat_list_eq_equiv, same_text, texts_ties, pointwise}
use Rattle.std.specs.Bool.{nat_eq}
use Rattle.std.specs.Str.{bytes_eq}
use Rattle.std.specs.BTreeMap.{insert_entry}
use Rattle.std_collections.specs.Layout.BTreeMap.{btree_map}
use mathlib.Core.Logic.{inl}
use Rattle.std.specs.HashMap.{HashMap, Updates, IsReordered, get}
use Rattle.std.specs.Map.{lookup, keys_of}
use Rattle.std.specs.Cow.{cow_str_bytes}
use Rattle.std.specs.Global.{Global}
use Rattle.std.specs.declared.borrow.CowStr.{CowStr}
use Rattle.std.specs.declared.borrow.CowStr.TheVariants as text
use Rattle.std.proofs.lemmas.Map.Lookups.{btree_map_from_get, exact_bytes}
use Rattle.fluent_value.specs.Args.{order}
use Rattle.fluent_value.proofs.Placed.{none_ascend}
use Rattle.fluent_value.proofs.Map.{set_is_found, others_stay, still_ascending}
use Rattle.fluent_meaning.specs.Ids.{Ids, Meaning, find}
use Rattle.fluent_ids.specs.EntryView.{meaning_of}
use Rattle.fluent_ids.specs.IdsView.{sorted}
use Rattle.fluent_ids.specs.declared.entry.Entry.{Entry}

module _ {F : Type 0} where
  found_by : (id k : List ℕ) (v : Meaning F) (ids : Ids F) (b : Bool) → bytes_eq id k ≡ b → find (insert_entry order ids k v) id ≡ cond b (Some v) (find ids id)
  found_by id k v ids true same = ap (λ x. find (insert_entry order ids k v) x) (same_text id k (sym same)) ∙ set_is_found k v ids
  found_by id k v ids false apart = others_stay k v id (sym (texts_ties id k) ∙ apart) ids

  -- what is found once an id was put in
  pub found : (id k : List ℕ) (v : Meaning F) (ids : Ids F) → find (insert_entry order ids k v) id ≡ cond (bytes_eq id k) (Some v) (find ids id)
  found id k v ids = found_by id k v ids (bytes_eq id k) refl

  -- two maps in which the same is found are the same
  pub same_map : (ids more : Ids F) → IsStrictlySortedBy order (keys_of ids) → IsStrictlySortedBy order (keys_of more) → ((id : List ℕ) → find ids id ≡ find more id) → ids ≡ more
  same_map ids more s t h = btree_map_from_get nat_list_cmp_total (btree_map ids (inl tt)) (btree_map more (inl tt)) s t h exact_bytes

module _ (F : Type 0) where
  abbrev pub Key : Type 0
  Key = CowStr Global

  abbrev pub same_key : Key → Key → Bool
  same_key x y = pointwise nat_eq (cow_str_bytes x) (cow_str_bytes y)

  -- a key of these bytes
  abbrev key : List ℕ → Key
  key id = text.Borrowed (record { ref_ptr = (0, 0); now = id })

  mapped_by : (b : Bool) (e : Entry F) (o : Option (Entry F)) (p : Option (Meaning F)) → p ≡ option_map (meaning_of F) o → cond b (Some (meaning_of F e)) p ≡ option_map (meaning_of F) (cond b (Some e) o)
  mapped_by true e o p h = refl
  mapped_by false e o p h = h

  -- what is found is what the entry of that id means
  pub found_sorted : (id : List ℕ) (es : List (Key × Entry F)) → find (sorted F es) id ≡ option_map (meaning_of F) (lookup (λ k. bytes_eq id (cow_str_bytes k)) es)
  unfolding sorted
  found_sorted id [] = refl
  found_sorted id (e ∷ es) =
      found id (cow_str_bytes e.0) (meaning_of F e.1) (sorted F es)
      ∙ mapped_by (bytes_eq id (cow_str_bytes e.0)) e.1 (lookup (λ k. bytes_eq id (cow_str_bytes k)) es) (find (sorted F es) id) (found_sorted id es)

  pub sorted_ascends : (es : List (Key × Entry F)) → IsStrictlySortedBy order (keys_of (sorted F es))
  unfolding sorted
  sorted_ascends [] = none_ascend
  sorted_ascends (e ∷ es) = still_ascending (cow_str_bytes e.0) (meaning_of F e.1) (sorted F es) (sorted_ascends es)

  pub none_sorted : sorted F [] ≡ []
  unfolding sorted
  none_sorted = refl

  module _ {S : Type 0} (m n : HashMap Key (Entry F) S) where
    -- entries in another order stand for the same map
    pub reordered : IsReordered same_key m n → sorted F n.entries ≡ sorted F m.entries
    reordered h =
        same_map (sorted F n.entries) (sorted F m.entries) (sorted_ascends n.entries) (sorted_ascends m.entries)
        (λ id. found_sorted id n.entries ∙ ap (option_map (meaning_of F)) (h.2 (key id)) ∙ sym (found_sorted id m.entries))

    put_by : (b : Bool) (v : Entry F) (o : Option (Entry F)) → option_map (meaning_of F) (cond b (Some v) o) ≡ cond b (Some (meaning_of F v)) (option_map (meaning_of F) o)
    put_by true v o = refl
    put_by false v o = refl

    -- an entry that was put in
    pub put_in : (k : Key) (v : Entry F) → Updates same_key m n k (Some v) → sorted F n.entries ≡ insert_entry order (sorted F m.entries) (cow_str_bytes k) (meaning_of F v)
    put_in k v h =
        let bytes : List ℕ = cow_str_bytes k in
        same_map (sorted F n.entries) (insert_entry order (sorted F m.entries) bytes (meaning_of F v))
        (sorted_ascends n.entries)
        (still_ascending bytes (meaning_of F v) (sorted F m.entries) (sorted_ascends m.entries))
        (λ id. found_sorted id n.entries
        ∙ (ap (option_map (meaning_of F)) (h.0 (key id))
        ∙ (put_by (bytes_eq bytes id) v (get same_key m (key id))
        ∙ (ap (λ o. cond (bytes_eq bytes id) (Some (meaning_of F v)) o) (sym (found_sorted id m.entries))
        ∙ (ap (λ b. cond b (Some (meaning_of F v)) (find (sorted F m.entries) id)) (nat_list_eq_equiv.symm bytes id)
        ∙ sym (found id bytes (meaning_of F v) (sorted F m.entries)))))))
