-- Entries that are listed one after the other.
use Rattle.std.proofs.Common.{◌≡◌, Bool, true, false, not, ◌&&◌, ◌||◌, ℕ, ◌+◌, ◌<◌, List, [], ◌∷◌, ◌++◌, length, map, take, get_or, filter, cond, refl, ap, subst, sym, ◌∙◌, append_assoc, append-nil, string_bytes}
use Rattle.std.proofs.lemmas.List.{map-append, take_more}
use Rattle.std.proofs.lemmas.List.Elements.{filter-append}
use Rattle.std.proofs.lemmas.List.Folds.{list_any-append}
use Rattle.std.proofs.lemmas.Grind.{flat_map-append}
use Rattle.std.specs.Cmp.Lexicographic.{nat_list_eq_equiv}
use Rattle.std.specs.List.{flat_map, list_any}
use Rattle.std.specs.Str.{bytes_eq}
use denote.Ref.{Bor}
use Rattle.fluent_answers.proofs.InTurn.{entries_by_id-++}
use Rattle.fluent_ast.specs.View.{entry_view}
use Rattle.fluent_ast.specs.declared.Entry.{Entry}
use Rattle.fluent_grammar.specs.Tree as t
use Rattle.fluent_grammar.specs.Words.{Text}
use Rattle.fluent_ids.specs.declared.ids.FluentIds.{FluentIds}
use Rattle.fluent_meaning.specs.Ids.{Meaning, entries_by_id, find}
use Rattle.fluent_serve.specs.Frames.{ended}
use Rattle.fluent_run.specs.DeskView.{plain_ids}
use Rattle.fluent_run.specs.Listed.{AddsLine, Lists, SeesOneMore, has_seen}
use Rattle.fluent_run.specs.Listing.{each_once, entry_ids, is_message, lines, message_lines}
use Rattle.fluent_run.specs.declared.listing.Listing.{Listing}

or_true : (b : Bool) → (b || true) ≡ true
or_true true = refl
or_true false = refl

-- whether a text is among others, once one more came before them
abbrev unless : Bool → Text → List Text
unless b text = cond b [] (text ∷ [])

one_apart : (b : Bool) (c : Bool) (x y : Text) → bytes_eq y x ≡ b → c ≡ b → filter (λ o. not (bytes_eq y o)) (x ∷ []) ≡ unless (c || false) x
one_apart true c x y h g = rw (h, g) refl
one_apart false c x y h g = rw (h, g) refl

apart : (there : Bool) (x y : Text) → filter (λ o. not (bytes_eq y o)) (unless there x) ≡ unless (bytes_eq x y || there) x
apart true x y = ap (λ b. unless b x) (sym (or_true (bytes_eq x y)))
apart false x y = one_apart (bytes_eq y x) (bytes_eq x y) x y refl (nat_list_eq_equiv.symm x y)

-- a text that comes after others
once_more : (xs : List Text) (x : Text) → each_once (xs ++ x ∷ []) ≡ each_once xs ++ unless (list_any (bytes_eq x) xs) x
unfolding each_once
once_more [] x = refl
once_more (y ∷ ys) x = ap (λ l. y ∷ l)
    (ap (filter (λ o. not (bytes_eq y o))) (once_more ys x)
    ∙ filter-append (λ o. not (bytes_eq y o)) (each_once ys) (unless (list_any (bytes_eq x) ys) x)
    ∙ ap (λ l. filter (λ o. not (bytes_eq y o)) (each_once ys) ++ l) (apart (list_any (bytes_eq x) ys) x y))

line_of : (there : Bool) (f : Text → Bool) (is : Bool) (x : Text) → f x ≡ is → flat_map ended (filter f (unless there x)) ≡ cond (not there && is) (ended x) []
line_of true f is x h = refl
line_of false f true x h = rw h (append-nil (ended x))
line_of false f false x h = rw h refl

-- the lines of ids, once one more came
lines_more : (f : Text → Bool) (xs : List Text) (x : Text) →
    flat_map ended (filter f (each_once (xs ++ x ∷ []))) ≡ flat_map ended (filter f (each_once xs)) ++ cond (not (list_any (bytes_eq x) xs) && f x) (ended x) []
lines_more f xs x =
    ap (λ l. flat_map ended (filter f l)) (once_more xs x)
    ∙ ap (flat_map ended) (filter-append f (each_once xs) (unless (list_any (bytes_eq x) xs) x))
    ∙ flat_map-append ended (filter f (each_once xs)) (filter f (unless (list_any (bytes_eq x) xs) x))
    ∙ ap (λ l. flat_map ended (filter f (each_once xs)) ++ l) (line_of (list_any (bytes_eq x) xs) f (f x) x refl)

or_last : (a b : Bool) → (b || a) ≡ (a || (b || false))
or_last true true = refl
or_last true false = refl
or_last false true = refl
or_last false false = refl

-- whether a text is among others, of which one came last
any_more : (xs : List Text) (x other : Text) → (bytes_eq x other || list_any (bytes_eq other) xs) ≡ list_any (bytes_eq other) (xs ++ x ∷ [])
any_more xs x other = ap (λ b. b || list_any (bytes_eq other) xs) (nat_list_eq_equiv.symm x other) ∙ or_last (list_any (bytes_eq other) xs) (bytes_eq other x) ∙ sym (list_any-append (bytes_eq other) xs (x ∷ []))

-- the id of an entry is the same whatever functions are
pub ids_alike : (F G : Type 0) (entry : t.Entry) → entry_ids {F = F} (entries_by_id (entry ∷ [])) ≡ entry_ids {F = G} (entries_by_id (entry ∷ []))
ids_alike F G (t.message m) = refl
ids_alike F G (t.term m) = refl
ids_alike F G (t.comment c) = refl
ids_alike F G (t.group_comment c) = refl
ids_alike F G (t.resource_comment c) = refl
ids_alike F G (t.junk s) = refl

module _ {F : Type 0} (ids : FluentIds F) (before new : List (Text × Meaning F)) (old now : Listing) (listed : Lists ids before old) where
  -- no entry more was listed
  pub lists_same : [] ≡ entry_ids new → Lists ids (before ++ new) old
  lists_same none =
      let same = map-append (λ e. e.0) before new ∙ ap (λ l. entry_ids before ++ l) (sym none) ∙ append-nil (entry_ids before) in
      record {
        text = listed.text ∙ ap (λ l. lines (filter (is_message (find (plain_ids ids))) (each_once l))) (sym same);
        seen = λ other. listed.seen other ∙ ap (list_any (bytes_eq other)) (sym same);
      }

  module _ (id : Text) (one : id ∷ [] ≡ entry_ids new) (added : AddsLine ids id old now) (seen : SeesOneMore id old now) where
    ids_more : entry_ids (before ++ new) ≡ entry_ids before ++ id ∷ []
    ids_more = map-append (λ e. e.0) before new ∙ ap (λ l. entry_ids before ++ l) (sym one)

    -- one entry more was listed
    pub lists_one : Lists ids (before ++ new) now
    lists_one = record {
      text = added
          ∙ ap (λ s. s ++ cond (not (has_seen old id) && is_message (find (plain_ids ids)) id) (ended id) []) listed.text
          ∙ ap (λ b. message_lines (find (plain_ids ids)) before ++ cond (not b && is_message (find (plain_ids ids)) id) (ended id) []) (listed.seen id)
          ∙ sym (lines_more (is_message (find (plain_ids ids))) (entry_ids before) id)
          ∙ ap (λ l. lines (filter (is_message (find (plain_ids ids))) (each_once l))) (sym ids_more);
      seen = λ other. seen other
          ∙ ap (λ b. bytes_eq id other || b) (listed.seen other)
          ∙ any_more (entry_ids before) id other
          ∙ ap (list_any (bytes_eq other)) (sym ids_more);
    }

module _ (items : List (Entry (Bor Text))) (i : ℕ) (item : Entry (Bor Text)) (inside : i < length items) (is : item ≡ get_or items i item) where
  -- the entries of the first nodes by their ids
  abbrev pub pairs : {F : Type 0} → ℕ → List (Text × Meaning F)
  pairs n = entries_by_id (map (entry_view _ (λ s. s.now)) (take n items))

  pairs_more : {F : Type 0} → pairs {F = F} (i + 1) ≡ pairs i ++ entries_by_id (entry_view _ (λ s. s.now) item ∷ [])
  pairs_more {F = F} =
      ap (λ es. entries_by_id (map (entry_view _ (λ s. s.now)) es)) (take_more items i item inside)
      ∙ (ap (λ es. entries_by_id es) (map-append (entry_view _ (λ s. s.now)) (take i items) (get_or items i item ∷ []))
      ∙ (entries_by_id-++ F (map (entry_view _ (λ s. s.now)) (take i items)) (entry_view _ (λ s. s.now) (get_or items i item) ∷ [])
      ∙ rw (← is) refl))

  -- what is listed once one more node was looked at
  pub lists_next : {F : Type 0} (ids : FluentIds F) (before : List (Text × Meaning F)) (now : Listing) →
      Lists ids ((before ++ pairs i) ++ entries_by_id (entry_view _ (λ s. s.now) item ∷ [])) now → Lists ids (before ++ pairs (i + 1)) now
  lists_next ids before now h = subst (λ es. Lists ids es now) (append_assoc before (pairs i) _ ∙ ap (λ es. before ++ es) (sym pairs_more)) h

-- nothing is listed of nothing
pub lists_none : {F : Type 0} (ids : FluentIds F) (listing : Listing) → string_bytes listing.text ≡ [] → listing.seen.keys ≡ [] → Lists ids [] listing
unfolding each_once
lists_none ids listing text keys = record { text = text; seen = λ id. rw keys refl }
