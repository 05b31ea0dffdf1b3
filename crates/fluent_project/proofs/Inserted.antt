-- What a map says of a path once a file was put in.
use Rattle.std.proofs.Common.{◌≡◌, ◌∙◌, Bool, true, false, List, [], ◌∷◌, Option, Some, None, cond, option_map, refl, ap, sym}
use Rattle.std.specs.Prelude.{String, string_bytes, if◌then◌else◌, is_some}
use Rattle.std.specs.Global.{Global}
use Rattle.std.specs.String.{string_cmp}
use Rattle.std.specs.Str.{bytes_eq}
use Rattle.std.specs.declared.cmp.Ordering.{Ordering}
use Rattle.std.specs.declared.cmp.Ordering.TheVariants.{Less, Equal, Greater}
use Rattle.std.specs.Ordering.{match_ordering, is_eq, nat_cmp}
use Rattle.std.specs.Cmp.Lexicographic.{nat_list_cmp_total, nat_list_eq_equiv, same_text, slice_cmp, texts_ties}
use Rattle.std.proofs.lemmas.Cmp.{tied_itself}
use Rattle.std.proofs.lemmas.Bool.{false≢true}
use Rattle.std.specs.BTreeMap.{BTreeMap, get_by_text, insert_entry}
use Rattle.std.specs.Map.{lookup}
use Rattle.fluent_project.specs.declared.pairs.Source.{Source as CodeSource}
use Rattle.fluent_project.specs.PairViews.{AddsSaid, said_in, source_view}
use Rattle.fluent_project.specs.Pairs.{Source, said_or}
use Rattle.fluent_project.specs.Patterns.{Text}

abbrev Key : Type 0
Key = String Global

-- whether a text is that of a key
abbrev at : Text → Key → Bool
at path k = is_eq (slice_cmp nat_cmp path (string_bytes k))

is_text : (path : Text) (k : Key) → at path k ≡ true → path ≡ string_bytes k
is_text path k h = same_text path (string_bytes k) (sym (texts_ties path (string_bytes k) ∙ h))

at_test : (path : Text) (k : Key) → at path k ≡ bytes_eq (string_bytes k) path
at_test path k = sym (texts_ties path (string_bytes k)) ∙ nat_list_eq_equiv.symm path (string_bytes k)

twice : {X : Type 0} (b : Bool) (x y : X) (found : Option X) → cond b (Some x) found ≡ cond b (Some x) (cond b (Some y) found)
twice true x y found = refl
twice false x y found = refl

either_first : {X : Type 0} (a b : Bool) (x y : X) (found : Option X) → (a ≡ true → b ≡ true → ⊥)
    → cond a (Some x) (cond b (Some y) found) ≡ cond b (Some y) (cond a (Some x) found)
either_first true true x y found apart = absurd (apart refl refl)
either_first true false x y found apart = refl
either_first false true x y found apart = refl
either_first false false x y found apart = refl

module _ {X : Type 0} (path : Text) (k : Key) (v : X) where
  abbrev put : List (Key × X) → List (Key × X)
  put es = insert_entry string_cmp es k v

  abbrev find : List (Key × X) → Option X
  find es = lookup (at path) es

  same_place : (e : Key) → string_cmp k e ≡ Equal → at path e ≡ at path k
  same_place e h =
      let same : string_bytes k ≡ string_bytes e = same_text (string_bytes k) (string_bytes e) (sym (texts_ties (string_bytes k) (string_bytes e) ∙ ap is_eq h)) in
      ap (λ text. is_eq (slice_cmp nat_cmp path text)) (sym same)

  other_place : (e : Key) → string_cmp k e ≡ Greater → at path e ≡ true → at path k ≡ true → ⊥
  other_place e h at-e at-k =
      let same : string_bytes k ≡ string_bytes e = sym (is_text path k at-k) ∙ is_text path e at-e in
      let tied : slice_cmp nat_cmp (string_bytes k) (string_bytes e) ≡ Equal =
      ap (λ text. slice_cmp nat_cmp (string_bytes k) text) (sym same) ∙ tied_itself nat_list_cmp_total (string_bytes k) in
      false≢true (ap is_eq (sym h ∙ tied))

  found_by : (e : Key × X) (es : List (Key × X)) (o : Ordering) → string_cmp k e.0 ≡ o
      → find (put es) ≡ cond (at path k) (Some v) (find es)
      → find (match_ordering o ((k, v) ∷ e ∷ es) ((e.0, v) ∷ es) (e ∷ put es)) ≡ cond (at path k) (Some v) (find (e ∷ es))
  found_by e es Less h rest = refl
  found_by e es Equal h rest =
      let same : at path e.0 ≡ at path k = same_place e.0 h in
      ap (λ b. cond b (Some v) (find es)) same
      ∙ twice (at path k) v e.1 (find es)
      ∙ ap (λ b. cond (at path k) (Some v) (cond b (Some e.1) (find es))) (sym same)
  found_by e es Greater h rest =
      ap (λ found. cond (at path e.0) (Some e.1) found) rest
      ∙ either_first (at path e.0) (at path k) e.1 v (find es) (other_place e.0 h)

  pub put_found : (es : List (Key × X)) → find (put es) ≡ cond (at path k) (Some v) (find es)
  put_found [] = refl
  put_found (e ∷ es) = found_by e es (string_cmp k e.0) refl (put_found es)

-- ---- what is said of a path

viewed : (b : Bool) (s : CodeSource) (found : Option CodeSource)
    → option_map source_view (cond b (Some s) found) ≡ cond b (Some (source_view s)) (option_map source_view found)
viewed true s found = refl
viewed false s found = refl

new_said : (before : Option Source) (s : Source) (here may : Bool) → (here ≡ true → before ≡ None) → (here ≡ true → may ≡ true)
    → cond here (Some s) before ≡ said_or before (if may then (if here then Some s else None) else None)
new_said (Some x) s true may none is = absurd (false≢true (sym (ap is_some (none refl))))
new_said (Some x) s false may none is = refl
new_said None s true true none is = refl
new_said None s true false none is = absurd (false≢true (is refl))
new_said None s false true none is = refl
new_said None s false false none is = refl

kept_said : (before : Option Source) (s : Source) (here may : Bool) → (here ≡ true → may ≡ true → is_some before ≡ true)
    → before ≡ said_or before (if may then (if here then Some s else None) else None)
kept_said (Some x) s here may there = refl
kept_said None s true true there = absurd (false≢true (there refl refl))
kept_said None s true false there = refl
kept_said None s false true there = refl
kept_said None s false false there = refl

module _ (is_kept : Text → Bool) (k : Key) (s : CodeSource) (old new : BTreeMap Key CodeSource) where
  -- a file is put in where nothing was said
  pub adds_new : is_kept (string_bytes k) ≡ true → get_by_text old (string_bytes k) ≡ None
      → new.entries ≡ insert_entry string_cmp old.entries k s → AddsSaid is_kept (string_bytes k) (source_view s) old new
  adds_new may none is path utf8 =
      let here = bytes_eq (string_bytes k) path in
      ap (λ es. option_map source_view (lookup (at path) es)) is
      ∙ ap (option_map source_view) (put_found path k s old.entries)
      ∙ ap (λ b. option_map source_view (cond b (Some s) (get_by_text old path))) (at_test path k)
      ∙ viewed here s (get_by_text old path)
      ∙ new_said (said_in old path) (source_view s) here (is_kept path)
      (λ h. ap (said_in old) (sym (same_text (string_bytes k) path (sym h))) ∙ ap (option_map source_view) none)
      (λ h. ap is_kept (sym (same_text (string_bytes k) path (sym h))) ∙ may)

  -- nothing is put in where the file may not be, or something was said
  pub adds_old : (is_kept (string_bytes k) ≡ true → is_some (said_in old (string_bytes k)) ≡ true)
      → new ≡ old → AddsSaid is_kept (string_bytes k) (source_view s) old new
  adds_old there same path utf8 =
      let here = bytes_eq (string_bytes k) path in
      ap (λ m. said_in m path) same
      ∙ kept_said (said_in old path) (source_view s) here (is_kept path)
      (λ h may. let eq : string_bytes k ≡ path = same_text (string_bytes k) path (sym h) in
      ap (λ p. is_some (said_in old p)) (sym eq) ∙ there (ap is_kept eq ∙ may))
