-- Ids that are put in for the entries of trees are declared in them.
use Rattle.std.proofs.Common.{◌≡◌, ◌∙◌, Bool, true, false, cond, List, [], ◌∷◌, ◌++◌, map, Option, Some, None, refl, ap, sym}
use Rattle.std.specs.Prelude.{◌||◌}
use Rattle.std.specs.BTreeMap.{is_at}
use Rattle.std.specs.Cmp.Lexicographic.{same_text, texts_ties}
use Rattle.std.specs.List.{flat_map}
use Rattle.std.specs.Option.{option_to_list}
use Rattle.std.specs.Str.{bytes_eq}
use Rattle.std.proofs.Common.{Bor}
use Rattle.std.proofs.lemmas.List.{map-append}
use Rattle.std.proofs.lemmas.List.Concat.{flat_map-append}
use Rattle.std.proofs.lemmas.List.Elements.{All-cons, All-head, All-tail, All-map}
use Rattle.fluent_ast.specs.Borrowed.{entries_of}
use Rattle.fluent_ast.specs.declared.Resource.{Resource}
use Rattle.fluent_grammar.specs.Tiling.{tree, runtime_tree, list, listed}
use Rattle.fluent_grammar.proofs.TilesRuntime.{runtime_has_the_same_list}
use Rattle.fluent_grammar.specs.Tree as t
use Rattle.fluent_grammar.specs.Words.{Text, is_among}
use Rattle.fluent_tidy_laws.specs.Joined.{lists}
use Rattle.fluent_value.specs.Args.{order}
use Rattle.fluent_meaning.specs.Ids.{Ids, Meaning, number_function, function, message, term, find, with_ids, number_pair, entries_by_id}
use Rattle.fluent_meaning.specs.Substitution.{message_target, term_target}
use Rattle.fluent_meaning.proofs.Stays.{first_stays}
use Rattle.lint_findings.specs.DuplicateIds.{id_of}
use Rattle.lint_findings.specs.Flaws.{catalog_ids}
use Rattle.lint_nodes.specs.Catalog.{ids_of_trees, is_entry, AreAmong, AreDeclaredIn, AreFunctions}
use Rattle.lint_nodes.specs.Holding.{declared_ids, entered, target_pattern}

neither_first : (b c : Bool) → (b || c) ≡ false → b ≡ false
neither_first true c e = absurd cc
neither_first false c e = refl

neither_second : (b c : Bool) → (b || c) ≡ false → c ≡ false
neither_second true c e = absurd cc
neither_second false c e = e

-- a key that isn't an id
apart : (id k : Text) → bytes_eq k id ≡ false → (b : Bool) → is_at (order id) k ≡ b → b ≡ false
apart id k e false h = refl
apart id k e true h =
    let same : id ≡ k = same_text id k (sym (texts_ties id k ∙ h)) in
    let there : bytes_eq k id ≡ true = ap (bytes_eq k) same ∙ texts_ties k k ∙ (ap (λ x. is_at (order x) k) (sym same) ∙ h) in
    sym there ∙ e

abbrev keys : List (Text × Meaning (Unit {0})) → List Text
keys pairs = map (λ p. p.0) pairs

not_found : (id : Text) (pairs : List (Text × Meaning (Unit {0}))) → is_among id (keys pairs) ≡ false → find pairs id ≡ None
not_found id [] e = refl
not_found id (p ∷ pairs) e =
    ap (λ b. cond b (Some p.1) (find pairs id)) (apart id p.0 (neither_first (bytes_eq p.0 id) (is_among id (keys pairs)) e) (is_at (order id) p.0) refl)
    ∙ not_found id pairs (neither_second (bytes_eq p.0 id) (is_among id (keys pairs)) e)

first_by : (b : Bool) (m : Meaning (Unit {0})) (o : Option (Meaning (Unit {0}))) → is_entry (Some m) ≡ false → is_entry o ≡ false → is_entry (cond b (Some m) o) ≡ false
first_by true m o first later = first
first_by false m o first later = later

after_functions : (functions : Ids (Unit {0})) → AreFunctions functions → (more : Ids (Unit {0})) (id : Text) → is_entry (find more id) ≡ false → is_entry (find (functions ++ more) id) ≡ false
after_functions [] are more id e = e
after_functions (p ∷ functions) are more id e =
    first_by (is_at (order id) p.0) p.1 (find (functions ++ more) id) (All-head (λ (q : Text × Meaning (Unit {0})). is_entry (Some q.1) ≡ false) p functions are)
    (after_functions functions (All-tail (λ (q : Text × Meaning (Unit {0})). is_entry (Some q.1) ≡ false) p functions are) more id e)

-- pairs that were put in after functions
put_in : (functions : Ids (Unit {0})) → AreFunctions functions → (pairs : List (Text × Meaning (Unit {0}))) (declared : List Text) → keys pairs ≡ declared → (id : Text) → is_among id declared ≡ false →
    is_entry (find (functions ++ pairs) id) ≡ false
put_in functions are pairs declared same id e = after_functions functions are pairs id (ap is_entry (not_found id pairs (ap (is_among id) same ∙ e)))

-- the ids that entries are put in under
keys_declared : (es : List t.Entry) → keys (entries_by_id es) ≡ declared_ids es
keys_declared [] = refl
keys_declared (t.message m ∷ es) = ap (λ ids. m.id ∷ ids) (keys_declared es)
keys_declared (t.term m ∷ es) = ap (λ ids. m.id ∷ ids) (keys_declared es)
keys_declared (t.comment c ∷ es) = keys_declared es
keys_declared (t.group_comment c ∷ es) = keys_declared es
keys_declared (t.resource_comment c ∷ es) = keys_declared es
keys_declared (t.junk s ∷ es) = keys_declared es

abbrev by_id : Resource (Bor Text) → List (Text × Meaning (Unit {0}))
by_id x = entries_by_id (entries_of x)

keys_of_trees : (trees : List (Resource (Bor Text))) → keys (flat_map by_id trees) ≡ ids_of_trees trees
keys_of_trees [] = refl
keys_of_trees (x ∷ trees) =
    map-append (λ (p : Text × Meaning (Unit {0})). p.0) (by_id x) (flat_map by_id trees)
    ∙ (ap (λ ids. ids ++ keys (flat_map by_id trees)) (keys_declared (entries_of x)) ∙ ap (λ ids. declared_ids (entries_of x) ++ ids) (keys_of_trees trees))

-- ids that were put in: functions first, and then the entries of trees
pub declared_in_trees : (functions : Ids (Unit {0})) (trees : List (Resource (Bor Text))) → AreFunctions functions →
    AreDeclaredIn (with_ids false functions (flat_map (λ tree. entries_by_id (entries_of tree)) trees)) trees
declared_in_trees functions trees are id e =
    ap is_entry (first_stays functions (flat_map by_id trees) id) ∙ put_in functions are (flat_map by_id trees) (ids_of_trees trees) (keys_of_trees trees) id e

-- ---- the ids of a catalog

abbrev stands_for_none : Text × Meaning (Unit {0}) → Type 0
stands_for_none pair = is_entry (Some pair.1) ≡ false

abbrev named_function : Text → Text × Meaning (Unit {0})
named_function name = (name, function tt)

abbrev named_functions : List Text → Ids (Unit {0})
named_functions functions = number_pair ∷ map named_function functions

are_functions : (functions : List Text) → AreFunctions (named_functions functions)
are_functions functions = All-cons stands_for_none number_pair (map named_function functions) refl (All-map stands_for_none named_function functions (λ k d inside. refl))

declared_append : (es more : List t.Entry) → declared_ids (es ++ more) ≡ declared_ids es ++ declared_ids more
declared_append es more = flat_map-append (λ (e : t.Entry). option_to_list (id_of e)) es more

listed_declared : (es : List t.Entry) → declared_ids (listed es) ≡ declared_ids es
listed_declared [] = refl
listed_declared (t.message m ∷ es) = ap (λ ids. m.id ∷ ids) (listed_declared es)
listed_declared (t.term m ∷ es) = ap (λ ids. m.id ∷ ids) (listed_declared es)
listed_declared (t.comment c ∷ es) = listed_declared es
listed_declared (t.group_comment c ∷ es) = listed_declared es
listed_declared (t.resource_comment c ∷ es) = listed_declared es
listed_declared (t.junk s ∷ es) = listed_declared es

-- by how the trees were read
module _ (reading : Text → List t.Entry) (keeps : (source : Text) → declared_ids (list source) ≡ declared_ids (reading source)) where
  declared_lists : (sources : List Text) (trees : List (Resource (Bor Text))) → map entries_of trees ≡ map reading sources → declared_ids (lists sources) ≡ ids_of_trees trees
  declared_lists [] [] same = refl
  declared_lists [] (x ∷ trees) same = absurd cc
  declared_lists (source ∷ sources) [] same = absurd cc
  declared_lists (source ∷ sources) (x ∷ trees) same =
      let here : entries_of x ≡ reading source = cc in
      let later : map entries_of trees ≡ map reading sources = cc in
      declared_append (list source) (lists sources)
      ∙ (ap (λ ids. ids ++ declared_ids (lists sources)) (keeps source ∙ ap declared_ids (sym here)) ∙ ap (λ ids. declared_ids (entries_of x) ++ ids) (declared_lists sources trees later))

  declared_by : (functions sources : List Text) (trees : List (Resource (Bor Text))) → map entries_of trees ≡ map reading sources → AreDeclaredIn (catalog_ids functions sources) trees
  declared_by functions sources trees same id e =
      ap is_entry (first_stays (number_pair ∷ []) (map named_function functions ++ entries_by_id (lists sources)) id)
      ∙ put_in (named_functions functions) (are_functions functions) (entries_by_id (lists sources)) (ids_of_trees trees)
      (keys_declared (lists sources) ∙ declared_lists sources trees same) id e

-- the ids of a catalog of sources, in whose order these are the trees
pub declared_in_sources : (functions sources : List Text) (trees : List (Resource (Bor Text))) → map entries_of trees ≡ map tree sources → AreDeclaredIn (catalog_ids functions sources) trees
declared_in_sources = declared_by tree (λ source. listed_declared (tree source))

-- the same with trees for run time
pub declared_in_runtime : (functions sources : List Text) (trees : List (Resource (Bor Text))) → map entries_of trees ≡ map runtime_tree sources → AreDeclaredIn (catalog_ids functions sources) trees
declared_in_runtime =
    declared_by runtime_tree (λ source. ap declared_ids (sym (runtime_has_the_same_list source)) ∙ listed_declared (runtime_tree source))

-- ---- what ids that aren't declared name

message_none : (i : Text) (a : Option Text) (o : Option (Meaning (Unit {0}))) → is_entry o ≡ false → target_pattern (message_target i a o) ≡ None
message_none i a None e = refl
message_none i a (Some number_function) e = refl
message_none i a (Some (function f)) e = refl
message_none i a (Some (message m)) e = absurd cc
message_none i a (Some (term m)) e = refl

term_none : (i : Text) (a : Option Text) (o : Option (Meaning (Unit {0}))) → is_entry o ≡ false → target_pattern (term_target i a o) ≡ None
term_none i a None e = refl
term_none i a (Some number_function) e = refl
term_none i a (Some (function f)) e = refl
term_none i a (Some (message m)) e = refl
term_none i a (Some (term m)) e = absurd cc

-- an id that isn't declared names no pattern
pub no_others : (ids : Ids (Unit {0})) (declared : List Text) → AreAmong ids declared → (t : Bool) (i : Text) (a : Option Text) → is_among i declared ≡ false → entered ids t i a ≡ None
no_others ids declared among true i a e = term_none i a (find ids i) (among i e)
no_others ids declared among false i a e = message_none i a (find ids i) (among i e)
