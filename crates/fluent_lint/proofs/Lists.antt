-- Lists that are made one item after the other.
use Rattle.std.proofs.Common.{◌≡◌, ◌∙◌, ℕ, ◌+◌, ◌<◌, List, [], ◌∷◌, ◌++◌, length, take, drop, set, get_or, map, false, sym, ap, arith, append-nil, append_assoc}
use Rattle.std.proofs.lemmas.List.{map-append, take_more, take_more_set, drop-set-lt, drop_more}
use Rattle.std.proofs.lemmas.List.Concat.{flat_map-append}
use denote.Ref.{Bor}
use Rattle.fluent_ast.specs.Borrowed.{entries_of}
use Rattle.fluent_ast.specs.declared.Resource.{Resource}
use Rattle.lint_findings.specs.declared.records.File.{File}
use Rattle.fluent_grammar.specs.Words.{Text}
use Rattle.fluent_meaning.proofs.InTurn.{with_ids-++}
use Rattle.fluent_meaning.specs.Ids.{Ids, Meaning, entries_by_id, function, number_pair, with_id, with_ids}
use Rattle.fluent_resource.specs.Sources.{texts}
use Rattle.fluent_lint.specs.Known.{by_ids, functions_by_id, trees_by_id}
use Rattle.fluent_lint.specs.Reading.{sources_of}

-- one more file was read
pub one_read : {A : Type 0} (f : Text → A) (files : List File) (i : ℕ) (d : File) → i < length files →
    (read : List A) → read ≡ map f (sources_of (take i files)) → read ++ f (get_or files i d).source.now ∷ [] ≡ map f (sources_of (take (i + 1) files))
one_read f files i d inside read before =
    let file = get_or files i d in
    ap (λ l. l ++ f file.source.now ∷ []) before
    ∙ sym (ap (λ fs. map f (sources_of fs)) (take_more files i d inside)
    ∙ ap (map f) (map-append (λ (g : File). g.source.now) (take i files) (file ∷ []))
    ∙ map-append f (sources_of (take i files)) (file.source.now ∷ []))

-- one more item was changed
pub one_changed : {A : Type 0} (f : A → A) (xs : List A) (i : ℕ) (d y : A) → i < length xs → y ≡ f (get_or xs i d) →
    take (i + 1) (set xs i y) ++ map f (drop (i + 1) (set xs i y)) ≡ take i xs ++ map f (drop i xs)
one_changed f xs i d y inside is =
    ap (λ z. take (i + 1) (set xs i y) ++ map f z) (drop-set-lt (i + 1) xs i y (omega arith))
    ∙ ap (λ z. z ++ map f (drop (i + 1) xs)) (take_more_set xs i y inside)
    ∙ append_assoc (take i xs) (y ∷ []) (map f (drop (i + 1) xs))
    ∙ ap (λ z. take i xs ++ z ∷ map f (drop (i + 1) xs)) is
    ∙ ap (λ z. take i xs ++ map f z) (sym (drop_more xs i d inside))

abbrev start : Ids (Unit {0})
start = number_pair ∷ []

-- one more function was added
pub one_function : (names : List (Bor Text)) (i : ℕ) (d : Bor Text) → i < length names → (first ids : Ids (Unit {0})) → ids ≡ with_ids false first (functions_by_id (texts (take i names))) →
    with_id false ids ((get_or names i d).now, function tt) ≡ with_ids false first (functions_by_id (texts (take (i + 1) names)))
one_function names i d inside first ids before =
    let pair : Text × Meaning (Unit {0}) = ((get_or names i d).now, function tt) in
    let old = functions_by_id (texts (take i names)) in
    let more : functions_by_id (texts (take (i + 1) names)) ≡ old ++ pair ∷ [] =
    ap (λ ns. functions_by_id (texts ns)) (take_more names i d inside)
    ∙ ap functions_by_id (map-append (λ (s : Bor Text). s.now) (take i names) (get_or names i d ∷ []))
    ∙ map-append (λ name. (name, function tt)) (texts (take i names)) ((get_or names i d).now ∷ []) in
    ap (λ x. with_id false x pair) before ∙ sym (with_ids-++ false first old (pair ∷ [])) ∙ ap (with_ids false first) (sym more)

-- the functions of the program were added, and then those that are called
pub functions_added : (functions called : List Text) (number own all : Ids (Unit {0})) → number ≡ start → own ≡ with_ids false number (functions_by_id functions) → all ≡ with_ids false own (functions_by_id called) →
    all ≡ by_ids (functions ++ called) []
functions_added functions called number own all first second third =
    let both : functions_by_id functions ++ functions_by_id called ≡ functions_by_id (functions ++ called) = sym (map-append (λ name. (name, function tt)) functions called) in
    third ∙ ap (λ ids. with_ids false ids (functions_by_id called)) (second ∙ ap (λ ids. with_ids false ids (functions_by_id functions)) first)
    ∙ sym (with_ids-++ false start (functions_by_id functions) (functions_by_id called))
    ∙ ap (with_ids false start) (both ∙ sym (append-nil (functions_by_id (functions ++ called))))

-- the entries of one more tree were added
pub one_tree : (names : List Text) (trees : List (Resource (Bor Text))) (i : ℕ) (tree : Resource (Bor Text)) → i < length trees → tree ≡ get_or trees i tree →
    (ids : Ids (Unit {0})) → ids ≡ by_ids names (trees_by_id (take i trees)) →
    with_ids false ids (entries_by_id (entries_of tree)) ≡ by_ids names (trees_by_id (take (i + 1) trees))
one_tree names trees i tree inside is ids before =
    let of_tree : Resource (Bor Text) → List (Text × Meaning (Unit {0})) = λ r. entries_by_id (entries_of r) in
    let named = functions_by_id names in
    let old = trees_by_id (take i trees) in
    let more : trees_by_id (take (i + 1) trees) ≡ old ++ of_tree tree =
    ap trees_by_id (take_more trees i tree inside ∙ ap (λ r. take i trees ++ r ∷ []) (sym is))
    ∙ flat_map-append of_tree (take i trees) (tree ∷ [])
    ∙ ap (λ l. old ++ l) (append-nil (of_tree tree)) in
    ap (λ x. with_ids false x (of_tree tree)) before
    ∙ sym (with_ids-++ false start (named ++ old) (of_tree tree))
    ∙ ap (with_ids false start) (append_assoc named old (of_tree tree) ∙ ap (λ l. named ++ l) (sym more))
