-- The trees of files are those of their sources, and so are the ids.
use Rattle.std.proofs.Common.{◌≡◌, ◌∙◌, ℕ, zero, suc, ◌<◌, false, List, [], ◌∷◌, ◌++◌, length, get_or, map, Some, None, refl, sym, ap, arith}
use Rattle.std.proofs.lemmas.List.Elements.{All-cons, All-map}
use denote.Ref.{Bor}
use Rattle.fluent_ast.specs.Borrowed.{entries_of}
use Rattle.fluent_ast.specs.declared.Resource.{Resource}
use Rattle.lint_nodes.proofs.DeclaredIn.{declared_in_trees}
use Rattle.lint_nodes.specs.Catalog.{AreDeclaredIn, AreFunctions, is_entry}
use Rattle.lint_entries.specs.AttributePlaces.{uncommented}
use Rattle.lint_findings.specs.declared.records.File.{File}
use Rattle.lint_findings.specs.Findings.{sources}
use Rattle.lint_findings.specs.Flaws.{catalog_ids}
use Rattle.fluent_grammar.specs.Tiling.{list, listed, tree}
use Rattle.fluent_grammar.specs.Tree as t
use Rattle.fluent_grammar.specs.Words.{Text}
use Rattle.fluent_meaning.proofs.Stays.{first_stays}
use Rattle.fluent_meaning.specs.Ids.{Ids, Meaning, entries_by_id, function, message, number_pair, term}
use Rattle.fluent_tidy_laws.specs.Joined.{lists}
use Rattle.lint_entries.specs.Kept.{kept_entries}
use Rattle.fluent_lint.specs.FileTiles.{files_view}
use Rattle.fluent_lint.specs.Known.{by_ids, functions_by_id, trees_by_id}
use Rattle.fluent_lint.specs.Reading.{bare_tree, sources_of}

-- comments make no difference to what is kept
pub kept_bare : (es : List t.Entry) → kept_entries (map uncommented es) ≡ kept_entries es
kept_bare [] = refl
kept_bare (t.message m ∷ es) = ap (λ l. Some (t.message (record m { comment = None })) ∷ l) (kept_bare es)
kept_bare (t.term m ∷ es) = ap (λ l. Some (t.term (record m { comment = None })) ∷ l) (kept_bare es)
kept_bare (t.comment c ∷ es) = kept_bare es
kept_bare (t.group_comment c ∷ es) = kept_bare es
kept_bare (t.resource_comment c ∷ es) = kept_bare es
kept_bare (t.junk s ∷ es) = ap (λ l. None ∷ l) (kept_bare es)

-- what was read of a file is at its index
pub read_at : {A X : Type 0} (f : A → X) (g : Text → X) (xs : List A) (files : List File) → map f xs ≡ map g (sources_of files) →
    (i : ℕ) (a : A) (d : File) → i < length files → f (get_or xs i a) ≡ g (get_or files i d).source.now
read_at f g xs [] same i a d inside = absurd (omega (arith, inside))
read_at f g [] (y ∷ ys) same i a d inside = absurd cc
read_at f g (x ∷ xs) (y ∷ ys) same zero a d inside = cc
read_at f g (x ∷ xs) (y ∷ ys) same (suc i) a d inside =
    let others : map f xs ≡ map g (sources_of ys) = cc in
    read_at f g xs ys others i a d (omega (arith, inside))

-- ---- ids

abbrev pair : Type 0
pair = Text × Meaning (Unit {0})

by_id-++ : (es more : List t.Entry) → ◌≡◌ {A = List pair} (entries_by_id (es ++ more)) (entries_by_id es ++ entries_by_id more)
by_id-++ [] more = refl
by_id-++ (t.message m ∷ es) more = ap (λ l. (m.id, message m) ∷ l) (by_id-++ es more)
by_id-++ (t.term m ∷ es) more = ap (λ l. (m.id, term m) ∷ l) (by_id-++ es more)
by_id-++ (t.comment c ∷ es) more = by_id-++ es more
by_id-++ (t.group_comment c ∷ es) more = by_id-++ es more
by_id-++ (t.resource_comment c ∷ es) more = by_id-++ es more
by_id-++ (t.junk s ∷ es) more = by_id-++ es more

bare_listed : (es : List t.Entry) → ◌≡◌ {A = List pair} (entries_by_id (map uncommented es)) (entries_by_id (listed es))
bare_listed [] = refl
bare_listed (t.message m ∷ es) = ap (λ l. (m.id, message (record m { comment = None })) ∷ l) (bare_listed es)
bare_listed (t.term m ∷ es) = ap (λ l. (m.id, term (record m { comment = None })) ∷ l) (bare_listed es)
bare_listed (t.comment c ∷ es) = bare_listed es
bare_listed (t.group_comment c ∷ es) = bare_listed es
bare_listed (t.resource_comment c ∷ es) = bare_listed es
bare_listed (t.junk s ∷ es) = bare_listed es

by_trees : (texts : List Text) (trees : List (Resource (Bor Text))) → map entries_of trees ≡ map bare_tree texts → trees_by_id trees ≡ entries_by_id (lists texts)
by_trees [] [] same = refl
by_trees [] (x ∷ xs) same = absurd cc
by_trees (s ∷ ss) [] same = absurd cc
by_trees (s ∷ ss) (x ∷ xs) same =
    let here : entries_of x ≡ bare_tree s = cc in
    let others : map entries_of xs ≡ map bare_tree ss = cc in
    ap (λ es. entries_by_id es ++ trees_by_id xs) here
    ∙ ap (λ l. l ++ trees_by_id xs) (bare_listed (tree s))
    ∙ ap (λ l. entries_by_id (list s) ++ l) (by_trees ss xs others)
    ∙ sym (by_id-++ (list s) (lists ss))

pub sources_viewed : (files : List File) → sources (files_view files) ≡ sources_of files
sources_viewed [] = refl
sources_viewed (f ∷ fs) = ap (λ l. f.source.now ∷ l) (sources_viewed fs)

-- the ids of files are those of their trees
pub ids_are : (names : List Text) (files : List File) (trees : List (Resource (Bor Text))) → map entries_of trees ≡ map bare_tree (sources_of files) →
    by_ids names (trees_by_id trees) ≡ catalog_ids names (sources (files_view files))
ids_are names files trees same =
    ap (by_ids names) (by_trees (sources_of files) trees same) ∙ sym (ap (catalog_ids names) (sources_viewed files))

abbrev named : List Text → Ids (Unit {0})
named names = number_pair ∷ functions_by_id names

are_functions : (names : List Text) → AreFunctions (named names)
are_functions names =
    All-cons (λ (p : pair). is_entry (Some p.1) ≡ false) number_pair (functions_by_id names) refl
    (All-map (λ (p : pair). is_entry (Some p.1) ≡ false) (λ name. (name, function tt)) names (λ k d inside. refl))

-- each message and each term that an id stands for is in one of the trees
pub are_declared : (names : List Text) (trees : List (Resource (Bor Text))) → AreDeclaredIn (by_ids names (trees_by_id trees)) trees
are_declared names trees id e =
    ap is_entry (first_stays (number_pair ∷ []) (functions_by_id names ++ trees_by_id trees) id ∙ sym (first_stays (named names) (trees_by_id trees) id))
    ∙ declared_in_trees (named names) trees (are_functions names) id e
