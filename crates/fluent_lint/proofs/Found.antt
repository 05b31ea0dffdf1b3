-- What is known and found of a catalog and of its reference.
use Rattle.std.proofs.Common.{◌≡◌, ◌∙◌, Bool, List, [], ◌∷◌, ◌++◌, Option, map, sym, ap, subst, append-nil, Bor}
use Rattle.fluent_ast.specs.Borrowed.{entries_of}
use Rattle.fluent_ast.specs.declared.Resource.{Resource}
use Rattle.lint_nodes.specs.Catalog.{AreDeclaredIn}
use Rattle.lint_findings.specs.declared.records.File as code
use Rattle.lint_findings.specs.ComparisonFindings.{message_findings}
use Rattle.lint_findings.specs.Files.{File}
use Rattle.lint_findings.specs.Finding.{Finding}
use Rattle.lint_findings.specs.Findings.{Options, Rules, called_functions, known_functions, known_ids, missing_messages, sources, translation_rules}
use Rattle.lint_findings.specs.Flaws.{catalog_ids}
use Rattle.lint_findings.specs.UnusedTerms.{is_referred_in}
use Rattle.fluent_grammar.specs.Tree as t
use Rattle.fluent_grammar.specs.Words.{Text}
use Rattle.fluent_meaning.specs.Ids.{Ids}
use Rattle.lint_comparison.proofs.MissingParts.{missing_found}
use Rattle.fluent_lint.specs.FileTiles.{files_view}
use Rattle.fluent_lint.specs.Known.{by_ids, trees_by_id}
use Rattle.fluent_lint.specs.KnownIds.{compare_by}
use Rattle.fluent_lint.specs.Reading.{bare_tree, sources_of}
use Rattle.fluent_lint.specs.Found.{found_by, found_by_files, told_if}
use Rattle.fluent_lint.specs.declared.looked.Looked.{Looked}
use Rattle.fluent_lint.proofs.Trees.{are_declared, ids_are, sources_viewed}

-- the functions that the sources of a reference call are those that its files call
pub called_are : (references : List code.File) (called : List Text) → called ≡ called_functions (sources_of references) → called ≡ called_functions (sources (files_view references))
called_are references called are = are ∙ ap called_functions (sym (sources_viewed references))

module _ (options : Options) (references : List File) (files : List code.File) (trees : List (Resource (Bor Text))) (read : map entries_of trees ≡ map bare_tree (sources_of files)) where
  -- the ids of files are those of their trees
  pub known_are : (called : List Text) → called ≡ called_functions (sources references) → by_ids (options.functions ++ called) (trees_by_id trees) ≡ known_ids options references (files_view files)
  known_are called are = ids_are (options.functions ++ called) files trees read ∙ ap (λ names. catalog_ids (options.functions ++ names) (sources (files_view files))) are

  -- each message and each term that such an id stands for is in one of the trees
  pub known_declared : (ids : Ids (Unit {0})) → ids ≡ known_ids options references (files_view files) → AreDeclaredIn ids trees
  known_declared ids are =
      let known = known_functions options references in
      subst (λ these. AreDeclaredIn these trees) (ids_are known files trees read ∙ sym are) (are_declared known trees)

-- ---- findings

module _ (options : Options) (files : List File) where
  abbrev Compare : Type 0
  Compare = Text → t.Entry → Text → List Finding

  abbrev rules_with : (Text → Bool) → Ids (Unit {0}) → Ids (Unit {0}) → Ids (Unit {0}) → Compare → Rules
  rules_with is_referred functions ids reference compare = record {
    functions = functions;
    ids = ids;
    reference = reference;
    plurals = options.plurals;
    is_referred = is_referred;
    compare = compare;
  }

  abbrev rules_by : Ids (Unit {0}) → Ids (Unit {0}) → Ids (Unit {0}) → Compare → Rules
  rules_by = rules_with (is_referred_in (sources files))

  abbrev known : List File → List File → Ids (Unit {0})
  known references of = known_ids options references of

  module _ (looked : Option Looked) where
    -- by the ids that are known, of a catalog by itself
    alone : found_by (rules_by (known [] []) (known [] files) (known [] []) (λ source e s. [])) looked [] files ≡ told_if looked options [] files
    alone =
        append-nil (found_by_files (rules_by (known [] []) (known [] files) (known [] []) (λ source e s. [])) looked [] files)
        ∙ ap (λ names. found_by_files (rules_by (catalog_ids names []) (catalog_ids names (sources files)) (catalog_ids names []) (λ source e s. [])) looked [] files) (append-nil options.functions)

    -- and with a reference
    compared : (references : List File) →
        found_by (rules_by (known references []) (known references files) (known references references) (message_findings (known references files) (known references references) options.plurals)) looked references files
        ≡ found_by_files (translation_rules options references files) looked [] files ++ missing_messages options references files
    compared references =
        ap (λ found. found_by_files (translation_rules options references files) looked [] files ++ found) (sym (missing_found (known references files) references))

    by_known : (references : List code.File) →
        found_by (rules_by (known (files_view references) []) (known (files_view references) files) (known (files_view references) (files_view references)) (compare_by (known (files_view references) files) (known (files_view references) (files_view references)) options.plurals references)) looked (files_view references) files
        ≡ told_if looked options (files_view references) files
    by_known [] = alone
    by_known (r ∷ rs) = compared (files_view (r ∷ rs))

    -- By the ids that are known, this is all that is found in the files with the reference, if it has files.
    pub all_found : (references : List code.File) (is_referred : Text → Bool) (functions ids reference : Ids (Unit {0})) (compare : Compare) →
        ((id : Text) → is_referred id ≡ is_referred_in (sources files) id) →
        functions ≡ known (files_view references) [] → ids ≡ known (files_view references) files → reference ≡ known (files_view references) (files_view references) →
        compare ≡ compare_by ids reference options.plurals references →
        found_by (rules_with is_referred functions ids reference compare) looked (files_view references) files ≡ told_if looked options (files_view references) files
    all_found references is_referred functions ids reference compare referred functions_are ids_are reference_is compares =
        let rs = files_view references in
        let same : is_referred ≡ is_referred_in (sources files) = λ i. λ id. referred id i in
        ap (λ these. found_by (rules_with these functions ids reference compare) looked rs files) same
        ∙ ap (λ these. found_by (rules_by functions ids reference these) looked rs files) compares
        ∙ ap (λ these. found_by (rules_by these ids reference (compare_by ids reference options.plurals references)) looked rs files) functions_are
        ∙ ap (λ these. found_by (rules_by (known rs []) these reference (compare_by these reference options.plurals references)) looked rs files) ids_are
        ∙ ap (λ these. found_by (rules_by (known rs []) (known rs files) these (compare_by (known rs files) these options.plurals references)) looked rs files) reference_is
        ∙ by_known references
