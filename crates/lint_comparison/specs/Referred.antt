-- The functions that trees call, and the terms that they refer to.
use Rattle.std.specs.Prelude.{◌≡◌, List, ◌++◌, map, Option, Vec}
use Rattle.std.specs.Global.{Global}
use Rattle.std.specs.List.{flat_map}
use Rattle.std.specs.Option.{option_to_list}
use denote.Ref.{Bor}
use Rattle.fluent_ast.specs.Borrowed.{entries_of}
use Rattle.fluent_ast.specs.declared.Resource.{Resource}
use Rattle.lint_nodes.specs.HasNames.{texts}
use Rattle.lint_nodes.specs.HasReached.{node_references}
use Rattle.lint_comparison.specs.declared.referred.Referred.{Referred}
use Rattle.lint_comparison.specs.declared.referred.Referred.TheVariants.{Functions, Terms}
use Rattle.lint_entries.specs.AttributePlaces.{uncommented}
use Rattle.lint_findings.specs.Findings as f
use Rattle.lint_findings.specs.Flaws.{entry_patterns}
use Rattle.lint_findings.specs.Nodes.{Node}
use Rattle.lint_findings.specs.References.{elements_references}
use Rattle.lint_findings.specs.UnusedTerms.{referred_term, referred_terms}
use Rattle.fluent_grammar.specs.Tiling.{tree}
use Rattle.fluent_grammar.specs.Tree as t
use Rattle.fluent_grammar.specs.Tree.{Elements, Inline}
use Rattle.fluent_grammar.specs.Words.{Text}
use Rattle.fluent_tidy_laws.specs.Joined.{lists}

-- the ids that a reference names
abbrev pub named_by : Referred → Inline → List Text
named_by Functions = f.called_function
named_by Terms = referred_term

-- ---- the ids that references name

module _ (named : Inline → List Text) where
  abbrev pub node_ids : Node → List Text
  node_ids node = flat_map named (node_references node)

  abbrev pub pattern_ids : Elements → List Text
  pattern_ids es = flat_map named (elements_references es)

  abbrev pub value_ids : Option Elements → List Text
  value_ids value = flat_map pattern_ids (option_to_list value)

  abbrev pub attribute_ids : List t.Attribute → List Text
  attribute_ids as' = flat_map (λ (a : t.Attribute). pattern_ids a.value) as'

  abbrev pub entry_ids : t.Entry → List Text
  entry_ids e = flat_map (λ p. pattern_ids p.1) (entry_patterns e)

  abbrev pub entries_ids : List t.Entry → List Text
  entries_ids es = flat_map entry_ids es

  abbrev pub trees_ids : List (Resource (Bor Text)) → List Text
  trees_ids trees = flat_map entries_ids (map entries_of trees)

  -- those of sources
  abbrev pub sources_ids : List Text → List Text
  sources_ids sources = flat_map (λ p. pattern_ids p.1) (flat_map entry_patterns (lists sources))

-- ---- what references add

-- these ids are added after the others
abbrev pub AddsIds : Vec (Bor Text) Global → Vec (Bor Text) Global → List Text → Type 0
AddsIds old new added = texts new.items ≡ texts old.items ++ added

-- the trees of these sources, without the comments above messages and terms
abbrev pub AreTreesOf : List Text → List (Resource (Bor Text)) → Type 0
AreTreesOf sources trees = map entries_of trees ≡ map (λ source. map uncommented (tree source)) sources

-- the ids that the sources of these trees name
abbrev pub AreIdsIn : Referred → List (Resource (Bor Text)) → Vec (Bor Text) Global → Type 0
AreIdsIn what trees ids = (sources : List Text) → AreTreesOf sources trees → texts ids.items ≡ sources_ids (named_by what) sources

-- so these are the functions that sources with these trees call
abbrev pub AreCalledIn : List (Resource (Bor Text)) → Vec (Bor Text) Global → Type 0
AreCalledIn trees ids = (sources : List Text) → AreTreesOf sources trees → texts ids.items ≡ f.called_functions sources

-- and these the terms that they refer to
abbrev pub AreReferredIn : List (Resource (Bor Text)) → Vec (Bor Text) Global → Type 0
AreReferredIn trees ids = (sources : List Text) → AreTreesOf sources trees → texts ids.items ≡ referred_terms sources
