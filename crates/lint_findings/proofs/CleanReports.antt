-- A catalog with a clean report is flawless.
use Rattle.std.proofs.Common.{◌≡◌, ◌∙◌, Bool, true, false, cond, if◌then◌else◌, List, [], ◌∷◌, ◌++◌, map, Option, Some, None, refl, sym, ap, subst}
use Rattle.std.specs.Prelude.{is_some, drop, codes, not}
use Rattle.std.specs.Cmp.Lexicographic.{same_text}
use Rattle.std.specs.Str.{bytes_eq}
use Rattle.std.specs.Option.{option_to_list}
use Rattle.std.specs.List.{All, flat_map}
use Rattle.std.proofs.lemmas.List.Elements.{All-nil, All-cons, All-head, All-tail, All-append}
use Rattle.fluent_grammar.specs.Words.{Text, hyphen, is_among}
use Rattle.fluent_grammar.specs.Tree as t
use Rattle.fluent_grammar.specs.Tree.{Elements, Inline, Variants}
use Rattle.fluent_grammar.specs.Tiling.{listed, list}
use Rattle.fluent_tidy_laws.specs.Joined.{lists}
use Rattle.fluent_errors.specs.Errors.{Unresolved, unknown, no_value, missing_default, cyclic, to_message, to_term}
use Rattle.fluent_meaning.specs.Choice.{first_default}
use Rattle.fluent_meaning.specs.Fallback.{with_attribute}
use Rattle.fluent_meaning.specs.Ids.{Ids, Meaning, number_function, function, message, term, find, number_pair, entries_by_id, attribute_named}
use Rattle.fluent_meaning.specs.Substitution.{message_target, term_target, there_or}
use Rattle.fluent_meaning.proofs.Stays.{first_stays}
use Rattle.fluent_plurals.specs.declared.plurals.LanguagePlurals.{LanguagePlurals}
use Rattle.lint_findings.specs.Tiles.{Tile, entry_tile, junk_tile, tiles}
use Rattle.lint_findings.specs.References.{elements_references, reference_error, target_error, function_error, pattern_errors}
use Rattle.lint_findings.specs.Endless.{meaning_patterns, is_pattern_among, endless_patterns}
use Rattle.lint_findings.specs.Flaws.{unresolved, duplicate_key, duplicate_keys, is_key_among, default_flaws, select_flaws, elements_selects, pattern_flaws, catalog_ids, entry_patterns, attribute_patterns, Owner}
use Rattle.lint_findings.specs.Nodes.{Node, expression, select, repeated_key, elements_nodes}
use Rattle.lint_findings.specs.Occurrences.{Occurrence, occurrences, PatternPlace}
use Rattle.lint_findings.specs.Finding.{Finding}
use Rattle.lint_findings.specs.FlawHints.{never_ends}
use Rattle.lint_findings.specs.FlawWords.{flaw_words}
use Rattle.lint_findings.proofs.NodeRemarks.{flaw_finding, node_findings_are}
use Rattle.lint_findings.specs.EntryFindings.{endless_remark, finding_in, node_flaws, node_findings, nodes_findings, pattern_findings, attribute_findings, patterns_findings, first_place, pattern_places, entry_findings}
use Rattle.lint_findings.specs.Files.{File}
use Rattle.lint_findings.specs.DuplicateIds.{Declaration, duplicate_findings}
use Rattle.lint_findings.specs.Findings.{Rules, FileFinding, FileTile, findings_in, tiles_in, sources, findings_of_tile, findings_of_tiles, declarations_of_tile, catalog_rules, translation_rules, known_functions, missing_messages, is_quoted, own_findings, plurals_for, unless_quoted}
use Rattle.lint_findings.specs.PlaceLaws.{tile_entries}
use Rattle.lint_findings.specs.ReportLaws.{program_ids, AreFunctions, IsHarmless, IsFlawless, harmful_codes, HasHarmlessCode, IsClean, CleanCatalogsAreFlawless, CleanTranslationsAreFlawless}
use Rattle.lint_findings.proofs.EndlessPatterns.{endless_goes_on}
use Rattle.lint_findings.proofs.Lists.{all_left, all_right}
use Rattle.lint_findings.proofs.RequestErrors.{HasDefault}
use Rattle.lint_findings.proofs.NodesHold.{IsResolved, IsFound, elements_resolved}
use Rattle.lint_findings.proofs.TilesAreTheList.{tiles_are_the_list}
use Rattle.lint_findings.proofs.FlawlessCatalogs.{at_value}
use Rattle.lint_findings.proofs.ProgramIds.{ids_same, flawless_with_functions}

-- ---- the codes of references

-- the finding of a resolver error has a harmful code
abbrev HasHarmfulCode : Option Unresolved → Type 0
HasHarmfulCode None = Unit {0}
HasHarmfulCode (Some e) = is_among ((flaw_words (unresolved e)).code) harmful_codes ≡ true

there_code : (e : Unresolved) (o : Option Elements) → HasHarmfulCode (Some e) → HasHarmfulCode (target_error (there_or e o))
there_code e None h = h
there_code e (Some es) h = tt

unknown_message : (id : Text) (attr : Option Text) → HasHarmfulCode (Some (unknown (to_message id attr)))
unknown_message id None = refl
unknown_message id (Some a) = refl

unknown_term : (id : Text) (attr : Option Text) → HasHarmfulCode (Some (unknown (to_term id attr)))
unknown_term id None = refl
unknown_term id (Some a) = refl

module _ {F : Type 0} where
  message_code : (id : Text) (attr : Option Text) (o : Option (Meaning F)) → HasHarmfulCode (target_error (message_target id attr o))
  message_code id attr None = unknown_message id attr
  message_code id attr (Some number_function) = unknown_message id attr
  message_code id attr (Some (function f)) = unknown_message id attr
  message_code id attr (Some (term m)) = unknown_message id attr
  message_code id None (Some (message m)) = there_code (no_value id) m.value refl
  message_code id (Some a) (Some (message m)) = there_code (unknown (to_message id (Some a))) (attribute_named a m.attributes) refl

  term_code : (id : Text) (attr : Option Text) (o : Option (Meaning F)) → HasHarmfulCode (target_error (term_target id attr o))
  term_code id attr None = unknown_term id attr
  term_code id attr (Some number_function) = unknown_term id attr
  term_code id attr (Some (function f)) = unknown_term id attr
  term_code id attr (Some (message m)) = unknown_term id attr
  term_code id None (Some (term m)) = tt
  term_code id (Some a) (Some (term m)) = there_code (unknown (to_term id (Some a))) (attribute_named a m.attributes) refl

  function_code : (id : Text) (o : Option (Meaning F)) → HasHarmfulCode (function_error id o)
  function_code id None = refl
  function_code id (Some number_function) = tt
  function_code id (Some (function f)) = tt
  function_code id (Some (message m)) = refl
  function_code id (Some (term m)) = refl

  reference_code : (meaning : Text → Option (Meaning F)) (i : Inline) → HasHarmfulCode (reference_error meaning i)
  reference_code meaning (t.string_literal x) = tt
  reference_code meaning (t.number_literal x) = tt
  reference_code meaning (t.function_reference id a) = function_code id (meaning id)
  reference_code meaning (t.message_reference id a) = message_code id a (meaning id)
  reference_code meaning (t.term_reference id a c) = term_code id a (meaning id)
  reference_code meaning (t.variable_reference x) = tt
  reference_code meaning (t.nested e) = tt

-- ---- from a clean pattern to its flaws

duplicates_are_harmless : (keys : List t.VariantKey) (vs : Variants) → All IsHarmless (duplicate_keys keys vs)
duplicates_are_harmless keys t.no_variants = All-nil IsHarmless
duplicates_are_harmless keys (t.variant k es d vs) =
    All-append IsHarmless (if is_key_among k keys then duplicate_key k ∷ [] else []) (duplicate_keys (k ∷ keys) vs) (one (is_key_among k keys)) (duplicates_are_harmless (k ∷ keys) vs)
  where
    one : (b : Bool) → All IsHarmless (if b then duplicate_key k ∷ [] else [])
    one true = All-cons IsHarmless (duplicate_key k) [] tt (All-nil IsHarmless)
    one false = All-nil IsHarmless

default_is_harmless : (o : Option Elements) → is_some o ≡ true → All IsHarmless (default_flaws o)
default_is_harmless None h = absurd cc
default_is_harmless (Some es) h = All-nil IsHarmless

selects_are_harmless : (vss : List Variants) → All HasDefault vss → All IsHarmless (flat_map select_flaws vss)
selects_are_harmless [] h = All-nil IsHarmless
selects_are_harmless (vs ∷ vss) h =
    All-append IsHarmless (select_flaws vs) (flat_map select_flaws vss)
    (All-append IsHarmless (default_flaws (first_default vs)) (duplicate_keys [] vs) (default_is_harmless (first_default vs) (All-head HasDefault vs vss h)) (duplicates_are_harmless [] vs))
    (selects_are_harmless vss (All-tail HasDefault vs vss h))

errors_step : (o : Option Unresolved) (rest : List Unresolved) → o ≡ None → All IsHarmless (map unresolved rest) → All IsHarmless (map unresolved (option_to_list o ++ rest))
errors_step None rest e h = h
errors_step (Some x) rest e h = absurd cc

errors_are_harmless : (meaning : Text → Option (Meaning (Unit {0}))) (is : List Inline) → All (IsFound meaning) is →
    All IsHarmless (map unresolved (flat_map (λ i. option_to_list (reference_error meaning i)) is))
errors_are_harmless meaning [] h = All-nil IsHarmless
errors_are_harmless meaning (i ∷ is) h =
    errors_step (reference_error meaning i) _ (All-head (IsFound meaning) i is h) (errors_are_harmless meaning is (All-tail (IsFound meaning) i is h))

-- ---- from a clean report to its patterns

module _ (rules : Rules) where
  abbrev Clean : List Finding → Type 0
  Clean fs = All HasHarmlessCode fs

  abbrev Harmless : Elements → Type 0
  Harmless es = All IsHarmless (pattern_flaws rules.ids es)

  abbrev HasHarmless : t.Entry → Type 0
  HasHarmless e = All (λ p. Harmless p.1) (entry_patterns e)

  module _ (source : Text) (plurals : Option LanguagePlurals) where
    reference_resolved : (owner at : Text) (o : Option Unresolved) → HasHarmfulCode o →
        Clean (map (flaw_finding rules.ids rules.reference source owner at) (map unresolved (option_to_list o))) → o ≡ None
    reference_resolved owner at None code h = refl
    reference_resolved owner at (Some e) code h =
        let clean : is_among ((flaw_words (unresolved e)).code) harmful_codes ≡ false = All-head HasHarmlessCode (flaw_finding rules.ids rules.reference source owner at (unresolved e)) [] h in absurd cc

    default_is_there : (owner at : Text) (o : Option Elements) → Clean (map (flaw_finding rules.ids rules.reference source owner at) (default_flaws o)) → is_some o ≡ true
    default_is_there owner at None h =
        let clean : is_among (codes "no-default") harmful_codes ≡ false = All-head HasHarmlessCode (flaw_finding rules.ids rules.reference source owner at (unresolved missing_default)) [] h in absurd cc
    default_is_there owner at (Some ds) h = refl

    node_is_resolved : (owner at : Text) (node : Node) → Clean (map (flaw_finding rules.ids rules.reference source owner at) (node_flaws rules.ids node)) → IsResolved (find rules.ids) node
    node_is_resolved owner at (expression i) h = reference_resolved owner at (reference_error (find rules.ids) i) (reference_code (find rules.ids) i) h
    node_is_resolved owner at (select i vs) h = default_is_there owner at (first_default vs) h
    node_is_resolved owner at (repeated_key k) h = tt

    node_by_findings : (owner at : Text) (node : Node) → Clean (node_findings rules.ids rules.reference plurals source owner at node) → IsResolved (find rules.ids) node
    node_by_findings owner at node h =
        node_is_resolved owner at node (all_left HasHarmlessCode (map (flaw_finding rules.ids rules.reference source owner at) (node_flaws rules.ids node)) _
        (subst Clean (node_findings_are rules.ids rules.reference plurals source owner at node) h))

    nodes_are_resolved : (owner at : Text) (nodes : List Node) (os : List Occurrence) → Clean (nodes_findings rules.ids rules.reference plurals source owner at nodes os) →
        All (IsResolved (find rules.ids)) nodes
    nodes_are_resolved owner at [] os h = All-nil (IsResolved (find rules.ids))
    nodes_are_resolved owner at (node ∷ nodes) [] h =
        All-cons (IsResolved (find rules.ids)) node nodes (node_by_findings owner at node (all_left HasHarmlessCode (node_findings rules.ids rules.reference plurals source owner at node) _ h))
        (nodes_are_resolved owner at nodes [] (all_right HasHarmlessCode (node_findings rules.ids rules.reference plurals source owner at node) _ h))
    nodes_are_resolved owner at (node ∷ nodes) (o ∷ os) h =
        All-cons (IsResolved (find rules.ids)) node nodes (node_by_findings owner o.at node (all_left HasHarmlessCode (node_findings rules.ids rules.reference plurals source owner o.at node) _ h))
        (nodes_are_resolved owner at nodes os (all_right HasHarmlessCode (node_findings rules.ids rules.reference plurals source owner o.at node) _ h))

    ends : (es : Elements) (owner at : Text) (goes_on is_endless : Bool) → (is_endless ≡ true → goes_on ≡ true) →
        Clean (if goes_on then finding_in source owner at (endless_remark rules.ids rules.reference es) ∷ [] else []) → All IsHarmless (if is_endless then unresolved cyclic ∷ [] else [])
    ends es owner at true is_endless goes h =
        let clean : is_among (codes "cyclic-reference") harmful_codes ≡ false = All-head HasHarmlessCode (finding_in source owner at (endless_remark rules.ids rules.reference es)) [] h in absurd cc
    ends es owner at false true goes h = let bad : false ≡ true = goes refl in absurd cc
    ends es owner at false false goes h = All-nil IsHarmless

    pattern_is_harmless : (owner : Text) (place : PatternPlace) (es : Elements) → Clean (pattern_findings rules.ids rules.reference plurals source owner place es) → Harmless es
    pattern_is_harmless owner place es h =
        let b = never_ends rules.ids es in
        let endless = is_pattern_among es (endless_patterns rules.ids) in
        let first = all_left HasHarmlessCode (if b then finding_in source owner place.name_at (endless_remark rules.ids rules.reference es) ∷ [] else []) _ h in
        let later = all_right HasHarmlessCode (if b then finding_in source owner place.name_at (endless_remark rules.ids rules.reference es) ∷ [] else []) _ h in
        let others = all_left HasHarmlessCode (nodes_findings rules.ids rules.reference plurals source owner place.pattern_at (elements_nodes es) (occurrences place.pattern_at)) _ later in
        let resolved = elements_resolved (find rules.ids) es (nodes_are_resolved owner place.pattern_at (elements_nodes es) (occurrences place.pattern_at) others) in
        All-append IsHarmless (map unresolved (pattern_errors (find rules.ids) es)) _ (errors_are_harmless (find rules.ids) (elements_references es) resolved.0)
        (All-append IsHarmless (flat_map select_flaws (elements_selects es)) _ (selects_are_harmless (elements_selects es) resolved.1) (ends es owner place.name_at b endless (endless_goes_on rules.ids es) first))

    patterns_are_harmless : (s : Text) (before : List Text) (places : List PatternPlace) (ps : List (Owner × Elements)) → Clean (patterns_findings rules.ids rules.reference plurals source s before places ps) →
        All (λ p. Harmless p.1) ps
    patterns_are_harmless s before places [] h = All-nil (λ p. Harmless p.1)
    patterns_are_harmless s before places (p ∷ ps) h =
        let owner = with_attribute p.0.label p.0.attribute in
        let place = first_place s places in
        let rest = all_right HasHarmlessCode (attribute_findings rules.ids rules.reference plurals source owner before place p.0.attribute) _ h in
        All-cons (λ q. Harmless q.1) p ps (pattern_is_harmless owner place p.1 (all_left HasHarmlessCode (pattern_findings rules.ids rules.reference plurals source owner place p.1) _ rest))
        (patterns_are_harmless s (option_to_list p.0.attribute ++ before) (drop 1 places) ps (all_right HasHarmlessCode (pattern_findings rules.ids rules.reference plurals source owner place p.1) _ rest))

    entry_is_harmless : (e : t.Entry) (s : Text) → Clean (entry_findings rules.ids rules.reference plurals source e s) → HasHarmless e
    entry_is_harmless e s h = patterns_are_harmless s [] (pattern_places e s) (entry_patterns e) h

    -- what is left out if placeables in quotes are right is harmless
    harmless_step : (f : Finding) (fs rest : List Finding) (b : Bool) → bytes_eq f.code (codes "placeable-in-literal") ≡ b → (Clean rest → Clean fs) →
        Clean (cond (not b) (f ∷ rest) rest) → Clean (f ∷ fs)
    harmless_step f fs rest true is later h =
        let harmless : HasHarmlessCode f = ap (λ c. is_among c harmful_codes) (same_text f.code (codes "placeable-in-literal") (sym is)) in
        All-cons HasHarmlessCode f fs harmless (later h)
    harmless_step f fs rest false is later h =
        All-cons HasHarmlessCode f fs (All-head HasHarmlessCode f rest h) (later (All-tail HasHarmlessCode f rest h))

    harmless_left : (fs : List Finding) → Clean (unless_quoted true fs) → Clean fs
    harmless_left [] h = h
    harmless_left (f ∷ fs) h = harmless_step f fs (unless_quoted true fs) (bytes_eq f.code (codes "placeable-in-literal")) refl (harmless_left fs) h

    without_quoted : (b : Bool) (fs : List Finding) → Clean (unless_quoted b fs) → Clean fs
    without_quoted true fs h = harmless_left fs h
    without_quoted false fs h = h

    middle : (xs ys zs : List Finding) → Clean (xs ++ (ys ++ zs)) → Clean ys
    middle xs ys zs h = all_left HasHarmlessCode ys zs (all_right HasHarmlessCode xs (ys ++ zs) h)

  -- ---- tiles

  abbrev TileIsHarmless : Tile → Type 0
  TileIsHarmless (junk_tile at s refusal) = Unit {0}
  TileIsHarmless (entry_tile at s e) = HasHarmless e

  tile_is_harmless : (before : List Declaration) (file : File) (tile : Tile) → Clean (findings_of_tile rules before file tile) → TileIsHarmless tile
  tile_is_harmless before file (junk_tile at s refusal) h = tt
  tile_is_harmless before file (entry_tile at s (t.message m)) h =
      let e = t.message m in
      let own = middle file.source (plurals_for rules e) (duplicate_findings rules.functions before e at m.id) (own_findings rules file.source e s) _ h in
      entry_is_harmless file.source (plurals_for rules e) e s (without_quoted file.source (plurals_for rules e) (is_quoted rules.reference e) _ own)
  tile_is_harmless before file (entry_tile at s (t.term m)) h =
      let e = t.term m in
      let own = middle file.source (plurals_for rules e) (duplicate_findings rules.functions before e at m.id) (own_findings rules file.source e s) _ h in
      entry_is_harmless file.source (plurals_for rules e) e s (without_quoted file.source (plurals_for rules e) (is_quoted rules.reference e) _ own)
  tile_is_harmless before file (entry_tile at s (t.comment c)) h = All-nil (λ p. Harmless p.1)
  tile_is_harmless before file (entry_tile at s (t.group_comment c)) h = All-nil (λ p. Harmless p.1)
  tile_is_harmless before file (entry_tile at s (t.resource_comment c)) h = All-nil (λ p. Harmless p.1)
  tile_is_harmless before file (entry_tile at s (t.junk x)) h = All-nil (λ p. Harmless p.1)

  without_file : (file : File) (fs : List Finding) → IsClean (findings_in file fs) → Clean fs
  without_file file [] h = All-nil HasHarmlessCode
  without_file file (f ∷ fs) h =
      All-cons HasHarmlessCode f fs (All-head (λ (g : FileFinding). HasHarmlessCode g.finding) (record { file = file; finding = f }) (findings_in file fs) h)
      (without_file file fs (All-tail (λ (g : FileFinding). HasHarmlessCode g.finding) (record { file = file; finding = f }) (findings_in file fs) h))

  tiles_are_harmless : (before : List Declaration) (ts : List FileTile) → IsClean (findings_of_tiles rules before ts) → All (λ (x : FileTile). TileIsHarmless x.tile) ts
  tiles_are_harmless before [] h = All-nil (λ (x : FileTile). TileIsHarmless x.tile)
  tiles_are_harmless before (x ∷ xs) h =
      let here = all_left (λ (g : FileFinding). HasHarmlessCode g.finding) (findings_in x.file (findings_of_tile rules before x.file x.tile)) _ h in
      let rest = all_right (λ (g : FileFinding). HasHarmlessCode g.finding) (findings_in x.file (findings_of_tile rules before x.file x.tile)) _ h in
      All-cons (λ (y : FileTile). TileIsHarmless y.tile) x xs (tile_is_harmless before x.file x.tile (without_file x.file (findings_of_tile rules before x.file x.tile) here))
      (tiles_are_harmless (before ++ declarations_of_tile rules x.file x.tile) xs rest)

  -- ---- the entries of the sources

  tile_entries_are_harmless : (file : File) (ts : List Tile) → All (λ (x : FileTile). TileIsHarmless x.tile) (map (λ tile. record { file = file; tile = tile }) ts) → All HasHarmless (tile_entries ts)
  tile_entries_are_harmless file [] h = All-nil HasHarmless
  tile_entries_are_harmless file (entry_tile at s e ∷ ts) h =
      All-cons HasHarmless e (tile_entries ts) (All-head (λ (x : FileTile). TileIsHarmless x.tile) (record { file = file; tile = entry_tile at s e }) _ h)
      (tile_entries_are_harmless file ts (All-tail (λ (x : FileTile). TileIsHarmless x.tile) (record { file = file; tile = entry_tile at s e }) _ h))
  tile_entries_are_harmless file (junk_tile at s refusal ∷ ts) h =
      tile_entries_are_harmless file ts (All-tail (λ (x : FileTile). TileIsHarmless x.tile) (record { file = file; tile = junk_tile at s refusal }) _ h)

  listed_are_harmless : (es : List t.Entry) → All HasHarmless es → All HasHarmless (listed es)
  listed_are_harmless [] h = All-nil HasHarmless
  listed_are_harmless (t.message m ∷ es) h =
      All-cons HasHarmless (t.message (record m { comment = None })) (listed es) (All-head HasHarmless (t.message m) es h) (listed_are_harmless es (All-tail HasHarmless (t.message m) es h))
  listed_are_harmless (t.term m ∷ es) h =
      All-cons HasHarmless (t.term (record m { comment = None })) (listed es) (All-head HasHarmless (t.term m) es h) (listed_are_harmless es (All-tail HasHarmless (t.term m) es h))
  listed_are_harmless (t.comment c ∷ es) h = listed_are_harmless es (All-tail HasHarmless (t.comment c) es h)
  listed_are_harmless (t.group_comment c ∷ es) h = listed_are_harmless es (All-tail HasHarmless (t.group_comment c) es h)
  listed_are_harmless (t.resource_comment c ∷ es) h = listed_are_harmless es (All-tail HasHarmless (t.resource_comment c) es h)
  listed_are_harmless (t.junk x ∷ es) h = listed_are_harmless es (All-tail HasHarmless (t.junk x) es h)

  source_is_harmless : (file : File) → All (λ (x : FileTile). TileIsHarmless x.tile) (tiles_in file) → All HasHarmless (list file.source)
  source_is_harmless file h =
      rw (← tiles_are_the_list file.source) (listed_are_harmless (tile_entries (tiles file.source)) (tile_entries_are_harmless file (tiles file.source) h))

  sources_are_harmless : (files : List File) → All (λ (x : FileTile). TileIsHarmless x.tile) (flat_map tiles_in files) → All HasHarmless (lists (sources files))
  sources_are_harmless [] h = All-nil HasHarmless
  sources_are_harmless (file ∷ files) h =
      All-append HasHarmless (list file.source) (lists (sources files)) (source_is_harmless file (all_left (λ (x : FileTile). TileIsHarmless x.tile) (tiles_in file) _ h))
      (sources_are_harmless files (all_right (λ (x : FileTile). TileIsHarmless x.tile) (tiles_in file) _ h))

  -- ---- the ids of the sources

  abbrev PatternsOf : Ids (Unit {0}) → List Elements
  PatternsOf ids = flat_map (λ (pair : Text × Meaning (Unit {0})). meaning_patterns pair.1) ids

  attributes_are_harmless : (label : Text) (as' : List t.Attribute) → All (λ p. Harmless p.1) (attribute_patterns label as') → All Harmless (map (λ (a : t.Attribute). a.value) as')
  attributes_are_harmless label [] h = All-nil Harmless
  attributes_are_harmless label (a ∷ as') h =
      All-cons Harmless a.value (map (λ (x : t.Attribute). x.value) as') (All-head (λ p. Harmless p.1) (record { label = label; attribute = Some a.id }, a.value) (attribute_patterns label as') h)
      (attributes_are_harmless label as' (All-tail (λ p. Harmless p.1) (record { label = label; attribute = Some a.id }, a.value) (attribute_patterns label as') h))

  value_is_harmless : (owner : Owner) (v : Option Elements) (label : Text) (as' : List t.Attribute) → All (λ p. Harmless p.1) (map (λ es. (owner, es)) (option_to_list v) ++ attribute_patterns label as') →
      All Harmless (option_to_list v ++ map (λ (a : t.Attribute). a.value) as')
  value_is_harmless owner None label as' h = attributes_are_harmless label as' h
  value_is_harmless owner (Some es) label as' h =
      All-cons Harmless es (map (λ (a : t.Attribute). a.value) as') (All-head (λ p. Harmless p.1) (owner, es) (attribute_patterns label as') h)
      (attributes_are_harmless label as' (All-tail (λ p. Harmless p.1) (owner, es) (attribute_patterns label as') h))

  ids_are_harmless : (es : List t.Entry) → All HasHarmless es → All Harmless (PatternsOf (entries_by_id es))
  ids_are_harmless [] h = All-nil Harmless
  ids_are_harmless (t.message m ∷ es) h =
      All-append Harmless (meaning_patterns {F = Unit {0}} (message m)) (PatternsOf (entries_by_id es)) (value_is_harmless (record { label = m.id; attribute = None }) m.value m.id m.attributes (All-head HasHarmless (t.message m) es h))
      (ids_are_harmless es (All-tail HasHarmless (t.message m) es h))
  ids_are_harmless (t.term m ∷ es) h =
      All-append Harmless (meaning_patterns {F = Unit {0}} (term m)) (PatternsOf (entries_by_id es)) (value_is_harmless (record { label = hyphen ∷ m.id; attribute = None }) (Some m.value) (hyphen ∷ m.id) m.attributes (All-head HasHarmless (t.term m) es h))
      (ids_are_harmless es (All-tail HasHarmless (t.term m) es h))
  ids_are_harmless (t.comment c ∷ es) h = ids_are_harmless es (All-tail HasHarmless (t.comment c) es h)
  ids_are_harmless (t.group_comment c ∷ es) h = ids_are_harmless es (All-tail HasHarmless (t.group_comment c) es h)
  ids_are_harmless (t.resource_comment c ∷ es) h = ids_are_harmless es (All-tail HasHarmless (t.resource_comment c) es h)
  ids_are_harmless (t.junk x ∷ es) h = ids_are_harmless es (All-tail HasHarmless (t.junk x) es h)

  functions_are_harmless : (names : List Text) (ids : Ids (Unit {0})) → All Harmless (PatternsOf ids) → All Harmless (PatternsOf (map (λ name. (name, function tt)) names ++ ids))
  functions_are_harmless [] ids h = h
  functions_are_harmless (name ∷ names) ids h = functions_are_harmless names ids h

  catalog_is_harmless : (functions : List Text) (files : List File) → IsClean (findings_of_tiles rules [] (flat_map tiles_in files)) → (id : Text) (m : Meaning (Unit {0})) →
      find (catalog_ids functions (sources files)) id ≡ Some m → All Harmless (meaning_patterns m)
  catalog_is_harmless functions files h id m found =
      let pairs = map (λ name. (name, function tt)) functions ++ entries_by_id (lists (sources files)) in
      at_value Harmless meaning_patterns id m (number_pair ∷ pairs) (sym (first_stays (number_pair ∷ []) pairs id) ∙ found)
      (functions_are_harmless functions (entries_by_id (lists (sources files))) (ids_are_harmless (lists (sources files)) (sources_are_harmless files (tiles_are_harmless [] (flat_map tiles_in files) h))))

-- in a program that has these functions
module _ {F : Type 0} (rules : Rules) (known : List Text) (functions : List (Text × F)) (are : AreFunctions known functions) (files : List File) (same : rules.ids ≡ catalog_ids known (sources files)) where
  in_program : IsClean (findings_of_tiles rules [] (flat_map tiles_in files)) → IsFlawless (program_ids false functions (sources files))
  in_program h =
      let ids = program_ids false functions (sources files) in
      let of_catalog : IsFlawless (catalog_ids known (sources files)) = λ id m found. subst (λ xs. All (λ es. All IsHarmless (pattern_flaws xs es)) (meaning_patterns m)) same (catalog_is_harmless rules known files h id m found) in
      flawless_with_functions ids (subst IsFlawless (sym (ids_same known functions are (sources files))) of_catalog)

pub clean_catalogs_are_flawless : {F : Type 0} → CleanCatalogsAreFlawless F
clean_catalogs_are_flawless options files functions are h = in_program (catalog_rules options files) options.functions functions are files refl h

pub clean_translations_are_flawless : {F : Type 0} → CleanTranslationsAreFlawless F
clean_translations_are_flawless options references files functions are h =
    let rules = translation_rules options references files in
    let own = all_left (λ (g : FileFinding). HasHarmlessCode g.finding) (findings_of_tiles rules [] (flat_map tiles_in files)) (missing_messages options references files) h in
    in_program rules (known_functions options references) functions are files refl own
