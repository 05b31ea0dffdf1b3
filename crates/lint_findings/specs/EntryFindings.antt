-- The findings of an entry by itself, in a catalog.
use Rattle.std.specs.Prelude.{ℕ, ◌-◌, Bool, false, true, if◌then◌else◌, List, [], ◌∷◌, ◌++◌, length, map, drop, take, Option, Some, None, is_some, codes}
use Rattle.std.specs.Option.{option_map_or, option_to_list}
use Rattle.std.specs.List.{list_any}
use Rattle.fluent_grammar.specs.Words.{Text, is_among}
use Rattle.fluent_grammar.specs.Refusal.{Reading, got, refused}
use Rattle.fluent_grammar.specs.Tree as t
use Rattle.fluent_grammar.specs.Tree.{Elements}
use Rattle.fluent_number.specs.declared.plural.PluralCategory.{PluralCategory}
use Rattle.fluent_number.specs.declared.plural.PluralCategory.TheVariants.{FEW, MANY}
use Rattle.fluent_value.specs.Matching.{category_text}
use Rattle.fluent_errors.specs.Errors.{cyclic}
use Rattle.fluent_meaning.specs.Ids.{Ids, find}
use Rattle.fluent_meaning.specs.Choice.{first_default}
use Rattle.fluent_meaning.specs.Fallback.{with_attribute}
use Rattle.fluent_plurals.specs.declared.plurals.LanguagePlurals.{LanguagePlurals}
use Rattle.lint_findings.specs.SyntaxErrors.{in_backticks}
use Rattle.lint_findings.specs.References.{elements_references, reference_error}
use Rattle.lint_findings.specs.Flaws.{Flaw, unresolved, duplicate_key, default_flaws, entry_patterns, Owner}
use Rattle.lint_findings.specs.Nodes.{Node, expression, select, repeated_key, elements_nodes}
use Rattle.lint_findings.specs.Occurrences.{Occurrence, occurrences, pattern_read, PatternPlace, entry_places}
use Rattle.lint_findings.specs.MissingCategories.{missing_categories}
use Rattle.lint_findings.specs.Escapes.{invalid_escapes, named_escapes}
use Rattle.lint_findings.specs.Misuses.{Misuse, call_misuses, misuse_remark}
use Rattle.lint_findings.specs.Facts.{node_facts, fact_remark}
use Rattle.lint_findings.specs.Encodings.{wrong_encodings}
use Rattle.lint_findings.specs.Letters.{letters}
use Rattle.lint_findings.specs.Scripts.{mixed_words}
use Rattle.lint_findings.specs.Finding.{warning, note, Finding, Remark, Severity, remark, finding_at}
use Rattle.lint_findings.specs.Losses.{counted}
use Rattle.lint_findings.specs.Shown.{variants_show}
use Rattle.lint_findings.specs.FlawHints.{never_ends, endless_hint, flaw_hint}
use Rattle.lint_findings.specs.FlawWords.{flaw_words}

-- ---- places

-- the places of the patterns that an entry has: a message may have no value
abbrev pub pattern_places : t.Entry → Text → List PatternPlace
pattern_places (t.message m) s = if is_some m.value then entry_places s else drop 1 (entry_places s)
pattern_places (t.term m) s = entry_places s
pattern_places _ s = []

abbrev pub first_place : Text → List PatternPlace → PatternPlace
first_place s [] = record { attribute = None; name_at = s; pattern_at = s }
first_place s (place ∷ places) = place

-- ---- what a node has

-- a resolver error of a reference, a select without default variant, or a duplicate key
abbrev pub node_flaws : {F : Type 0} → Ids F → Node → List Flaw
node_flaws ids (expression i) = map unresolved (option_to_list (reference_error (find ids) i))
node_flaws ids (select i vs) = default_flaws (first_default vs)
node_flaws ids (repeated_key k) = duplicate_key k ∷ []

-- the plural categories that a select lacks
abbrev pub node_categories : Option LanguagePlurals → Node → List PluralCategory
node_categories None node = []
node_categories (Some plurals) (expression i) = []
node_categories (Some plurals) (select i vs) = missing_categories plurals i vs
node_categories (Some plurals) (repeated_key k) = []

-- the invalid escapes of a string literal, or of the named arguments of a call
abbrev pub node_escapes : Node → List Text
node_escapes (expression (t.string_literal raw)) = invalid_escapes raw
node_escapes (expression (t.function_reference id (t.arguments ps ns))) = named_escapes ns
node_escapes (expression (t.term_reference id a (t.with_arguments (t.arguments ps ns)))) = named_escapes ns
node_escapes _ = []

-- the named arguments that a call of a function of the library makes nothing of
abbrev pub node_misuses : Node → List Misuse
node_misuses (expression (t.function_reference id (t.arguments ps ns))) = call_misuses id ns
node_misuses _ = []

-- ---- what is said of a node, a pattern and an attribute

-- Whether a variant of a select shows the number by which it chooses, if that is a variable. Where none does, a text for
-- several things mostly fits `few` and `many`, too.
abbrev pub shows_number : Node → Bool
shows_number (select i vs) = option_map_or (λ x. variants_show x vs) (counted i) true
shows_number _ = true

abbrev pub category_severity : Bool → PluralCategory → Severity
category_severity false FEW = note
category_severity false MANY = note
category_severity is_shown c = warning

-- of a select without a variant for a category, which may show its number
abbrev pub category_remark : Bool → PluralCategory → Remark
category_remark is_shown category =
    remark (category_severity is_shown category) (codes "missing-category")
    (codes "there is no variant for the plural category " ++ in_backticks (category_text category))

-- of an escape that stands for no character
abbrev pub escape_remark : Text → Remark
escape_remark escape =
    remark warning (codes "invalid-escape") (codes "`" ++ (escape ++ codes "` isn't a character, and is shown as U+FFFD"))

-- of an attribute whose name is that of an earlier one
abbrev pub taken_remark : Remark
taken_remark =
    remark warning (codes "duplicate-attribute") (codes "an earlier attribute has this name, so this one is never shown")

-- what is said of a node beside its flaws
abbrev pub node_doubts : {F : Type 0} → Ids F → Option LanguagePlurals → Node → List Remark
node_doubts ids plurals node =
    map (category_remark (shows_number node)) (node_categories plurals node)
    ++ (map escape_remark (node_escapes node)
    ++ (map misuse_remark (node_misuses node) ++ map fact_remark (node_facts ids plurals node)))

module _ {F : Type 0} (ids reference : Ids F) where
  -- of a flaw
  abbrev pub flaw_remark : Flaw → Remark
  flaw_remark flaw = record (flaw_words flaw) { hint = flaw_hint ids reference flaw; inside = 0 }

  -- of a pattern whose references never end
  abbrev pub endless_remark : Elements → Remark
  endless_remark es = record (flaw_words (unresolved cyclic)) { hint = endless_hint ids (elements_references es) }

  -- all that is said of a node
  abbrev pub node_remarks : Option LanguagePlurals → Node → List Remark
  node_remarks plurals node = map flaw_remark (node_flaws ids node) ++ node_doubts ids plurals node

-- what stands before what follows a pattern
abbrev pub read_text : Text → Reading Elements → Text
read_text s (got es rest) = take (length s - length rest) s
read_text s (refused fault) = []

-- the text of the pattern at the front of a text, as the source has it
abbrev pub pattern_text : Text → Text
pattern_text s = read_text s (pattern_read s)

-- ---- findings of an entry of this source

-- the offset at which an end of the source begins
abbrev pub offset_of : Text → Text → ℕ
offset_of source s = length source - length s

-- the finding of a remark on the owner of a pattern, inside of an end of the source
abbrev pub finding_in : Text → Text → Text → Remark → Finding
finding_in source owner at r = finding_at (offset_of source (drop r.inside at)) owner r

module _ {F : Type 0} (ids reference : Ids F) (plurals : Option LanguagePlurals) (source : Text) where
  -- of a node of a pattern, at its place
  abbrev pub node_findings : Text → Text → Node → List Finding
  node_findings owner at node = map (finding_in source owner at) (node_remarks ids reference plurals node)

  -- Of nodes in their order, each at the place of the occurrence with the same index. If there were none, it would be
  -- at the pattern; `OccurrencesAreTheNodes` says that there always is one.
  abbrev pub nodes_findings : Text → Text → List Node → List Occurrence → List Finding
  nodes_findings owner at [] os = []
  nodes_findings owner at (node ∷ nodes) [] = node_findings owner at node ++ nodes_findings owner at nodes []
  nodes_findings owner at (node ∷ nodes) (o ∷ os) =
      node_findings owner o.at node ++ nodes_findings owner at nodes os

  -- of the characters of a pattern, as the source has it
  abbrev pub letters_findings : Text → Text → List Finding
  letters_findings owner at =
      map (finding_in source owner at)
      (letters (pattern_text at) ++ (mixed_words (pattern_text at) ++ wrong_encodings (pattern_text at)))

  -- of a pattern at its place: whether its references end, its nodes, and its characters
  abbrev pub pattern_findings : Text → PatternPlace → Elements → List Finding
  pattern_findings owner place es =
      (if never_ends ids es then finding_in source owner place.name_at (endless_remark ids reference es) ∷ [] else [])
      ++ (nodes_findings owner place.pattern_at (elements_nodes es) (occurrences place.pattern_at)
      ++ letters_findings owner place.pattern_at)

  -- whether the name of an attribute, if it is one, is that of an earlier one
  abbrev pub attribute_findings : Text → List Text → PatternPlace → Option Text → List Finding
  attribute_findings owner before place attribute =
      if list_any (λ name. is_among name before) (option_to_list attribute)
      then finding_in source owner place.name_at taken_remark ∷ []
      else []

  -- Of the patterns of an entry at their places, after attributes of these names. If there were no place, it would be
  -- that of the entry; `PatternsHavePlaces` says that there always is one.
  abbrev pub patterns_findings : Text → List Text → List PatternPlace → List (Owner × Elements) → List Finding
  patterns_findings s before places [] = []
  patterns_findings s before places (p ∷ ps) =
      let owner = with_attribute p.0.label p.0.attribute in
      let place = first_place s places in
      attribute_findings owner before place p.0.attribute
      ++ (pattern_findings owner place p.1 ++ patterns_findings s (option_to_list p.0.attribute ++ before) (drop 1 places) ps)

  -- of the entry at the front of a text, but for its id
  abbrev pub entry_findings : t.Entry → Text → List Finding
  entry_findings e s = patterns_findings s [] (pattern_places e s) (entry_patterns e)
