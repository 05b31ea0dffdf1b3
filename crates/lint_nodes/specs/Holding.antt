-- The patterns that are listed, by the names of the references that enter them.
use Rattle.std.specs.Prelude.{◌≡◌, ℕ, ◌<◌, Bool, true, false, ◌&&◌, if◌then◌else◌, List, [], ◌∷◌, ◌++◌, length, map, All, Option, Some, None, is_some, option_map}
use Rattle.std.specs.List.{slice_index_or, flat_map}
use Rattle.std.specs.Option.{option_to_list}
use Rattle.std.specs.Str.{bytes_eq}
use denote.Ref.{Bor}
use Rattle.fluent_ast.specs.Borrowed.{attributes_of, elements_found, elements_of}
use Rattle.fluent_ast.specs.declared.Attribute.{Attribute}
use Rattle.fluent_ast.specs.declared.Pattern.{Pattern}
use Rattle.fluent_grammar.specs.Words.{Text, is_among}
use Rattle.fluent_grammar.specs.Tree as t
use Rattle.fluent_grammar.specs.Tree.{Elements, no_elements}
use Rattle.fluent_meaning.specs.Ids.{Ids, find, attribute_named}
use Rattle.fluent_meaning.specs.Substitution.{Target, there, missing, message_target, term_target}
use Rattle.fluent_value.specs.Matching.{same_bool}
use Rattle.lint_findings.specs.DuplicateIds.{id_of}
use Rattle.lint_findings.specs.Endless.{all_patterns, is_pattern_among}
use Rattle.lint_nodes.specs.declared.entered.EnteredPattern.{EnteredPattern}
use Rattle.lint_nodes.specs.declared.entered.EnteredPatterns.{EnteredPatterns}
use Rattle.lint_nodes.specs.declared.indices.Indices.{Indices}
use Rattle.lint_nodes.specs.IndicesView.{attribute_text, index_of, same_names}

-- the pattern that is listed at an index
abbrev pub pattern_at : List Elements → ℕ → Elements
pattern_at ps v = slice_index_or ps v no_elements

-- what names name
abbrev pub Named : Type 0
Named = Bool → Text → Option Text → Option Elements

-- The patterns of a list, each one of these others, have just these names.
pub record Holds (others : List Elements) (indices : Indices) (ps : List Elements) (named : Named) : Type 0 where
  pub within : (t : Bool) (i : Text) (a : Option Text) (v : ℕ) → index_of indices t i a ≡ Some v → v < length ps
  pub at : (t : Bool) (i : Text) (a : Option Text) → option_map (pattern_at ps) (index_of indices t i a) ≡ named t i a
  pub known : All (λ es. is_pattern_among es others ≡ true) ps

abbrev pub or_else : Option Elements → Option Elements → Option Elements
or_else None o = o
or_else (Some es) o = Some es

-- one more pattern, if its names were new
abbrev pub with_pattern : Bool → Text → Option Text → Elements → Named → Named
with_pattern is_term id attribute es named = λ t i a. or_else (named t i a) (if same_names is_term id attribute t i a then Some es else None)

-- the patterns of an entry with this value and these attributes
abbrev pub own_pattern : Option Elements → List t.Attribute → Option Text → Option Elements
own_pattern value attributes None = value
own_pattern value attributes (Some a) = attribute_named a attributes

-- those of an entry more, where its names were new
abbrev pub with_entry : Bool → Text → Option Elements → List t.Attribute → Named → Named
with_entry is_term id value attributes named =
    λ t i a. or_else (named t i a) (if same_bool is_term t && bytes_eq id i then own_pattern value attributes a else None)

-- if any pattern of this entry is named, all are
abbrev pub IsWhole : Bool → Text → Option Elements → List t.Attribute → Named → Type 0
IsWhole is_term id value attributes named = (a b : Option Text) → is_some (named is_term id a) ≡ true →
    or_else (named is_term id b) (own_pattern value attributes b) ≡ named is_term id b

-- ---- of a catalog

abbrev pub target_pattern : Target → Option Elements
target_pattern (there es) = Some es
target_pattern (missing e) = None

-- the pattern that a reference by these names enters
abbrev pub entered : Ids (Unit {0}) → Named
entered ids true i a = target_pattern (term_target i a (find ids i))
entered ids false i a = target_pattern (message_target i a (find ids i))

-- those of these ids
abbrev pub entered_among : Ids (Unit {0}) → List Text → Named
entered_among ids seen t i a = if is_among i seen then entered ids t i a else None

abbrev pub declared_ids : List t.Entry → List Text
declared_ids es = flat_map (λ e. option_to_list (id_of e)) es

-- the plain patterns of a list
abbrev pub patterns_of : List EnteredPattern → List Elements
patterns_of ps = map (λ p. elements_of p.pattern.now) ps

-- The patterns of a catalog are listed that references to these ids enter.
abbrev pub HasPatternsOf : Ids (Unit {0}) → EnteredPatterns → List Text → Type 0
HasPatternsOf ids found seen = Holds (all_patterns ids) found.indices (patterns_of found.patterns.items) (entered_among ids seen)

-- a pattern of this entry is listed
abbrev pub IsListed : EnteredPatterns → Bool → Text → Type 0
IsListed found is_term id = (a : Option Text) × (is_some (index_of found.indices is_term id a) ≡ true)

-- whether the first of these attributes is
abbrev pub has_first : EnteredPatterns → Bool → Text → List t.Attribute → Bool
has_first found is_term id [] = false
has_first found is_term id (a ∷ as') = is_some (index_of found.indices is_term id (Some a.id))

-- what a list holds once a pattern was added
abbrev pub GetsPattern : EnteredPatterns → EnteredPatterns → Bool → Text → Option Text → Elements → Type 0
GetsPattern old new is_term id attribute es = (others : List Elements) (named : Named) →
    Holds others old.indices (patterns_of old.patterns.items) named → is_pattern_among es others ≡ true →
    Holds others new.indices (patterns_of new.patterns.items) (with_pattern is_term id attribute es named)

-- what a list holds once an entry was added
abbrev pub GetsEntry : EnteredPatterns → EnteredPatterns → Bool → Text → Option Elements → List t.Attribute → Type 0
GetsEntry old new is_term id value attributes = (others : List Elements) (named : Named) →
    Holds others old.indices (patterns_of old.patterns.items) named → IsWhole is_term id value attributes named →
    All (λ es. is_pattern_among es others ≡ true) (option_to_list value ++ map (λ (a : t.Attribute). a.value) attributes) →
    Holds others new.indices (patterns_of new.patterns.items) (with_entry is_term id value attributes named)

-- ---- what calls add

-- the patterns that references to more ids enter
abbrev pub GetsIds : Ids (Unit {0}) → EnteredPatterns → EnteredPatterns → List Text → Type 0
GetsIds ids old new more = (seen : List Text) → HasPatternsOf ids old seen → HasPatternsOf ids new (seen ++ more)

-- those of an entry with this value and these attributes
abbrev pub GetsEntryOf : EnteredPatterns → EnteredPatterns → Bool → Text → Option (Bor (Pattern (Bor Text))) → List (Attribute (Bor Text)) → Type 0
GetsEntryOf old new is_term id value attributes = GetsEntry old new is_term id (elements_found value) (attributes_of attributes)

-- a pattern of an entry
abbrev pub GetsPatternOf : EnteredPatterns → EnteredPatterns → Bool → Text → Option (Bor Text) → Pattern (Bor Text) → Type 0
GetsPatternOf old new is_term id attribute pattern = GetsPattern old new is_term id (attribute_text attribute) (elements_of pattern)
