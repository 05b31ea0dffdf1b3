-- The findings of an entry are those of its value and of its attributes.
use Rattle.std.proofs.Common.{◌≡◌, ◌∙◌, List, [], ◌∷◌, ◌++◌, Option, Some, None, refl, ap, drop, subst}
use Rattle.fluent_grammar.specs.Words.{Text, hyphen, skip_spaces, skip_blank_block}
use Rattle.fluent_grammar.specs.Tree as t
use Rattle.fluent_meaning.specs.Fallback.{with_attribute}
use Rattle.fluent_meaning.specs.Ids.{Ids}
use Rattle.fluent_plurals.specs.declared.plurals.LanguagePlurals.{LanguagePlurals}
use Rattle.lint_findings.specs.EntryFindings.{attribute_findings, pattern_findings, patterns_findings, entry_findings}
use Rattle.lint_findings.specs.Flaws.{attribute_patterns}
use Rattle.lint_findings.specs.Occurrences.{after_equals, pattern_read}
use Rattle.lint_entries.specs.EntryParts.{LeaveRest, Parts, attributes_at, maybe_value_at, parts_found, parts_of, value_at}
use Rattle.lint_entries.specs.AttributePlaces.{LeavesRest, attribute_value, places_of_attributes, read_rest, uncommented, value_elements}
use Rattle.lint_entries.proofs.BodiesAreRead.{PlacesAre, message_parts, term_parts}

only : {p q : Parts} → Some p ≡ Some q → p ≡ q
only e = cc

module _ (ids reference : Ids (Unit {0})) (plurals : Option LanguagePlurals) (source : Text) where
  attributes_are : (label : Text) (whole : Text) (as' : List t.Attribute) (before : List Text) (s : Text) →
      patterns_findings ids reference plurals source whole before (places_of_attributes as' s) (attribute_patterns label as') ≡ attributes_at ids reference plurals source label before as' s
  attributes_are label whole [] before s = refl
  attributes_are label whole (a ∷ as') before s =
      ap (λ xs. attribute_findings ids reference plurals source (with_attribute label (Some a.id)) before (record { attribute = Some a.id; name_at = skip_spaces s; pattern_at = attribute_value s }) (Some a.id)
      ++ (pattern_findings ids reference plurals source (with_attribute label (Some a.id)) (record { attribute = Some a.id; name_at = skip_spaces s; pattern_at = attribute_value s }) a.value ++ xs))
      (attributes_are label whole as' (a.id ∷ before) (read_rest (pattern_read (attribute_value s))))

  -- the place of the first attribute, after a value at this place
  abbrev attributes_place : Text → Text
  attributes_place value_place = skip_blank_block (read_rest (pattern_read value_place))

  message_by : (id : Text) (v : Option t.Elements) (as' : List t.Attribute) (comment : Option (List Text)) (s : Text) → PlacesAre (value_elements v) as' s s →
      entry_findings ids reference plurals source (t.message (record { id = id; value = v; attributes = as'; comment = comment })) s ≡ maybe_value_at ids reference plurals source id s (after_equals s) v ++ attributes_at ids reference plurals source id [] as' (attributes_place (after_equals s))
  message_by id None as' comment s places =
      ap (λ ps. patterns_findings ids reference plurals source s [] (drop 1 ps) (attribute_patterns id as')) places
      ∙ attributes_are id s as' [] (attributes_place (after_equals s))
  message_by id (Some es) as' comment s places =
      ap (λ ps. patterns_findings ids reference plurals source s [] ps ((record { label = id; attribute = None }, es) ∷ attribute_patterns id as')) places
      ∙ ap (λ xs. value_at ids reference plurals source id s (after_equals s) es ++ xs) (attributes_are id s as' [] (attributes_place (after_equals s)))

  message_found : (m : t.Message) (s : Text) → PlacesAre (value_elements m.value) m.attributes s s →
      entry_findings ids reference plurals source (t.message m) s ≡ maybe_value_at ids reference plurals source m.id s (after_equals s) m.value ++ attributes_at ids reference plurals source m.id [] m.attributes (attributes_place (after_equals s))
  message_found m s places = message_by m.id m.value m.attributes m.comment s places

  term_found : (m : t.Term) (s : Text) → PlacesAre m.value m.attributes s (drop 1 s) →
      entry_findings ids reference plurals source (t.term m) s ≡ value_at ids reference plurals source (hyphen ∷ m.id) s (after_equals (drop 1 s)) m.value ++ attributes_at ids reference plurals source (hyphen ∷ m.id) [] m.attributes (attributes_place (after_equals (drop 1 s)))
  term_found m s places =
      ap (λ ps. patterns_findings ids reference plurals source s [] ps ((record { label = hyphen ∷ m.id; attribute = None }, m.value) ∷ attribute_patterns (hyphen ∷ m.id) m.attributes)) places
      ∙ ap (λ xs. value_at ids reference plurals source (hyphen ∷ m.id) s (after_equals (drop 1 s)) m.value ++ xs) (attributes_are (hyphen ∷ m.id) s m.attributes [] (attributes_place (after_equals (drop 1 s))))

  -- of an entry that is read at the front of a text, by its parts
  pub found_of_parts : (e : t.Entry) (p : Parts) (s rest : Text) → parts_of e ≡ Some p → LeavesRest e s rest → entry_findings ids reference plurals source e s ≡ parts_found ids reference plurals source p s
  found_of_parts (t.message m) p s rest is read = message_found m s (message_parts m s rest read).1 ∙ ap (λ q. parts_found ids reference plurals source q s) (only is)
  found_of_parts (t.term m) p s rest is read = term_found m s (term_parts m s rest read).1 ∙ ap (λ q. parts_found ids reference plurals source q s) (only is)
  found_of_parts (t.comment c) p s rest is read = absurd cc
  found_of_parts (t.group_comment c) p s rest is read = absurd cc
  found_of_parts (t.resource_comment c) p s rest is read = absurd cc
  found_of_parts (t.junk x) p s rest is read = absurd cc

  -- nothing is found of other entries
  pub nothing_found : (e : t.Entry) (s : Text) → parts_of e ≡ None → entry_findings ids reference plurals source e s ≡ []
  nothing_found (t.message m) s is = absurd cc
  nothing_found (t.term m) s is = absurd cc
  nothing_found (t.comment c) s is = refl
  nothing_found (t.group_comment c) s is = refl
  nothing_found (t.resource_comment c) s is = refl
  nothing_found (t.junk x) s is = refl

-- the parts of an entry that is read at the front of a text are read there
pub parts_read : (e : t.Entry) (p : Parts) (s rest : Text) → parts_of e ≡ Some p → LeavesRest e s rest → LeaveRest p s rest
parts_read (t.message m) p s rest is read = subst (λ q. LeaveRest q s rest) (only is) (message_parts m s rest read).0
parts_read (t.term m) p s rest is read = subst (λ q. LeaveRest q s rest) (only is) (term_parts m s rest read).0
parts_read (t.comment c) p s rest is read = absurd cc
parts_read (t.group_comment c) p s rest is read = absurd cc
parts_read (t.resource_comment c) p s rest is read = absurd cc
parts_read (t.junk x) p s rest is read = absurd cc

-- without the comment above it an entry has the same parts
pub same_parts : (e : t.Entry) → parts_of (uncommented e) ≡ parts_of e
same_parts (t.message m) = refl
same_parts (t.term m) = refl
same_parts (t.comment c) = refl
same_parts (t.group_comment c) = refl
same_parts (t.resource_comment c) = refl
same_parts (t.junk x) = refl
