-- Each pattern of an entry is read at its place.
use Rattle.std.proofs.Common.{◌≡◌, ◌∙◌, ℕ, zero, suc, ◌≤◌, Bool, true, false, if◌then◌else◌, List, [], ◌∷◌, ◌++◌, map, length, take, drop, None, refl, sym, ap, subst, arith}
use Rattle.std.specs.Prelude.{is_some}
use Rattle.std.specs.Option.{option_to_list}
use Rattle.std.proofs.lemmas.Bool.Decides.{nat_tests}
use Rattle.fluent_grammar.specs.Words.{Text, hyphen, dot, is_letter, begins, begins_with, name_len, skip_spaces, skip_blank_block}
use Rattle.fluent_grammar.specs.Refusal.{Reading, got, refused}
use Rattle.fluent_grammar.specs.Tree as t
use Rattle.fluent_grammar.specs.Lines.{value_of}
use Rattle.fluent_grammar.specs.Lexical.{SpellsName}
use Rattle.fluent_grammar.specs.Spelling.{SpellsHead, a_head, SpellsAttribute, an_attribute, SpellsAttributes, no_more_attributes, one_more_attribute, SpellsEntry, a_message, a_term, a_comment, a_group_comment, a_resource_comment}
use Rattle.fluent_grammar.specs.Reading.{identifier_at, attribute_at}
use Rattle.fluent_grammar.proofs.Got.{got_node}
use Rattle.fluent_grammar.proofs.Words.{name_complete}
use Rattle.fluent_grammar.proofs.Attributes.{attribute_sound, attribute-begins, attribute_complete, attribute-shorter}
use Rattle.fluent_grammar.proofs.Entries.{entry_sound, head-letter}
use Rattle.lint_findings.specs.Flaws.{Owner, attribute_patterns, entry_patterns}
use Rattle.lint_findings.specs.Occurrences.{pattern_read, PatternPlace, after_equals, and_attribute, attribute_places, after_pattern, entry_places}
use Rattle.lint_findings.specs.EntryFindings.{pattern_places}
use Rattle.lint_findings.specs.PlaceLaws.{ArePatternsAt, PatternsHavePlaces}
use Rattle.lint_findings.proofs.OccurrencesAreTheNodes.{read_pattern}

-- ---- heads

cut_step : (b : Bool) (x y name rest : Text) (r : Reading Text) → b ≡ true → (if b then got x y else r) ≡ got name rest → y ≡ rest
cut_step true x y name rest r e h = (got_node h).1
cut_step false x y name rest r e h = absurd cc

name_cut : (s name rest : Text) → begins is_letter s ≡ true → identifier_at s ≡ got name rest → drop (name_len s) s ≡ rest
unfolding identifier_at
name_cut s name rest b h = cut_step (begins is_letter s) (take (name_len s) s) (drop (name_len s) s) name rest _ b h

name_rest : {name s rest : Text} → SpellsName name s rest → drop (name_len s) s ≡ rest
name_rest {name} {s} {rest} n = name_cut s name rest n.letter_first (name_complete n)

head_pattern : {id : Text} {value : t.Elements} {s rest : Text} → SpellsHead id value s rest → pattern_read (after_equals s) ≡ got value rest
head_pattern (a_head n c p) = ap pattern_read (ap (λ x. drop 1 (skip_spaces x)) (name_rest n) ∙ ap (drop 1) c) ∙ read_pattern p

letter_no_hyphen : (s : Text) → begins is_letter s ≡ true → begins_with hyphen s ≡ false
letter_no_hyphen [] h = absurd cc
letter_no_hyphen (c ∷ cs) h = grind (arith, nat_tests)

-- ---- attributes

attribute_pattern : {a : t.Attribute} {s rest : Text} → SpellsAttribute a s rest → pattern_read (after_equals (drop 1 (skip_spaces s))) ≡ got a.value rest
attribute_pattern (an_attribute e h v) = ap (λ x. pattern_read (after_equals (drop 1 x))) e ∙ head_pattern h

none_there : (left : Text → List PatternPlace) (s : Text) (b : Bool) (r : Reading t.Attribute) → (b ≡ true → (a : t.Attribute) (rest : Text) → r ≡ got a rest → ⊥) →
    ArePatternsAt (if b then and_attribute left s r else []) []
none_there left s false r h = tt
none_there left s true (refused fault) h = tt
none_there left s true (got a rest) h = absurd (h refl a rest refl)

attributes_have_places : {others : List t.Attribute} {s rest : Text} → SpellsAttributes others s rest → (label : Text) (n : ℕ) → length s ≤ n → ArePatternsAt (attribute_places n s) (attribute_patterns label others)
unfolding attribute_places
attributes_have_places (no_more_attributes none) label zero le = tt
attributes_have_places (no_more_attributes {s} none) label (suc n) le =
    none_there (attribute_places n) s (begins_with dot (skip_spaces s)) (attribute_at s) (λ e a rest h. none a rest (attribute_sound s a rest e h))
attributes_have_places (one_more_attribute d more) label zero le = absurd (omega (arith, le, attribute-shorter d))
attributes_have_places (one_more_attribute {s} {u} {rest} {a} {others} d more) label (suc n) le =
    let k : length u ≤ n = omega (arith, le, attribute-shorter d) in
    rw (attribute-begins d, attribute_complete d) (refl, (u, attribute_pattern d), attributes_have_places more label n k)

-- ---- entries

module _ (s : Text) where
  value_place : Text → PatternPlace
  value_place name = record { attribute = None; name_at = s; pattern_at = after_equals name }

  places_are : (name : Text) (value : t.Elements) (u : Text) → (if begins_with hyphen s then drop 1 s else s) ≡ name → pattern_read (after_equals name) ≡ got value u →
      entry_places s ≡ value_place name ∷ attribute_places (length (skip_blank_block u)) (skip_blank_block u)
  unfolding value_place
  places_are name value u same read =
      ap (λ x. value_place x ∷ (let r = after_pattern (after_equals x) (pattern_read (after_equals x)) in attribute_places (length r) r)) same
      ∙ ap (λ z. value_place name ∷ (let r = after_pattern (after_equals name) z in attribute_places (length r) r)) read

  -- the places of a value and of attributes
  both : (owner : Owner) (name : Text) (value : t.Elements) (u rest : Text) (others : List t.Attribute) (label : Text) → owner.attribute ≡ None → (if begins_with hyphen s then drop 1 s else s) ≡ name →
      pattern_read (after_equals name) ≡ got value u → SpellsAttributes others (skip_blank_block u) rest → ArePatternsAt (entry_places s) ((owner, value) ∷ attribute_patterns label others)
  unfolding value_place
  both owner name value u rest others label own same read d =
      subst (λ places. ArePatternsAt places ((owner, value) ∷ attribute_patterns label others)) (sym (places_are name value u same read))
      (sym own, (u, read), attributes_have_places d label (length (skip_blank_block u)) (omega arith))

  attributes_alone : (name : Text) (value : t.Elements) (u rest : Text) (others : List t.Attribute) (label : Text) → (if begins_with hyphen s then drop 1 s else s) ≡ name →
      pattern_read (after_equals name) ≡ got value u → SpellsAttributes others (skip_blank_block u) rest → ArePatternsAt (drop 1 (entry_places s)) (attribute_patterns label others)
  attributes_alone name value u rest others label same read d =
      subst (λ places. ArePatternsAt (drop 1 places) (attribute_patterns label others)) (sym (places_are name value u same read)) (attributes_have_places d label (length (skip_blank_block u)) (omega arith))

  message_places : (id : Text) (value : t.Elements) (u rest : Text) (others : List t.Attribute) → (if begins_with hyphen s then drop 1 s else s) ≡ s → pattern_read (after_equals s) ≡ got value u →
      SpellsAttributes others (skip_blank_block u) rest →
      ArePatternsAt (if is_some (value_of value) then entry_places s else drop 1 (entry_places s)) (map (λ es. (record { label = id; attribute = None }, es)) (option_to_list (value_of value)) ++ attribute_patterns id others)
  message_places id t.no_elements u rest others same read d = attributes_alone s t.no_elements u rest others id same read d
  message_places id (t.text x es) u rest others same read d = both (record { label = id; attribute = None }) s (t.text x es) u rest others id refl same read d
  message_places id (t.placeable x es) u rest others same read d = both (record { label = id; attribute = None }) s (t.placeable x es) u rest others id refl same read d

spelled_places : {s rest : Text} {e : t.Entry} → SpellsEntry e s rest → ArePatternsAt (pattern_places e s) (entry_patterns e)
spelled_places (a_message {id} {s} {u} {rest} {value} {attributes} h d some) =
    message_places s id value u rest attributes (ap (λ b. if b then drop 1 s else s) (letter_no_hyphen s (head-letter h))) (head_pattern h) d
spelled_places (a_term {id} {s} {u} {v} {rest} {value} {attributes} b h d some) =
    let minus : begins_with hyphen s ≡ true = rw b refl in
    let same : (if begins_with hyphen s then drop 1 s else s) ≡ u = ap (λ x. if x then drop 1 s else s) minus ∙ ap (drop 1) b in
    both s (record { label = hyphen ∷ id; attribute = None }) u value v rest attributes (hyphen ∷ id) refl same (head_pattern h) d
spelled_places (a_comment d) = tt
spelled_places (a_group_comment d) = tt
spelled_places (a_resource_comment d) = tt

pub patterns_have_places : PatternsHavePlaces
patterns_have_places s e rest h = spelled_places (entry_sound s e rest h)
