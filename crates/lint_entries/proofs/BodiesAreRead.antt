-- The parts of an entry are read at their places.
use Rattle.std.proofs.Common.{◌≡◌, ◌∙◌, ℕ, zero, suc, ◌≤◌, Bool, true, false, if◌then◌else◌, List, [], ◌∷◌, length, take, drop, Some, None, refl, sym, ap, arith}
use Rattle.std.proofs.lemmas.Bool.Decides.{nat_tests}
use Rattle.fluent_grammar.specs.Words.{Text, hyphen, dot, is_letter, begins, begins_with, name_len, skip_spaces, skip_blank_block}
use Rattle.fluent_grammar.specs.Refusal.{Reading, got, refused}
use Rattle.fluent_grammar.specs.Tree as t
use Rattle.fluent_grammar.specs.Lines.{value_of}
use Rattle.fluent_grammar.specs.Lexical.{SpellsName}
use Rattle.fluent_grammar.specs.Spelling.{SpellsHead, a_head, SpellsAttribute, an_attribute, SpellsAttributes, no_more_attributes, one_more_attribute, SpellsEntry, a_message, a_term}
use Rattle.fluent_grammar.specs.Reading.{identifier_at, attribute_at}
use Rattle.fluent_grammar.proofs.Got.{got_node}
use Rattle.fluent_grammar.proofs.Words.{name_complete}
use Rattle.fluent_grammar.proofs.Attributes.{attribute_sound, attribute-begins, attribute_complete, attribute-shorter}
use Rattle.fluent_grammar.proofs.Entries.{entry_sound, head-letter}
use Rattle.lint_findings.specs.Occurrences.{PatternPlace, pattern_read, after_equals, and_attribute, attribute_places, after_pattern, entry_places}
use Rattle.lint_findings.proofs.OccurrencesAreTheNodes.{read_pattern}
use Rattle.lint_entries.specs.AttributePlaces.{attribute_value, AreAttributesAt, read_rest, places_of_attributes, value_elements, IsBodyAt, LeavesRest}

-- ---- names

cut_step : (b : Bool) (x y name rest : Text) (r : Reading Text) → b ≡ true → (if b then got x y else r) ≡ got name rest → y ≡ rest
cut_step true x y name rest r e h = (got_node h).1
cut_step false x y name rest r e h = absurd cc

name_cut : (s name rest : Text) → begins is_letter s ≡ true → identifier_at s ≡ got name rest → drop (name_len s) s ≡ rest
unfolding identifier_at
name_cut s name rest b h = cut_step (begins is_letter s) (take (name_len s) s) (drop (name_len s) s) name rest _ b h

name_rest : {name s rest : Text} → SpellsName name s rest → drop (name_len s) s ≡ rest
name_rest {name} {s} {rest} n = name_cut s name rest n.letter_first (name_complete n)

head_pattern : {id : Text} {value : t.Elements} {s rest : Text} → SpellsHead id value s rest → pattern_read (after_equals s) ≡ got value rest
head_pattern (a_head n c p) = ap pattern_read (ap (λ x. drop 1 (skip_spaces x)) (name_rest n) ∙ ap (drop 1) c) ∙ read_pattern p

letter_no_hyphen : (s : Text) → begins is_letter s ≡ true → begins_with hyphen s ≡ false
letter_no_hyphen [] h = absurd cc
letter_no_hyphen (c ∷ cs) h = grind (arith, nat_tests)

-- ---- attributes

attribute_pattern : {a : t.Attribute} {s rest : Text} → SpellsAttribute a s rest → pattern_read (attribute_value s) ≡ got a.value rest
attribute_pattern (an_attribute e h v) = ap (λ x. pattern_read (after_equals (drop 1 x))) e ∙ head_pattern h

attributes_there : {as' : List t.Attribute} {s rest : Text} → SpellsAttributes as' s rest → AreAttributesAt as' s rest
attributes_there (no_more_attributes none) = refl
attributes_there (one_more_attribute {s} {u} {rest} {a} {others} d more) = (u, attribute_pattern d, attributes_there more)

none_there : (left : Text → List PatternPlace) (s : Text) (b : Bool) (r : Reading t.Attribute) → (b ≡ true → (a : t.Attribute) (rest : Text) → r ≡ got a rest → ⊥) →
    (if b then and_attribute left s r else []) ≡ []
none_there left s false r h = refl
none_there left s true (refused fault) h = refl
none_there left s true (got a rest) h = absurd (h refl a rest refl)

attributes_places : {as' : List t.Attribute} {s rest : Text} → SpellsAttributes as' s rest → (n : ℕ) → length s ≤ n → attribute_places n s ≡ places_of_attributes as' s
unfolding attribute_places
attributes_places (no_more_attributes none) zero le = refl
attributes_places (no_more_attributes {s} none) (suc n) le =
    none_there (attribute_places n) s (begins_with dot (skip_spaces s)) (attribute_at s) (λ e a rest h. none a rest (attribute_sound s a rest e h))
attributes_places (one_more_attribute d more) zero le = absurd (omega (arith, le, attribute-shorter d))
attributes_places (one_more_attribute {s} {u} {rest} {a} {others} d more) (suc n) le =
    let k : length u ≤ n = omega (arith, le, attribute-shorter d) in
    let here = λ (xs : List PatternPlace). record { attribute = Some a.id; name_at = skip_spaces s; pattern_at = attribute_value s } ∷ xs in
    rw (attribute-begins d, attribute_complete d) (ap here (attributes_places more n k ∙ ap (places_of_attributes others) (sym (ap read_rest (attribute_pattern d)))))

-- ---- entries

-- the places after a name with this body
abbrev pub PlacesAre : t.Elements → List t.Attribute → Text → Text → Type 0
PlacesAre value as' s name =
    entry_places s ≡ record { attribute = None; name_at = s; pattern_at = after_equals name } ∷ places_of_attributes as' (skip_blank_block (read_rest (pattern_read (after_equals name))))

body_places : (s name : Text) (value : t.Elements) (u rest : Text) (as' : List t.Attribute) → (if begins_with hyphen s then drop 1 s else s) ≡ name → pattern_read (after_equals name) ≡ got value u → SpellsAttributes as' (skip_blank_block u) rest →
    PlacesAre value as' s name
body_places s name value u rest as' same read d =
    let v = skip_blank_block u in
    let first = λ (xs : List PatternPlace). record { attribute = None; name_at = s; pattern_at = after_equals name } ∷ xs in
    ap (λ x. record { attribute = None; name_at = s; pattern_at = after_equals x } ∷ (let r = after_pattern (after_equals x) (pattern_read (after_equals x)) in attribute_places (length r) r)) same
    ∙ ap (λ z. first (let r = after_pattern (after_equals name) z in attribute_places (length r) r)) read
    ∙ ap first (attributes_places d (length v) (omega arith) ∙ ap (λ z. places_of_attributes as' (skip_blank_block (read_rest z))) (sym read))

value_is : (value : t.Elements) → value_elements (value_of value) ≡ value
value_is t.no_elements = refl
value_is (t.text x es) = refl
value_is (t.placeable e es) = refl

-- what is known of a message, and of a term from after its minus on, that is read
abbrev pub MessageParts : t.Message → Text → Text → Type 0
MessageParts m s rest = IsBodyAt (value_elements m.value) m.attributes s rest × PlacesAre (value_elements m.value) m.attributes s s

abbrev pub TermParts : t.Term → Text → Text → Type 0
TermParts m s rest = IsBodyAt m.value m.attributes (drop 1 s) rest × PlacesAre m.value m.attributes s (drop 1 s)

abbrev Parts : t.Entry → Text → Text → Type 0
Parts (t.message m) s rest = MessageParts m s rest
Parts (t.term m) s rest = TermParts m s rest
Parts (t.comment c) s rest = Unit {0}
Parts (t.group_comment c) s rest = Unit {0}
Parts (t.resource_comment c) s rest = Unit {0}
Parts (t.junk x) s rest = Unit {0}

spelled_parts : {e : t.Entry} {s rest : Text} → SpellsEntry e s rest → Parts e s rest
spelled_parts (a_message {id} {s} {u} {rest} {value} {attributes} h d some) =
    let same : (if begins_with hyphen s then drop 1 s else s) ≡ s = ap (λ b. if b then drop 1 s else s) (letter_no_hyphen s (head-letter h)) in
    ((u, head_pattern h ∙ ap (λ es. got es u) (sym (value_is value)), attributes_there d), body_places s s (value_elements (value_of value)) u rest attributes same (head_pattern h ∙ ap (λ es. got es u) (sym (value_is value))) d)
spelled_parts (a_term {id} {s} {u} {v} {rest} {value} {attributes} b h d some) =
    let minus : begins_with hyphen s ≡ true = rw b refl in
    let same : (if begins_with hyphen s then drop 1 s else s) ≡ drop 1 s = ap (λ x. if x then drop 1 s else s) minus in
    let read : pattern_read (after_equals (drop 1 s)) ≡ got value v = ap (λ x. pattern_read (after_equals (drop 1 x))) b ∙ head_pattern h in
    ((v, read, attributes_there d), body_places s (drop 1 s) value v rest attributes same read d)
spelled_parts other = tt

pub message_parts : (m : t.Message) (s rest : Text) → LeavesRest (t.message m) s rest → MessageParts m s rest
message_parts m s rest h = spelled_parts (entry_sound s (t.message (record m { comment = None })) rest h)

pub term_parts : (m : t.Term) (s rest : Text) → LeavesRest (t.term m) s rest → TermParts m s rest
term_parts m s rest h = spelled_parts (entry_sound s (t.term (record m { comment = None })) rest h)
