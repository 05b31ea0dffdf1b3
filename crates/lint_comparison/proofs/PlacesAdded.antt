-- The places of a message, part by part.
use Rattle.std.proofs.Common.{◌≡◌, ◌∙◌, ℕ, ◌+◌, ◌<◌, false, if◌then◌else◌, List, [], ◌∷◌, ◌++◌, length, map, take, get_or, Option, Some, None, refl, ap, sym, subst, append_assoc, append-nil}
use Rattle.std.specs.List.{flat_map}
use Rattle.std.specs.Option.{option_map_or}
use Rattle.std.specs.Str.{bytes_eq}
use Rattle.std.proofs.lemmas.Cmp.{nat_list_eq_equiv}
use Rattle.std.proofs.lemmas.List.Concat.{flat_map-append}
use Rattle.fluent_ast.proofs.Copied.{map-take_more}
use Rattle.lint_findings.specs.ComparisonFindings.{first_attribute_at, first_variable_at, is_variable}
use Rattle.lint_findings.specs.Nodes.{Node, expression, select, repeated_key}
use Rattle.lint_findings.specs.Occurrences as o
use Rattle.lint_findings.specs.Occurrences.{PatternPlace, entry_places, after_equals, occurrences, pattern_read}
use Rattle.lint_findings.proofs.OccurrencesAreTheNodes.{occurrences_are_the_nodes}
use Rattle.fluent_grammar.specs.Refusal.{got}
use Rattle.fluent_grammar.specs.Tree as t
use Rattle.fluent_grammar.specs.Words.{Text, skip_spaces, skip_blank_block}
use Rattle.lint_nodes.specs.OccurrenceView.{occurrence_view}
use Rattle.lint_nodes.specs.declared.occurrence.Occurrence.{Occurrence}
use Rattle.lint_entries.specs.AttributePlaces.{attribute_value, places_of_attributes, read_rest, value_elements, LeavesRest}
use Rattle.lint_entries.proofs.BodiesAreRead.{message_parts}
use Rattle.lint_comparison.specs.HasFirstPlaces.{GetsFirstPlace, HasFirstPlaces, first_at}
use Rattle.lint_comparison.specs.HasPlaces.{HasPlaces, GetsPlaces, GetsOccurrences, GetsVariables, GetsPatternPlaces, variable_at, variables_among, attribute_at, attributes_among, variables_within}
use Rattle.lint_comparison.specs.declared.places.Places.{Places}

-- ---- what is added

module _ (a b : Places) where
  pub same_places : (as' bs vs ws : List (Text × Text)) → as' ≡ bs → vs ≡ ws → GetsPlaces a as' vs b → GetsPlaces a bs ws b
  same_places as' bs vs ws p q gets = subst (λ xs. GetsPlaces a xs ws b) p (subst (λ ys. GetsPlaces a as' ys b) q gets)

  pub both : (c : Places) (as' bs vs ws : List (Text × Text)) → GetsPlaces a as' vs b → GetsPlaces b bs ws c → GetsPlaces a (as' ++ bs) (vs ++ ws) c
  both c as' bs vs ws first second = λ xs ys has.
      subst (λ zs. HasPlaces c zs (ys ++ (vs ++ ws))) (append_assoc xs as' bs) (subst (λ zs. HasPlaces c ((xs ++ as') ++ bs) zs) (append_assoc ys vs ws) (second (xs ++ as') (ys ++ vs) (first xs ys has)))

pub none_added : (a : Places) → GetsPlaces a [] [] a
none_added a = λ xs ys has. subst (λ zs. HasPlaces a zs (ys ++ [])) (sym (append-nil xs)) (subst (λ zs. HasPlaces a xs zs) (sym (append-nil ys)) has)

-- ---- nodes and patterns

pub next_occurrence : (a b c : Places) (xs : List Occurrence) (i : ℕ) (item : Occurrence) → i < length xs → item ≡ get_or xs i item → GetsOccurrences a (map occurrence_view (take i xs)) b →
    GetsPlaces b [] (variable_at (occurrence_view item).node (occurrence_view item).at) c → GetsOccurrences a (map occurrence_view (take (i + 1) xs)) c
next_occurrence a b c xs i item inside is first second =
    let here : o.Occurrence → List (Text × Text) = λ (x : o.Occurrence). variable_at x.node x.at in
    let before = variables_among (map occurrence_view (take i xs)) in
    let more : variables_among (map occurrence_view (take (i + 1) xs)) ≡ before ++ here (occurrence_view item) =
    ap variables_among (map-take_more occurrence_view xs i item inside is) ∙ flat_map-append here (map occurrence_view (take i xs)) (occurrence_view item ∷ [])
    ∙ ap (λ zs. before ++ zs) (append-nil (here (occurrence_view item))) in
    subst (λ zs. GetsPlaces a [] zs c) (sym more) (both a b c [] [] before (here (occurrence_view item)) first second)

no_items : {A B : Type 0} (f : A → B) (xs : List A) → map f xs ≡ [] → xs ≡ []
no_items f [] e = refl
no_items f (x ∷ xs) e = absurd cc

-- a pattern without elements has no variables
pub nothing_added : (a : Places) (s rest : Text) (es : t.Elements) → es ≡ t.no_elements → pattern_read s ≡ got es rest → GetsVariables a s a
nothing_added a s rest es none read =
    let empty : occurrences s ≡ [] = no_items (λ (x : o.Occurrence). x.node) (occurrences s) (occurrences_are_the_nodes s t.no_elements rest (read ∙ ap (λ x. got x rest) none)) in
    subst (λ os. GetsOccurrences a os a) (sym empty) (none_added a)

-- ---- attributes

-- the attribute on the line at the front of a text, and its pattern
abbrev pub place_here : Text → Text → PatternPlace
place_here name s = record { attribute = Some name; name_at = skip_spaces s; pattern_at = attribute_value s }

pub attribute_added : (a b c : Places) (name at v s : Text) → at ≡ skip_spaces s → v ≡ attribute_value s → b.variables ≡ a.variables → GetsFirstPlace a.attributes name at b.attributes → GetsVariables b v c →
    GetsPatternPlaces a (place_here name s ∷ []) c
attribute_added a b c name at v s there value same gets later =
    let first : GetsPlaces a ((name, at) ∷ []) [] b = λ xs ys has. record {
      attributes_are = gets xs has.attributes_are;
      variables_are = subst (λ p. HasFirstPlaces p (ys ++ [])) (sym same) (subst (HasFirstPlaces a.variables) (sym (append-nil ys)) has.variables_are);
    } in
    same_places a c ((name, at) ∷ []) (attributes_among (place_here name s ∷ [])) (variables_among (occurrences v)) (variables_within (place_here name s ∷ []))
    (ap (λ x. (name, x) ∷ []) there) (ap (λ x. variables_among (occurrences x)) value ∙ sym (append-nil (variables_among (occurrences (attribute_value s)))))
    (both a b c ((name, at) ∷ []) [] [] (variables_among (occurrences v)) first later)

pub more_places : (a b c : Places) (ps qs : List PatternPlace) → GetsPatternPlaces a ps b → GetsPatternPlaces b qs c → GetsPatternPlaces a (ps ++ qs) c
more_places a b c ps qs first second =
    same_places a c (attributes_among ps ++ attributes_among qs) (attributes_among (ps ++ qs)) (variables_within ps ++ variables_within qs) (variables_within (ps ++ qs))
    (sym (flat_map-append (λ (p : PatternPlace). attribute_at p.attribute p.name_at) ps qs)) (sym (flat_map-append (λ (p : PatternPlace). variables_among (occurrences p.pattern_at)) ps qs))
    (both a b c (attributes_among ps) (attributes_among qs) (variables_within ps) (variables_within qs) first second)

-- ---- the message

pub message_added : (a b c : Places) (m : t.Message) (as' : List t.Attribute) (s rest u v w : Text) → LeavesRest (t.message m) s rest → as' ≡ m.attributes → v ≡ after_equals s → pattern_read v ≡ got (value_elements m.value) u →
    w ≡ skip_blank_block u → GetsVariables a v b → GetsPatternPlaces b (places_of_attributes as' w) c → GetsPatternPlaces a (entry_places s) c
message_added a b c m as' s rest u v w leaves same value read there first second =
    let value_place : PatternPlace = record { attribute = None; name_at = s; pattern_at = after_equals s } in
    let left = skip_blank_block (read_rest (pattern_read (after_equals s))) in
    let left_is : w ≡ left = there ∙ ap (λ r. skip_blank_block (read_rest r)) (sym read ∙ ap pattern_read value) in
    let own : GetsPatternPlaces a (value_place ∷ []) b =
    subst (λ zs. GetsPlaces a [] zs b) (ap (λ x. variables_among (occurrences x)) value ∙ sym (append-nil (variables_among (occurrences (after_equals s))))) first in
    let others : GetsPatternPlaces b (places_of_attributes m.attributes left) c =
    subst (λ x. GetsPatternPlaces b (places_of_attributes m.attributes x) c) left_is (subst (λ xs. GetsPatternPlaces b (places_of_attributes xs w) c) same second) in
    subst (λ ps. GetsPatternPlaces a ps c) (sym (message_parts m s rest leaves).1) (more_places a b c (value_place ∷ []) (places_of_attributes m.attributes left) own others)

-- ---- the first of them

symmetric : (x y : Text) → bytes_eq x y ≡ bytes_eq y x
symmetric x y = nat_list_eq_equiv.symm x y

pub first_attribute : (name : Text) (ps : List PatternPlace) → first_at name (attributes_among ps) ≡ first_attribute_at name ps
first_attribute name [] = refl
first_attribute name (p ∷ ps) = by p.attribute (first_attribute name ps)
  where
    by : (a : Option Text) → first_at name (attributes_among ps) ≡ first_attribute_at name ps →
        first_at name (attribute_at a p.name_at ++ attributes_among ps) ≡ (if option_map_or (bytes_eq name) a false then Some p.name_at else first_attribute_at name ps)
    by None later = later
    by (Some a) later = ap (λ b. if b then Some p.name_at else first_at name (attributes_among ps)) (symmetric a name) ∙ ap (λ l. if bytes_eq name a then Some p.name_at else l) later

module _ (name at : Text) (os : List o.Occurrence) (later : first_at name (variables_among os) ≡ first_variable_at name os) where
  first_here : (node : Node) → first_at name (variable_at node at ++ variables_among os) ≡ (if is_variable name node then Some at else first_variable_at name os)
  first_here (expression (t.variable_reference x)) = ap (λ b. if b then Some at else first_at name (variables_among os)) (symmetric x name) ∙ ap (λ l. if bytes_eq name x then Some at else l) later
  first_here (expression (t.string_literal x)) = later
  first_here (expression (t.number_literal x)) = later
  first_here (expression (t.function_reference id a)) = later
  first_here (expression (t.message_reference id a)) = later
  first_here (expression (t.term_reference id a c)) = later
  first_here (expression (t.nested e)) = later
  first_here (select i vs) = later
  first_here (repeated_key k) = later

first_variable_among : (name : Text) (os : List o.Occurrence) → first_at name (variables_among os) ≡ first_variable_at name os
first_variable_among name [] = refl
first_variable_among name (x ∷ os) = first_here name x.at os (first_variable_among name os) x.node

within_places : (ps : List PatternPlace) → variables_within ps ≡ variables_among (flat_map (λ (p : PatternPlace). occurrences p.pattern_at) ps)
within_places [] = refl
within_places (p ∷ ps) =
    ap (λ zs. variables_among (occurrences p.pattern_at) ++ zs) (within_places ps)
    ∙ sym (flat_map-append (λ (x : o.Occurrence). variable_at x.node x.at) (occurrences p.pattern_at) (flat_map (λ (q : PatternPlace). occurrences q.pattern_at) ps))

pub first_variable : (name : Text) (ps : List PatternPlace) → first_at name (variables_within ps) ≡ first_variable_at name (flat_map (λ (p : PatternPlace). occurrences p.pattern_at) ps)
first_variable name ps = ap (first_at name) (within_places ps) ∙ first_variable_among name (flat_map (λ (p : PatternPlace). occurrences p.pattern_at) ps)
