-- What is written of a well-formed message spells it, before any rest that stops.
use Rattle.std.proofs.Common.{◌≡◌, ℕ, true, false, List, [], ◌∷◌, ◌++◌, Option, Some, None, refl, ap, ◌∙◌, arith, append_assoc, inl, inr}
use Rattle.std.specs.Prelude.{◌≢◌, ◌⊎◌}
use Rattle.fluent_grammar.specs.Words.{Text, space, equals, dot}
use Rattle.fluent_grammar.specs.Tree as t
use Rattle.fluent_grammar.specs.Lines.{value_of}
use Rattle.fluent_grammar.specs.Spelling.{SpellsPattern, on_the_next, SpellsHead, a_head, an_attribute, SpellsAttributes, no_more_attributes, one_more_attribute, SpellsEntry, a_message}
use Rattle.fluent_grammar.specs.Written.{Sign, sign, laid_out, new_line, pattern_signs, elements_signs, pattern_start, value_signs, attributes_signs}
use Rattle.fluent_tidy_laws.specs.WellFormed.{IsName, WellFormedPattern, WellFormedAttributes}
use Rattle.fluent_tidy_laws.proofs.MovingWords.{Over}
use Rattle.fluent_tidy_laws.proofs.MovingEntries.{Stops, stops-over, stops-no_attribute, head-at}
use Rattle.fluent_tidy_laws.proofs.MovingPatterns.{over-line, line-at}
use Rattle.fluent_tidy_laws.proofs.Clean.{over-block}
use Rattle.fluent_tidy_laws.proofs.WrittenWords.{name-written, name-line}
use Rattle.fluent_tidy_laws.proofs.WrittenInline.{within, indent-over}
use Rattle.fluent_tidy_laws.proofs.WrittenPatterns.{ends-some}
use Rattle.fluent_tidy_laws.proofs.WrittenSelects.{pattern_is_written}
use Rattle.fluent_grammar.proofs.Blanks.{skip_spaces-spaced}

-- attributes after the line feed before them
abbrev attribute_signs : t.Attribute → List Sign → List Sign
attribute_signs a more = sign 1 (dot ∷ []) ∷ sign 1 a.id ∷ sign 1 (space ∷ equals ∷ []) ∷ (pattern_signs 2 a.value ++ new_line ∷ more)

abbrev pub attributes_from : List t.Attribute → List Sign → List Sign
attributes_from [] behind = behind
attributes_from (a ∷ more) behind = attribute_signs a (attributes_from more behind)

pub attributes-are : (attributes : List t.Attribute) (behind : List Sign) → attributes_signs attributes ++ new_line ∷ behind ≡ new_line ∷ attributes_from attributes behind
attributes-are [] behind = refl
attributes-are (a ∷ more) behind =
    ap (λ z. new_line ∷ sign 1 (dot ∷ []) ∷ sign 1 a.id ∷ sign 1 (space ∷ equals ∷ []) ∷ pattern_start 2 a.value ∷ z)
    (append_assoc (elements_signs 2 a.value) (attributes_signs more) (new_line ∷ behind) ∙ ap (λ z. elements_signs 2 a.value ++ z) (attributes-are more behind))

pub attributes-is : {attributes : List t.Attribute} {s u rest : Text} → s ≡ u → SpellsAttributes attributes u rest → SpellsAttributes attributes s rest
attributes-is h d = rw h d

-- an identifier, an equals sign and a pattern
pub head-written : (id : Text) (value : t.Elements) (level : ℕ) (more : List Sign) (rest : Text) → IsName id → SpellsPattern value (laid_out false more) rest →
    SpellsHead id value (laid_out false (sign level id ∷ sign level (space ∷ equals ∷ []) ∷ more)) rest
head-written id value level more rest n d =
    head-at (within level id (sign level (space ∷ equals ∷ []) ∷ more) (name-line id n.bytes)) (a_head (name-written id (space ∷ equals ∷ laid_out false more) n refl) refl d)

pub attributes-over : (attributes : List t.Attribute) (behind : List Sign) → Stops (laid_out true behind) → Over (laid_out true (attributes_from attributes behind))
attributes-over [] behind s = stops-over s
attributes-over (a ∷ more) behind s = indent-over 1 (dot ∷ laid_out false (sign 1 a.id ∷ sign 1 (space ∷ equals ∷ []) ∷ (pattern_signs 2 a.value ++ new_line ∷ attributes_from more behind))) refl refl

pub attributes-written : (attributes : List t.Attribute) (behind : List Sign) → WellFormedAttributes attributes → Stops (laid_out true behind) →
    SpellsAttributes attributes (laid_out true (attributes_from attributes behind)) (laid_out true behind)
attributes-written [] behind f s = no_more_attributes (λ a rest d. stops-no_attribute s d)
attributes-written (a ∷ more) behind f s =
    let p = pattern_is_written a.value 2 (attributes_from more behind) (omega arith) f.1 (attributes-over more behind s) in
    let h = head-written a.id a.value 1 (pattern_signs 2 a.value ++ new_line ∷ attributes_from more behind) _ f.0 p in
    one_more_attribute (an_attribute (skip_spaces-spaced 4 (dot ∷ laid_out false (sign 1 a.id ∷ sign 1 (space ∷ equals ∷ []) ∷ (pattern_signs 2 a.value ++ new_line ∷ attributes_from more behind)))) h (ends-some a.value f.1.1))
    (attributes-written more behind f.2 s)

-- the elements of a value that may be absent
abbrev pub elements_or_none : Option t.Elements → t.Elements
elements_or_none None = t.no_elements
elements_or_none (Some es) = es

abbrev pub WellFormedValue : Option t.Elements → List t.Attribute → Type 0
WellFormedValue None attributes = attributes ≢ []
WellFormedValue (Some es) attributes = WellFormedPattern es

value-written : (value : Option t.Elements) (attributes : List t.Attribute) (behind : List Sign) → WellFormedValue value attributes → Stops (laid_out true behind) →
    SpellsPattern (elements_or_none value) (laid_out false (value_signs value ++ new_line ∷ attributes_from attributes behind)) (laid_out true (attributes_from attributes behind))
value-written None attributes behind f s =
    let o = attributes-over attributes behind s in on_the_next refl (line-at (over-block o) (over-line o)) refl
value-written (Some es) attributes behind f s = pattern_is_written es 1 (attributes_from attributes behind) (omega arith) f (attributes-over attributes behind s)

value-same : (value : Option t.Elements) (attributes : List t.Attribute) → WellFormedValue value attributes → value_of (elements_or_none value) ≡ value
value-same None attributes f = refl
value-same (Some t.no_elements) attributes f = absurd f.1
value-same (Some (t.text s es)) attributes f = refl
value-same (Some (t.placeable x es)) attributes f = refl

value-some : (value : Option t.Elements) (attributes : List t.Attribute) → WellFormedValue value attributes → (elements_or_none value ≢ t.no_elements) ⊎ (attributes ≢ [])
value-some None attributes f = inr f
value-some (Some es) attributes f = inl (ends-some es f.1)

message-is : {id : Text} {v w : Option t.Elements} {attributes : List t.Attribute} {s rest : Text} → v ≡ w →
    SpellsEntry (t.message (record { id = id; value = v; attributes = attributes; comment = None })) s rest → SpellsEntry (t.message (record { id = id; value = w; attributes = attributes; comment = None })) s rest
message-is h d = rw (← h) d

-- A well-formed message is spelled by what is written of it.
pub message-written : (id : Text) (value : Option t.Elements) (attributes : List t.Attribute) (behind : List Sign) → IsName id → WellFormedValue value attributes → WellFormedAttributes attributes → Stops (laid_out true behind) →
    SpellsEntry (t.message (record { id = id; value = value; attributes = attributes; comment = None }))
    (laid_out false (sign 0 id ∷ sign 0 (space ∷ equals ∷ []) ∷ (value_signs value ++ (attributes_signs attributes ++ new_line ∷ behind)))) (laid_out true behind)
message-written id value attributes behind n f g s =
    let v = value-written value attributes behind f s in
    let h = head-written id (elements_or_none value) 0 (value_signs value ++ new_line ∷ attributes_from attributes behind) _ n v in
    message-is (value-same value attributes f)
    (a_message (head-at (ap (λ z. laid_out false (sign 0 id ∷ sign 0 (space ∷ equals ∷ []) ∷ (value_signs value ++ z))) (attributes-are attributes behind)) h)
    (attributes-is (over-block (attributes-over attributes behind s)) (attributes-written attributes behind g s)) (value-some value attributes f))
