-- Heads and attributes: reading gives what is spelled, and what is spelled is read.
use Rattle.std.proofs.Common.{◌≡◌, ℕ, zero, suc, ◌<◌, ◌≤◌, Bool, true, false, cond, List, [], ◌∷◌, length, drop, refl, sym, ap, ◌∙◌, arith, inl, inr}
use Rattle.std.specs.Prelude.{◌≢◌}
use Rattle.fluent_grammar.specs.Words.{Text, begins_with, dot, equals, skip_spaces}
use Rattle.fluent_grammar.specs.Refusal as r
use Rattle.fluent_grammar.specs.Refusal.{Refusal, Reading, got, refused, refuse, mapped, ◌>>=◌}
use Rattle.fluent_grammar.specs.Tree as t
use Rattle.fluent_grammar.specs.Lexical.{SpellsName}
use Rattle.fluent_grammar.specs.Spelling.{SpellsHead, a_head, SpellsAttribute, an_attribute, SpellsAttributes, no_more_attributes, one_more_attribute, SpellsPattern}
use Rattle.fluent_grammar.specs.Reading.{pattern_at, readers, head_at, attribute_of, attribute_at, more_attributes, attributes_at}
use Rattle.fluent_grammar.proofs.Got.{bind_got, mapped_got, got_node, which, begins_is}
use Rattle.fluent_grammar.proofs.Words.{name_sound, name_complete}
use Rattle.fluent_grammar.proofs.Sound.{pattern_sound, readers_sound}
use Rattle.fluent_grammar.proofs.Complete.{pattern_complete}
use Rattle.fluent_grammar.proofs.Lengths.{skip_spaces-le, name-shorter, pattern-no_longer}

-- ---- heads

value_sound : (s id u : Text) (value : t.Elements) (rest : Text) → SpellsName id s u → begins_with equals (skip_spaces u) ≡ true →
    pattern_at (readers (suc (length (skip_spaces u)))) (drop 1 (skip_spaces u)) ≡ got value rest → SpellsHead id value s rest
value_sound s id u value rest n e h =
    a_head n (begins_is equals (skip_spaces u) e) (pattern_sound (readers (suc (length (skip_spaces u)))) (readers_sound (suc (length (skip_spaces u)))) _ _ _ h)

value_complete : (u v : Text) (value : t.Elements) (rest : Text) → skip_spaces u ≡ equals ∷ v → SpellsPattern value v rest →
    pattern_at (readers (suc (length (skip_spaces u)))) (drop 1 (skip_spaces u)) ≡ got value rest
value_complete u v value rest e p = rw e (pattern_complete p (suc (length (equals ∷ v))) (omega arith))

equals_sound : (s id u : Text) (x : Text × t.Elements) (rest : Text) → SpellsName id s u →
    cond (begins_with equals (skip_spaces u)) (mapped (λ value. (id, value)) (pattern_at (readers (suc (length (skip_spaces u)))) (drop 1 (skip_spaces u))))
    (refuse (r.expected_token equals) (skip_spaces u)) ≡ got x rest → SpellsHead x.0 x.1 s rest
equals_sound s id u x rest n h =
    elim (which (begins_with equals (skip_spaces u)) _ _ _ h) [
      | inl p ↦ let m = mapped_got _ _ _ _ p.1 in rw (← m.2) (value_sound s id u m.0 rest n p.0 m.1)
      | inr p ↦ absurd cc
    ]

pub head_sound : (s : Text) (x : Text × t.Elements) (rest : Text) → head_at s ≡ got x rest → SpellsHead x.0 x.1 s rest
unfolding head_at
head_sound s x rest h = let id = bind_got _ _ _ _ h in equals_sound s id.0 id.1 x rest (name_sound _ _ _ id.2) id.3

pub head_complete : {id : Text} {value : t.Elements} {s rest : Text} → SpellsHead id value s rest → head_at s ≡ got (id, value) rest
unfolding head_at
head_complete (a_head {id} {s} {u} {v} {rest} {value} n e p) =
    let b : begins_with equals (skip_spaces u) ≡ true = rw e refl in
    rw (name_complete n, b, value_complete u v value rest e p) refl

pub head-shorter : {id : Text} {value : t.Elements} {s rest : Text} → SpellsHead id value s rest → length rest < length s
head-shorter (a_head {u = u} n e p) = omega (arith, name-shorter n, skip_spaces-le u, ap length e, pattern-no_longer p)

-- ---- attributes

attribute_of_sound : (id : Text) (value : t.Elements) (s : Text) (a : t.Attribute) (rest : Text) → attribute_of id value s ≡ got a rest →
    (value ≢ t.no_elements) × (record { id = id; value = value } ≡ a) × (s ≡ rest)
attribute_of_sound id t.no_elements s a rest h = absurd cc
attribute_of_sound id (t.text x es) s a rest h = let g = got_node h in ((λ k. cc), g.0, g.1)
attribute_of_sound id (t.placeable x es) s a rest h = let g = got_node h in ((λ k. cc), g.0, g.1)

attribute_of_complete : (id : Text) (value : t.Elements) (s : Text) → value ≢ t.no_elements → attribute_of id value s ≡ got (record { id = id; value = value }) s
attribute_of_complete id t.no_elements s h = absurd (h refl)
attribute_of_complete id (t.text x es) s h = refl
attribute_of_complete id (t.placeable x es) s h = refl

attribute_value_sound : (s id u : Text) (a : t.Attribute) (rest : Text) → begins_with dot (skip_spaces s) ≡ true → SpellsName id (drop 1 (skip_spaces s)) u →
    begins_with equals (skip_spaces u) ≡ true →
    (pattern_at (readers (suc (length (skip_spaces u)))) (drop 1 (skip_spaces u)) >>= (λ value. attribute_of id value.0 value.1)) ≡ got a rest → SpellsAttribute a s rest
attribute_value_sound s id u a rest d n e h =
    let v = bind_got _ _ _ _ h in
    let x = attribute_of_sound id v.0 v.1 a rest v.3 in
    let head : SpellsHead id v.0 (drop 1 (skip_spaces s)) rest = rw x.2 at (value_sound (drop 1 (skip_spaces s)) id u v.0 v.1 n e v.2) in
    rw (← x.1) (an_attribute (begins_is dot (skip_spaces s) d) head x.0)

attribute_equals_sound : (s id u : Text) (a : t.Attribute) (rest : Text) → begins_with dot (skip_spaces s) ≡ true → SpellsName id (drop 1 (skip_spaces s)) u →
    cond (begins_with equals (skip_spaces u)) (pattern_at (readers (suc (length (skip_spaces u)))) (drop 1 (skip_spaces u)) >>= (λ value. attribute_of id value.0 value.1))
    (refuse (r.expected_token equals) (skip_spaces u)) ≡ got a rest → SpellsAttribute a s rest
attribute_equals_sound s id u a rest d n h =
    elim (which (begins_with equals (skip_spaces u)) _ _ _ h) [
      | inl p ↦ attribute_value_sound s id u a rest d n p.0 p.1
      | inr p ↦ absurd cc
    ]

pub attribute_sound : (s : Text) (a : t.Attribute) (rest : Text) → begins_with dot (skip_spaces s) ≡ true → attribute_at s ≡ got a rest → SpellsAttribute a s rest
unfolding attribute_at
attribute_sound s a rest d h = let id = bind_got _ _ _ _ h in attribute_equals_sound s id.0 id.1 a rest d (name_sound _ _ _ id.2) id.3

pub attribute-begins : {a : t.Attribute} {s rest : Text} → SpellsAttribute a s rest → begins_with dot (skip_spaces s) ≡ true
attribute-begins (an_attribute d h k) = rw d refl

attribute-head_read : (s id u v : Text) (value : t.Elements) (rest : Text) → skip_spaces s ≡ dot ∷ u → SpellsName id u v →
    begins_with equals (skip_spaces v) ≡ true → pattern_at (readers (suc (length (skip_spaces v)))) (drop 1 (skip_spaces v)) ≡ got value rest →
    attribute_at s ≡ attribute_of id value rest
unfolding attribute_at
attribute-head_read s id u v value rest d n e p = rw (d, name_complete n, e, p) refl

pub attribute_complete : {a : t.Attribute} {s rest : Text} → SpellsAttribute a s rest → attribute_at s ≡ got a rest
attribute_complete (an_attribute {id} {s} {u} {rest} {value} d (a_head {u = v} {v = w} n e p) h) =
    let b : begins_with equals (skip_spaces v) ≡ true = rw e refl in
    attribute-head_read s id u v value rest d n b (value_complete v w value rest e p) ∙ attribute_of_complete id value rest h

pub attribute-shorter : {a : t.Attribute} {s rest : Text} → SpellsAttribute a s rest → length rest < length s
attribute-shorter (an_attribute {s = s} d h k) = omega (arith, skip_spaces-le s, ap length d, head-shorter h)

-- ---- a run of attributes

none-more : (s : Text) → begins_with dot (skip_spaces s) ≡ false → (a : t.Attribute) (rest : Text) → SpellsAttribute a s rest → ⊥
none-more s h a rest d = let k : true ≡ false = sym (attribute-begins d) ∙ h in cc

refused-more : (s : Text) (fault : Refusal) → attribute_at s ≡ refused fault → (a : t.Attribute) (rest : Text) → SpellsAttribute a s rest → ⊥
refused-more s fault h a rest d = let k : got a rest ≡ refused fault = sym (attribute_complete d) ∙ h in cc

-- attributes that are left to be read are read as they are spelled
abbrev AttributesSound : (Text → List t.Attribute × Text) → ℕ → Type 0
AttributesSound left n = (s : Text) → length s ≤ n → SpellsAttributes (left s).0 s (left s).1

more_sound : (left : Text → List t.Attribute × Text) (n : ℕ) (s : Text) (x : Reading t.Attribute) → attribute_at s ≡ x → length s ≤ suc n → begins_with dot (skip_spaces s) ≡ true →
    AttributesSound left n → SpellsAttributes (more_attributes left s x).0 s (more_attributes left s x).1
more_sound left n s (refused fault) e le d more = no_more_attributes (refused-more s fault e)
more_sound left n s (got a rest) e le d more =
    let here : SpellsAttribute a s rest = attribute_sound s a rest d e in
    one_more_attribute here (more rest (omega (arith, attribute-shorter here)))

chosen_sound : (left : Text → List t.Attribute × Text) (n : ℕ) (s : Text) (b : Bool) → begins_with dot (skip_spaces s) ≡ b → length s ≤ suc n → AttributesSound left n →
    SpellsAttributes (cond b (more_attributes left s (attribute_at s)) ([], s)).0 s (cond b (more_attributes left s (attribute_at s)) ([], s)).1
chosen_sound left n s true d le more = more_sound left n s (attribute_at s) refl le d more
chosen_sound left n s false d le more = no_more_attributes (none-more s d)

pub attributes_sound : (n : ℕ) → AttributesSound (attributes_at n) n
unfolding attributes_at
attributes_sound zero [] le = no_more_attributes (none-more [] refl)
attributes_sound zero (c ∷ cs) le = absurd (omega arith)
attributes_sound (suc n) s le = chosen_sound (attributes_at n) n s (begins_with dot (skip_spaces s)) refl le (attributes_sound n)

no_more_chosen : (left : Text → List t.Attribute × Text) (s : Text) (b : Bool) (x : Reading t.Attribute) → begins_with dot (skip_spaces s) ≡ b → attribute_at s ≡ x →
    ((a : t.Attribute) (rest : Text) → SpellsAttribute a s rest → ⊥) → cond b (more_attributes left s x) ([], s) ≡ ([], s)
no_more_chosen left s false x d e none = refl
no_more_chosen left s true (refused fault) d e none = refl
no_more_chosen left s true (got a rest) d e none = absurd (none a rest (attribute_sound s a rest d e))

none_complete : (n : ℕ) (s : Text) → ((a : t.Attribute) (rest : Text) → SpellsAttribute a s rest → ⊥) → attributes_at n s ≡ ([], s)
unfolding attributes_at
none_complete zero s none = refl
none_complete (suc n) s none = no_more_chosen (attributes_at n) s _ _ refl refl none

one_complete : (n : ℕ) (s u : Text) (a : t.Attribute) (others : List t.Attribute) (rest : Text) → SpellsAttribute a s u → attributes_at n u ≡ (others, rest) →
    attributes_at (suc n) s ≡ (a ∷ others, rest)
unfolding attributes_at
one_complete n s u a others rest d h = rw (attribute-begins d, attribute_complete d, h) refl

pub attributes_complete : {others : List t.Attribute} {s rest : Text} → SpellsAttributes others s rest → (n : ℕ) → length s ≤ n → attributes_at n s ≡ (others, rest)
attributes_complete (no_more_attributes {s} none) n le = none_complete n s none
attributes_complete (one_more_attribute {s} {u} {rest} {a} {others} d more) zero le = absurd (omega (arith, attribute-shorter d))
attributes_complete (one_more_attribute {s} {u} {rest} {a} {others} d more) (suc n) le =
    one_complete n s u a others rest d (attributes_complete more n (omega (arith, attribute-shorter d)))
