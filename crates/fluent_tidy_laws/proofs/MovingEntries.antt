-- A message or a term is spelled by the same front before any rest that stops.
use Rattle.std.proofs.Common.{◌≡◌, ℕ, true, false, List, [], ◌∷◌, refl, sym, ◌∙◌, arith}
use Rattle.std.specs.Prelude.{◌==◌, ◌≢◌}
use Rattle.std.proofs.lemmas.Bool.Decides.{nat_tests}
use Rattle.fluent_grammar.specs.Words.{Text, space, line_feed, equals, dot, hyphen, begins, begins_entry, spaces, skip_spaces, skip_blank_block}
use Rattle.fluent_grammar.specs.Tree as t
use Rattle.fluent_grammar.specs.Lines.{pattern_ends, goes_on_at_column_zero}
use Rattle.fluent_grammar.specs.Spelling.{SpellsHead, a_head, SpellsAttribute, an_attribute, SpellsAttributes, no_more_attributes, one_more_attribute, SpellsEntry, a_message, a_term, a_comment, a_group_comment, a_resource_comment}
use Rattle.fluent_grammar.specs.Blanks.{no_lines}
use Rattle.fluent_grammar.proofs.Blanks.{block-skipped}
use Rattle.fluent_tidy_laws.proofs.Alike.{Alike, more, alike-then, alike-some, back-spaces}
use Rattle.fluent_tidy_laws.proofs.MovingWords.{name-moves, Same, here, there, Over, over_end, over_here, over-no_end, alike-over, block-onto, same-no_end}
use Rattle.fluent_tidy_laws.proofs.MovingPatterns.{pattern-over, pattern-moves, alike-at, block-none}

-- A text stops: it is empty, or begins with a byte that begins an entry.
pub data Stops : Text → Type 0 where
  stops_empty : Stops []
  stops_here : {s : Text} → begins begins_entry s ≡ true → Stops s

no_space-first : (c : ℕ) → begins_entry c ≡ true → (c == space) ≡ false
no_space-first c h = grind (arith, nat_tests)

no_dot-first : (c : ℕ) → begins_entry c ≡ true → (c == dot) ≡ false
no_dot-first c h = grind (arith, nat_tests)

not_on-first : (c : ℕ) → begins_entry c ≡ true → goes_on_at_column_zero c ≡ false
not_on-first c h = grind (arith, nat_tests)

entry-spaces : (s : Text) → begins begins_entry s ≡ true → spaces s ≡ 0
entry-spaces [] h = absurd cc
entry-spaces (c ∷ cs) h = rw (no_space-first c h) refl

pub entry-skip : (s : Text) → begins begins_entry s ≡ true → skip_spaces s ≡ s
entry-skip s h = rw (entry-spaces s h) refl

pub entry-some : (s : Text) → begins begins_entry s ≡ true → s ≢ []
entry-some [] h e = absurd cc
entry-some (c ∷ cs) h e = absurd cc

entry-ends : (s : Text) → begins begins_entry s ≡ true → pattern_ends s ≡ true
entry-ends [] h = absurd cc
entry-ends (c ∷ cs) h = rw (entry-spaces (c ∷ cs) h, not_on-first c h) refl

pub stops-over : {s : Text} → Stops s → Over s
stops-over stops_empty = over_end
stops-over (stops_here {s} h) = over_here (λ e. entry-some s h (sym (entry-skip s h) ∙ e)) (entry-ends s h)

entry-no_dot : (s u : Text) → begins begins_entry s ≡ true → skip_spaces s ≡ dot ∷ u → ⊥
entry-no_dot [] u h e = absurd cc
entry-no_dot (c ∷ cs) u h e =
    let k : c ∷ cs ≡ dot ∷ u = sym (entry-skip (c ∷ cs) h) ∙ e in
    let n : (c == dot) ≡ false = no_dot-first c h in
    absurd cc

-- no attribute stands there
pub stops-no_attribute : {s rest : Text} {a : t.Attribute} → Stops s → SpellsAttribute a s rest → ⊥
stops-no_attribute stops_empty (an_attribute b d h) = absurd cc
stops-no_attribute (stops_here {s} k) (an_attribute {u = u} b d h) = entry-no_dot s u k b

pub head-over : {id : Text} {value : t.Elements} {s rest : Text} → SpellsHead id value s rest → Over rest
head-over (a_head n e d) = pattern-over d

pub head-moves : {id : Text} {value : t.Elements} {s rest : Text} → SpellsHead id value s rest → (rest' : Text) → rest ≢ [] → Over rest' →
    (s' : Text) × Alike line_feed rest rest' s s' × SpellsHead id value s' rest'
head-moves (a_head {u = u} n e d) rest' some over =
    let d' = pattern-moves d rest' some over in
    let u' = back-spaces u (alike-at e (more equals d'.1)) in
    let n' = name-moves n u'.1 in
    (n'.0, n'.1, a_head n'.2 u'.2 d'.2)

pub attribute-over : {a : t.Attribute} {s rest : Text} → SpellsAttribute a s rest → Over rest
attribute-over (an_attribute b d h) = head-over d

pub attribute-moves : {a : t.Attribute} {s rest : Text} → SpellsAttribute a s rest → (rest' : Text) → rest ≢ [] → Over rest' →
    (s' : Text) × Alike line_feed rest rest' s s' × SpellsAttribute a s' rest'
attribute-moves (an_attribute {s = s} b d h) rest' some over =
    let d' = head-moves d rest' some over in
    let s' = back-spaces s (alike-at b (more dot d'.1)) in
    (s'.0, s'.1, an_attribute s'.2 d'.2 h)

pub same-some : {x x' u u' : Text} → x ≢ [] → Same x x' u u' → u ≢ []
same-some some here = some
same-some some (there h) = alike-some h

pub same-over : {x x' u u' : Text} → Over x' → Same x x' u u' → Over u → Over u'
same-over over here o = over
same-over over (there h) o = alike-over refl h o

pub alike-same : {x x' u u' s s' : Text} → Alike line_feed u u' s s' → Same x x' u u' → Alike line_feed x x' s s'
alike-same h here = h
alike-same h (there k) = alike-then h k

pub attributes-moves : {attributes : List t.Attribute} {s rest : Text} → SpellsAttributes attributes s rest → (rest' : Text) → rest ≢ [] → Stops rest' →
    (s' : Text) × Same rest rest' s s' × SpellsAttributes attributes s' rest'
attributes-moves (no_more_attributes none) rest' some stops = (rest', here, no_more_attributes (λ a u d. stops-no_attribute stops d))
attributes-moves (one_more_attribute d m) rest' some stops =
    let m' = attributes-moves m rest' some stops in
    let d' = attribute-moves d m'.0 (same-some some m'.1) (same-over (stops-over stops) m'.1 (attribute-over d)) in
    (d'.0, there (alike-same d'.1 m'.1), one_more_attribute d'.2 m'.2)

pub attributes-at : {attributes : List t.Attribute} {s s' u : Text} → s ≡ s' → SpellsAttributes attributes s' u → SpellsAttributes attributes s u
attributes-at h d = rw h d

-- a head with the attributes after it
pub body-moves : {id : Text} {value : t.Elements} {attributes : List t.Attribute} {s u rest : Text} → SpellsHead id value s u → SpellsAttributes attributes (skip_blank_block u) rest →
    (rest' : Text) → rest ≢ [] → Stops rest' →
    (s' : Text) × Alike line_feed rest rest' s s' × (u' : Text) × SpellsHead id value s' u' × SpellsAttributes attributes (skip_blank_block u') rest'
body-moves {u = u} d m rest' some stops =
    let m' = attributes-moves m rest' some stops in
    let u' = block-onto u m'.1 (same-no_end (stops-over stops) m'.1 (block-none u)) in
    let d' = head-moves d u'.0 (same-some some u'.1) (same-over (stops-over stops) u'.1 (head-over d)) in
    (d'.0, alike-same d'.1 u'.1, u'.0, d'.2, attributes-at u'.2 m'.2)

-- a message or a term
abbrev pub IsListed : t.Entry → Type 0
IsListed (t.message m) = Unit {0}
IsListed (t.term m) = Unit {0}
IsListed (t.comment c) = ⊥
IsListed (t.group_comment c) = ⊥
IsListed (t.resource_comment c) = ⊥
IsListed (t.junk s) = ⊥

-- What ends an entry ends it anywhere.
pub entry-moves : {e : t.Entry} {s rest : Text} → SpellsEntry e s rest → IsListed e → (rest' : Text) → rest ≢ [] → Stops rest' →
    (s' : Text) × Alike line_feed rest rest' s s' × SpellsEntry e s' rest'
entry-moves (a_message d m h) k rest' some stops = let b = body-moves d m rest' some stops in (b.0, b.1, a_message b.3 b.4 h)
entry-moves (a_term e d m h) k rest' some stops = let b = body-moves d m rest' some stops in (hyphen ∷ b.0, alike-at e (more hyphen b.1), a_term refl b.3 b.4 h)
entry-moves (a_comment d) k rest' some stops = absurd k
entry-moves (a_group_comment d) k rest' some stops = absurd k
entry-moves (a_resource_comment d) k rest' some stops = absurd k

-- what a message or a term leaves is a place where a pattern is over, so no blank line begins there
attributes-over : {attributes : List t.Attribute} {s rest : Text} → SpellsAttributes attributes s rest → Over s → Over rest
attributes-over (no_more_attributes none) o = o
attributes-over (one_more_attribute d m) o = attributes-over m (attribute-over d)

block-over : (u : Text) → Over u → Over (skip_blank_block u)
block-over u o = rw (block-skipped [] u u (record { split = refl; lines = no_lines; longest = over-no_end o })) o

pub entry-over : {e : t.Entry} {s rest : Text} → SpellsEntry e s rest → IsListed e → Over rest
entry-over (a_message {u = u} d m h) k = attributes-over m (block-over u (head-over d))
entry-over (a_term {v = v} e d m h) k = attributes-over m (block-over v (head-over d))
entry-over (a_comment d) k = absurd k
entry-over (a_group_comment d) k = absurd k
entry-over (a_resource_comment d) k = absurd k

pub head-at : {id : Text} {value : t.Elements} {s u rest : Text} → s ≡ u → SpellsHead id value u rest → SpellsHead id value s rest
head-at e d = rw e d
