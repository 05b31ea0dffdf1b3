-- Patterns, attributes, messages and terms that end at the end of a text end where blank lines are put after it, before what stops.
use Rattle.std.proofs.Common.{◌≡◌, ℕ, List, [], ◌∷◌, ◌++◌, Some, refl, sym, ap, ◌∙◌, arith, append_assoc, inl, inr, replicate, zero, suc}
use Rattle.std.specs.Prelude.{◌≢◌, ◌⊎◌}
use Rattle.fluent_grammar.specs.Words.{Text, space, line_feed, carriage_return, equals, dot, skip_spaces, skip_blank_block, after_line_end}
use Rattle.fluent_grammar.specs.Tree as t
use Rattle.fluent_grammar.specs.Lexical.{SpellsLineEnd, lf, crlf}
use Rattle.fluent_grammar.specs.Lines.{Piece, elements_of}
use Rattle.fluent_grammar.specs.Blanks.{BlankLines, no_lines, ends_lf, ends_crlf, BlankBlock}
use Rattle.fluent_grammar.specs.Spelling.{SpellsLine, only_spaces_left, pattern_over, line_of_text, line_of_placeable, line_of_crlf, SpellsPattern, on_the_line, on_the_next, SpellsHead, a_head, SpellsAttribute, an_attribute, SpellsAttributes, no_more_attributes, one_more_attribute, SpellsEntry, a_message, a_term, a_comment, a_group_comment, a_resource_comment}
use Rattle.fluent_grammar.proofs.BlankWords.{line_end_sound, line_end_complete}
use Rattle.fluent_grammar.proofs.Blanks.{block-at, block-skipped}
use Rattle.fluent_tidy_laws.proofs.Alike.{last, alike-some, back-spaces}
use Rattle.fluent_tidy_laws.proofs.MovingWords.{Over, over_end, over_here, name-moves}
use Rattle.fluent_tidy_laws.proofs.MovingPatterns.{pieces-at, line-at, alike-at, placeable-moves}
use Rattle.fluent_tidy_laws.proofs.MovingEntries.{Stops, stops_empty, stops-over, stops-no_attribute, head-over, head-moves, attribute-over, attribute-moves, attributes-at, IsListed, head-at}
use Rattle.fluent_tidy_laws.proofs.Clean.{over-block}
use Rattle.fluent_tidy_laws.proofs.TextEnds.{Joint, Lined, lined-some, lined-at, lined-tail, alike-append, alike-lined, alike-joint, joint-whole, no_end-append, spaces-lined, skip_spaces-append, pattern_ends-append}
use Rattle.fluent_tidy_laws.proofs.LaterPieces.{later-same}
use Rattle.fluent_tidy_laws.proofs.LaterPatterns.{pieces-none, pieces-later, line-later}
use Rattle.fluent_tidy_laws.proofs.TextParts.{empty_or, append-some}

-- ---- line ends and blank blocks

pub line_end-append : {s u : Text} (t : Text) → SpellsLineEnd s u → SpellsLineEnd (s ++ t) (u ++ t)
line_end-append t lf = lf
line_end-append t crlf = crlf

end-append : (s u t : Text) → after_line_end s ≡ Some u → after_line_end (s ++ t) ≡ Some (u ++ t)
end-append s u t e = line_end_complete (line_end-append t (line_end_sound s u e))

end-lined : {blanks s u : Text} → SpellsLineEnd s u → Joint blanks s → Lined blanks u
end-lined lf j = lined-tail line_feed _ (omega arith) j
end-lined crlf j = lined-tail line_feed _ (omega arith) (lined-some (λ e. cc) (lined-tail carriage_return _ (omega arith) j))

spaced-lined : {blanks : Text} (n : ℕ) (w : Text) → Lined blanks (replicate n space ++ w) → Lined blanks w
spaced-lined zero w j = j
spaced-lined (suc n) w j = spaced-lined n w (lined-tail space (replicate n space ++ w) (omega arith) (lined-some (λ e. cc) j))

pub blanks-lined : {blanks b : Text} → BlankLines b → (w : Text) → Lined blanks (b ++ w) → Lined blanks w
blanks-lined no_lines w j = j
blanks-lined (ends_lf {more = m} n d) w j =
    let k = spaced-lined n (line_feed ∷ (m ++ w)) (lined-at (append_assoc (replicate n space) (line_feed ∷ m) w) j) in
    blanks-lined d w (lined-tail line_feed (m ++ w) (omega arith) (lined-some (λ e. cc) k))
blanks-lined (ends_crlf {more = m} n d) w j =
    let k = spaced-lined n (carriage_return ∷ line_feed ∷ (m ++ w)) (lined-at (append_assoc (replicate n space) (carriage_return ∷ line_feed ∷ m) w) j) in
    let c = lined-tail carriage_return (line_feed ∷ (m ++ w)) (omega arith) (lined-some (λ e. cc) k) in
    blanks-lined d w (lined-tail line_feed (m ++ w) (omega arith) (lined-some (λ e. cc) c))

-- a blank block, before what isn't spaces alone
block-append : {blanks : Text} (u t : Text) → skip_spaces (skip_blank_block u) ≢ [] → Joint blanks (skip_spaces (skip_blank_block u)) → skip_blank_block (u ++ t) ≡ skip_blank_block u ++ t
block-append u t some j =
    let b = block-at u in
    let w = skip_blank_block u in
    let d : BlankBlock b.0 (u ++ t) (w ++ t) = record {
      split = ap (λ z. z ++ t) b.1.split ∙ append_assoc b.0 w t;
      lines = b.1.lines;
      longest = ap after_line_end (skip_spaces-append w t some) ∙ no_end-append (skip_spaces w) t (joint-whole j) some b.1.longest;
    } in
    block-skipped b.0 (u ++ t) (w ++ t) d

-- ---- patterns

line-some : {ps : List Piece} {s rest : Text} → SpellsLine ps s rest → ps ≢ [] → skip_spaces s ≢ []
line-some (only_spaces_left h) n e = n refl
line-some (pattern_over h k) n e = n refl
line-some (line_of_text h b x d) n e = b.not_end e
line-some (line_of_placeable h p d) n e = alike-some (placeable-moves p []).1 e
line-some (line_of_crlf h c d) n e = n (pieces-none d e)

pub pattern-later : {value : t.Elements} {s rest blanks x : Text} → SpellsPattern value s rest → rest ≡ [] → value ≢ t.no_elements → Joint blanks s → BlankLines blanks → Over x → SpellsPattern value (s ++ (blanks ++ x)) x
pattern-later {blanks = blanks} {x = x} (on_the_line {s = s} n d e) z v j l o =
    let t = blanks ++ x in
    let some : skip_spaces s ≢ [] = λ k. v (e ∙ ap elements_of (pieces-none d k)) in
    let k = lined-some some (spaces-lined s (inr j)) in
    let r = pieces-later d z k l o in
    let w = skip_spaces-append s t some in
    on_the_line (ap after_line_end w ∙ no_end-append (skip_spaces s) t (joint-whole k) some n) (pieces-at w r.spelled) (e ∙ sym (later-same r.later))
pattern-later {blanks = blanks} {x = x} (on_the_next {s = s} {u = u} n d e) z v j l o =
    let t = blanks ++ x in
    let some : skip_spaces s ≢ [] = λ k. absurd (let q : after_line_end [] ≡ Some u = rw k at n in cc) in
    let k = lined-some some (spaces-lined s (inr j)) in
    let b = block-at u in
    let w = skip_blank_block u in
    let lined : Lined blanks w = blanks-lined b.1.lines w (lined-at b.1.split (end-lined (line_end_sound (skip_spaces s) u n) k)) in
    let more : skip_spaces w ≢ [] = line-some d (λ q. v (e ∙ ap elements_of q)) in
    let r = line-later d z lined l o in
    on_the_next (ap after_line_end (skip_spaces-append s t some) ∙ end-append (skip_spaces s) u t n) (line-at (block-append u t more (lined-some more (spaces-lined w lined))) r.spelled) (e ∙ sym (later-same r.later))

-- ---- heads and attributes

attribute-at : {a : t.Attribute} {s u rest : Text} → s ≡ u → SpellsAttribute a u rest → SpellsAttribute a s rest
attribute-at e d = rw e d

head-later : {id : Text} {value : t.Elements} {s rest blanks x : Text} → SpellsHead id value s rest → rest ≡ [] → value ≢ t.no_elements → Joint blanks s → BlankLines blanks → Over x → SpellsHead id value (s ++ (blanks ++ x)) x
head-later {blanks = blanks} {x = x} (a_head {u = u} {v = v} n e d) z some j l o =
    let t = blanks ++ x in
    let u' = back-spaces {x = v} {x' = v ++ t} {r' = equals ∷ (v ++ t)} u (alike-at e last) in
    let n' = name-moves n u'.1 in
    let d' = pattern-later d z some (alike-joint n'.1 (omega arith) refl j) l o in
    head-at (sym (alike-append t n'.1)) (a_head n'.2 u'.2 d')

attribute-later : {a : t.Attribute} {s rest blanks x : Text} → SpellsAttribute a s rest → rest ≡ [] → Joint blanks s → BlankLines blanks → Over x → SpellsAttribute a (s ++ (blanks ++ x)) x
attribute-later {blanks = blanks} {x = x} (an_attribute {s = s} {u = u} b d h) z j l o =
    let t = blanks ++ x in
    let s' = back-spaces {x = u} {x' = u ++ t} {r' = dot ∷ (u ++ t)} s (alike-at b last) in
    attribute-at (sym (alike-append t s'.1)) (an_attribute s'.2 (head-later d z h (alike-joint s'.1 (omega arith) refl j) l o) h)

pub over-append : {u : Text} (t : Text) → u ≢ [] → Over u → Over (u ++ t)
over-append t some over_end = absurd (some refl)
over-append t some (over_here {s} n e) = over_here (λ k. append-some (skip_spaces s) t n (sym (skip_spaces-append s t n) ∙ k)) (pattern_ends-append s t n ∙ e)

attributes-none : {attributes : List t.Attribute} {s rest : Text} → SpellsAttributes attributes s rest → s ≡ [] → attributes ≡ []
attributes-none (no_more_attributes none) e = refl
attributes-none (one_more_attribute d m) e = absurd (stops-no_attribute stops_empty (attribute-at (sym e) d))

no_others : {others : List t.Attribute} {x : Text} → others ≡ [] → Stops x → SpellsAttributes others x x
no_others e stops = rw e (no_more_attributes (λ a v d. stops-no_attribute stops d))

attributes-later : {attributes : List t.Attribute} {s rest blanks x : Text} → SpellsAttributes attributes s rest → rest ≡ [] → s ≢ [] → Joint blanks s → BlankLines blanks → Stops x → SpellsAttributes attributes (s ++ (blanks ++ x)) x
attributes-later (no_more_attributes none) z some j l stops = absurd (some z)
attributes-later {blanks = blanks} {x = x} (one_more_attribute {u = u} d m) z some j l stops =
    elim (empty_or u) [
      | inl e ↦ one_more_attribute (attribute-later d e j l (stops-over stops)) (no_others (attributes-none m e) stops)
      | inr more ↦
          let t = blanks ++ x in
          let d' = attribute-moves d (u ++ t) more (over-append t more (attribute-over d)) in
          let m' = attributes-later m z more (lined-some more (alike-lined d'.1 (omega arith) j)) l stops in
          one_more_attribute (attribute-at (sym (alike-append t d'.1)) d'.2) m'
    ]

record BodyLater (id : Text) (value : t.Elements) (attributes : List t.Attribute) (s x : Text) : Type 0 where
  left : Text
  head : SpellsHead id value s left
  others : SpellsAttributes attributes (skip_blank_block left) x

body-later : {id : Text} {value : t.Elements} {attributes : List t.Attribute} {s u rest blanks x : Text} → SpellsHead id value s u → SpellsAttributes attributes (skip_blank_block u) rest → rest ≡ [] →
    (attributes ≡ [] → value ≢ t.no_elements) → Joint blanks s → BlankLines blanks → Stops x → BodyLater id value attributes (s ++ (blanks ++ x)) x
body-later {s = s} {u = u} {blanks = blanks} {x = x} d m z some j l stops =
    let w : skip_blank_block u ≡ u = over-block (head-over d) in
    elim (empty_or u) [
      | inl e ↦
          let none = attributes-none m (w ∙ e) in
          record { left = x; head = head-later d e (some none) j l (stops-over stops); others = attributes-at (over-block (stops-over stops)) (no_others none stops) }
      | inr more ↦
          let t = blanks ++ x in
          let over = over-append t more (head-over d) in
          let d' = head-moves d (u ++ t) more over in
          let m' = attributes-later (attributes-at (sym w) m) z more (lined-some more (alike-lined d'.1 (omega arith) j)) l stops in
          record { left = u ++ t; head = head-at (sym (alike-append t d'.1)) d'.2; others = attributes-at (over-block over) m' }
    ]

-- ---- messages and terms

has-value : {value : t.Elements} {attributes : List t.Attribute} → (value ≢ t.no_elements) ⊎ (attributes ≢ []) → attributes ≡ [] → value ≢ t.no_elements
has-value (inl v) e = v
has-value (inr a) e = absurd (a e)

pub entry-later : {e : t.Entry} {s rest blanks x : Text} → SpellsEntry e s rest → rest ≡ [] → IsListed e → Joint blanks s → BlankLines blanks → Stops x → SpellsEntry e (s ++ (blanks ++ x)) x
entry-later (a_message d m h) z k j l stops = let b = body-later d m z (has-value h) j l stops in a_message b.head b.others h
entry-later {blanks = blanks} {x = x} (a_term {u = u} e d m h) z k j l stops =
    let b = body-later d m z (λ n. h) (alike-joint {x' = []} (alike-at e last) (omega arith) refl j) l stops in
    a_term (ap (λ z. z ++ (blanks ++ x)) e) b.head b.others h
entry-later (a_comment d) z k j l stops = absurd k
entry-later (a_group_comment d) z k j l stops = absurd k
entry-later (a_resource_comment d) z k j l stops = absurd k
