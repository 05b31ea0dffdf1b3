-- A message or a term before an empty line: its last pattern takes the line, and is the same.
use Rattle.std.proofs.Common.{◌≡◌, Bool, List, [], ◌∷◌, ◌++◌, refl, sym, ap, ◌∙◌, inl, inr}
use Rattle.std.specs.Prelude.{◌≢◌, ◌⊎◌}
use Rattle.fluent_grammar.specs.Words.{Text, line_feed, carriage_return, equals, dot, hyphen, begins_crlf, skip_spaces, skip_blank_block, after_line_end}
use Rattle.fluent_grammar.specs.Tree as t
use Rattle.fluent_grammar.specs.Lines.{Piece, at_line_start, ends_line, common_indent, without_blank_end, elements_of}
use Rattle.fluent_grammar.specs.Lexical.{SpellsText, to_line_feed}
use Rattle.fluent_grammar.specs.Spelling.{SpellsPattern, on_the_line, on_the_next, SpellsPieces, nothing_left, crlf_piece, text_piece, placeable_piece, SpellsLine, only_spaces_left, pattern_over, line_of_text, line_of_placeable, line_of_crlf, SpellsBehindText, next_line, same_line, SpellsHead, a_head, SpellsAttribute, an_attribute, SpellsAttributes, no_more_attributes, one_more_attribute, SpellsEntry, a_message, a_term, a_comment, a_group_comment, a_resource_comment}
use Rattle.fluent_tidy_laws.proofs.Alike.{Alike, more, alike-then, alike-some, alike-crlf, alike-no_end, back-spaces, back-block}
use Rattle.fluent_tidy_laws.proofs.MovingWords.{name-moves, Same, here, there, same-feed, text-ended, text-moves, begins_text-moves, pattern_ends-moves, Over, over_here, alike-over, alike-skip_spaces, block-onto, end-onto}
use Rattle.fluent_tidy_laws.proofs.MovingPatterns.{over-line, alike-at, alike-end, crlf-text, block-none, line-placeable, line-text, text-at, begins-at, placeable-at, pieces-at, line-at, placeable-moves}
use Rattle.fluent_tidy_laws.proofs.MovingEntries.{head-over, head-moves, attribute-over, attribute-moves, IsListed, attributes-at}
use Rattle.fluent_tidy_laws.proofs.Clean.{over-block}

-- the piece that an empty line is
abbrev empty_piece : Piece
empty_piece = at_line_start 0 (line_feed ∷ [])

-- ---- it changes no elements

gap-indent : (ps : List Piece) → common_indent (ps ++ empty_piece ∷ []) ≡ common_indent ps
gap-indent [] = refl
gap-indent (p ∷ ps) = rw (gap-indent ps) refl

gap-end : (ps : List Piece) → without_blank_end (ps ++ empty_piece ∷ []) ≡ without_blank_end ps
gap-end [] = refl
gap-end (p ∷ ps) = rw (gap-end ps) refl

gap-elements : (ps : List Piece) → elements_of (ps ++ empty_piece ∷ []) ≡ elements_of ps
gap-elements ps = rw (gap-indent ps, gap-end ps) refl

some-pieces : {value : t.Elements} {ps : List Piece} → value ≡ elements_of ps → value ≢ t.no_elements → ps ≢ []
some-pieces e some h = some (e ∙ ap elements_of h)

-- ---- the line

gap-line : {rest : Text} → Over rest → SpellsLine (empty_piece ∷ []) (line_feed ∷ rest) rest
gap-line {rest} o = line_of_text {s = line_feed ∷ rest} refl (record { not_end = λ e. absurd cc; no_brace = refl; no_crlf = refl }) to_line_feed (next_line (over-line o))

mutual
  pieces-gap : {ps : List Piece} {s rest : Text} → SpellsPieces ps s rest → rest ≢ [] →
      (s' : Text) × Alike line_feed rest (line_feed ∷ rest) s s' × SpellsPieces (ps ++ empty_piece ∷ []) s' rest
  pieces-gap nothing_left some = absurd (some refl)
  pieces-gap (crlf_piece {s = s} c d) some =
      let d' = line-gap d some in
      (carriage_return ∷ line_feed ∷ d'.0, alike-at (crlf-text s c) (more carriage_return (same-feed d'.1)), crlf_piece refl d'.3)
  pieces-gap (text_piece b x d) some =
      let d' = behind_text-gap d x some refl in
      (d'.0, d'.1, text_piece (begins_text-moves refl d'.1 b) d'.3 d'.4)
  pieces-gap (placeable_piece e d) some =
      let d' = pieces-gap d some in
      let e' = placeable-moves e d'.0 in
      (e'.0, alike-then e'.1 d'.1, placeable_piece e'.2 d'.2)

  line-gap : {ps : List Piece} {s rest : Text} → SpellsLine ps s rest → rest ≢ [] →
      (s' : Text) × Same rest (line_feed ∷ rest) s s' × (ps ≢ [] → Alike line_feed rest (line_feed ∷ rest) s s') × SpellsLine (ps ++ empty_piece ∷ []) s' rest
  line-gap (only_spaces_left h) some = absurd (some refl)
  line-gap (pattern_over {s} h k) some = (line_feed ∷ s, here, (λ e. absurd (e refl)), gap-line (over_here h k))
  line-gap (line_of_text {s = s} h b x d) some =
      let d' = behind_text-gap d x some refl in
      let s' = back-spaces s d'.1 in
      let b' = begins_text-moves refl d'.1 b in
      (s'.0, there s'.1, (λ e. s'.1), line-text s s'.3 (pattern_ends-moves s s'.0 s'.3 s'.1 (alike-end s'.2 d'.1) ∙ h) (begins-at s'.2 b') (text-at s'.2 d'.3) d'.4)
  line-gap (line_of_placeable {s = s} h e d) some =
      let d' = pieces-gap d some in
      let e' = placeable-moves e d'.0 in
      let s' = back-spaces s (alike-then e'.1 d'.1) in
      (s'.0, there s'.1, (λ e. s'.1), line-placeable s s'.3 (pattern_ends-moves s s'.0 s'.3 s'.1 (alike-end s'.2 (alike-then e'.1 d'.1)) ∙ h) (placeable-at s'.2 e'.2) d'.2)
  line-gap (line_of_crlf {s = s} h c d) some =
      let d' = pieces-gap d some in
      let s' = back-spaces s d'.1 in
      (s'.0, there s'.1, (λ e. s'.1), line_of_crlf (pattern_ends-moves s s'.0 s'.3 s'.1 (alike-end s'.2 d'.1) ∙ h) (ap begins_crlf s'.2 ∙ sym (alike-crlf refl d'.1) ∙ c) (pieces-at s'.2 d'.2))

  behind_text-gap : {ends : Bool} {ps : List Piece} {u rest : Text} → SpellsBehindText ends ps u rest → {piece s : Text} → SpellsText piece s u → rest ≢ [] →
      ends_line piece ≡ ends → (s' : Text) × Alike line_feed rest (line_feed ∷ rest) s s' × (u' : Text) × SpellsText piece s' u' × SpellsBehindText ends (ps ++ empty_piece ∷ []) u' rest
  behind_text-gap (next_line d) x some e =
      let d' = line-gap d some in
      let x' = text-ended x e d'.1 in
      (x'.0, x'.1, d'.0, x'.2, next_line d'.3)
  behind_text-gap (same_line d) x some e =
      let d' = pieces-gap d some in
      let x' = text-moves x refl d'.1 in
      (x'.0, x'.1, d'.0, x'.2, same_line d'.2)

pattern-gap : {value : t.Elements} {s rest : Text} → SpellsPattern value s rest → value ≢ t.no_elements → rest ≢ [] →
    (s' : Text) × Alike line_feed rest (line_feed ∷ rest) s s' × SpellsPattern value s' rest
pattern-gap (on_the_line {s = s} {ps = ps} n d e) k some =
    let d' = pieces-gap d some in
    let s' = back-spaces s d'.1 in
    (s'.0, s'.1, on_the_line (ap after_line_end s'.2 ∙ alike-no_end refl d'.1 n) (pieces-at s'.2 d'.2) (e ∙ sym (gap-elements ps)))
pattern-gap (on_the_next {s = s} {u = u} {ps = ps} n d e) k some =
    let d' = line-gap d some in
    let h = d'.2 (some-pieces e k) in
    let u' = block-onto u (there h) (alike-no_end refl (alike-skip_spaces refl h) (block-none u)) in
    let n' = end-onto (skip_spaces s) u n u'.1 in
    let s' = back-spaces s n'.1 in
    (s'.0, s'.1, on_the_next (ap after_line_end s'.2 ∙ n'.2) (line-at u'.2 d'.3) (e ∙ sym (gap-elements ps)))

-- ---- heads, attributes, entries

head-gap : {id : Text} {value : t.Elements} {s rest : Text} → SpellsHead id value s rest → value ≢ t.no_elements → rest ≢ [] →
    (s' : Text) × Alike line_feed rest (line_feed ∷ rest) s s' × SpellsHead id value s' rest
head-gap (a_head {u = u} n e d) k some =
    let d' = pattern-gap d k some in
    let u' = back-spaces u (alike-at e (more equals d'.1)) in
    let n' = name-moves n u'.1 in
    (n'.0, n'.1, a_head n'.2 u'.2 d'.2)

attribute-gap : {a : t.Attribute} {s rest : Text} → SpellsAttribute a s rest → rest ≢ [] →
    (s' : Text) × Alike line_feed rest (line_feed ∷ rest) s s' × SpellsAttribute a s' rest
attribute-gap (an_attribute {s = s} b d h) some =
    let d' = head-gap d h some in
    let s' = back-spaces s (alike-at b (more dot d'.1)) in
    (s'.0, s'.1, an_attribute s'.2 d'.2 h)

attributes-gap : {attributes : List t.Attribute} {s rest : Text} → SpellsAttributes attributes s rest → attributes ≢ [] → rest ≢ [] →
    (s' : Text) × Alike line_feed rest (line_feed ∷ rest) s s' × SpellsAttributes attributes s' rest
attributes-gap (no_more_attributes none) k some = absurd (k refl)
attributes-gap (one_more_attribute d (no_more_attributes none)) k some =
    let d' = attribute-gap d some in
    (d'.0, d'.1, one_more_attribute d'.2 (no_more_attributes none))
attributes-gap (one_more_attribute d (one_more_attribute e m)) k some =
    let m' = attributes-gap (one_more_attribute e m) (λ h. absurd cc) some in
    let d' = attribute-moves d m'.0 (alike-some m'.1) (alike-over refl m'.1 (attribute-over d)) in
    (d'.0, alike-then d'.1 m'.1, one_more_attribute d'.2 m'.2)

gap-at : {u v s s' : Text} → u ≡ v → Alike line_feed u (line_feed ∷ u) s s' → Alike line_feed v (line_feed ∷ v) s s'
gap-at e h = rw (← e) h

-- a head with the attributes after it
body-gap : {id : Text} {value : t.Elements} {attributes : List t.Attribute} {s u rest : Text} → SpellsHead id value s u → SpellsAttributes attributes (skip_blank_block u) rest →
    (value ≢ t.no_elements) ⊎ (attributes ≢ []) → rest ≢ [] →
    (s' : Text) × Alike line_feed rest (line_feed ∷ rest) s s' × (u' : Text) × SpellsHead id value s' u' × SpellsAttributes attributes (skip_blank_block u') rest
body-gap {u = u} d (no_more_attributes none) (inr k) some = absurd (k refl)
body-gap {u = u} d (no_more_attributes none) (inl k) some =
    let e : skip_blank_block u ≡ u = over-block (head-over d) in
    let d' = head-gap d k (λ h. some (e ∙ h)) in
    (d'.0, gap-at (sym e) d'.1, u, d'.2, no_more_attributes none)
body-gap {u = u} d (one_more_attribute a m) k some =
    let m' = attributes-gap (one_more_attribute a m) (λ h. absurd cc) some in
    let u' = back-block u m'.1 (alike-no_end refl (alike-skip_spaces refl m'.1) (block-none u)) in
    let d' = head-moves d u'.0 (alike-some u'.1) (alike-over refl u'.1 (head-over d)) in
    (d'.0, alike-then {s' = d'.0} d'.1 u'.1, u'.0, d'.2, attributes-at u'.2 m'.2)

-- A message or a term takes an empty line after it.
pub entry-gap : {e : t.Entry} {s rest : Text} → SpellsEntry e s rest → IsListed e → rest ≢ [] →
    (s' : Text) × Alike line_feed rest (line_feed ∷ rest) s s' × SpellsEntry e s' rest
entry-gap (a_message d m h) k some = let b = body-gap d m h some in (b.0, b.1, a_message b.3 b.4 h)
entry-gap (a_term e d m h) k some = let b = body-gap d m (inl h) some in (hyphen ∷ b.0, alike-at e (more hyphen b.1), a_term refl b.3 b.4 h)
entry-gap (a_comment d) k some = absurd k
entry-gap (a_group_comment d) k some = absurd k
entry-gap (a_resource_comment d) k some = absurd k
