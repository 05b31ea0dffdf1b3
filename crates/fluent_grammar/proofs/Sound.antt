-- What is read is spelled so: each construct, where the readers of what stands inside it read what is spelled.
use Rattle.std.proofs.Common.{◌≡◌, ℕ, zero, suc, Bool, true, false, cond, List, [], ◌∷◌, length, drop, Option, Some, None, refl, sym, ap, ◌∙◌, arith, inl, inr}
use Rattle.std.specs.Prelude.{◌==◌, ◌≢◌}
use Rattle.std.specs.List.{list_all}
use Rattle.fluent_grammar.specs.Words.{Text, quote, dollar, hyphen, greater, colon, asterisk, open_paren, close_paren, open_bracket, close_bracket, open_brace, close_brace, skip_blank, skip_spaces, spaces, skip_separator, begins, begins_with, begins_arrow, begins_crlf, after_line_end, is_letter, is_digit, is_callee_byte, is_among}
use Rattle.fluent_grammar.specs.Refusal.{Kind, Refusal, Reading, got, refused, refuse, mapped, ◌>>=◌}
use Rattle.fluent_grammar.specs.Refusal as r
use Rattle.fluent_grammar.specs.Tree as t
use Rattle.fluent_grammar.specs.Lines.{Piece, at_line_start, in_line, placed, elements_of, ends_line, pattern_ends}
use Rattle.fluent_grammar.specs.Lexical.{SpellsName, SpellsAccessor, no_accessor, an_accessor, SpellsLiteral, SpellsText}
use Rattle.fluent_grammar.specs.Spelling.{may_stand_alone, may_be_selector, IsPositional, SpellsInline, a_string_literal, a_number_literal, a_variable_reference, a_term_reference, a_message_reference, a_function_reference, a_placeable, SpellsMaybeArguments, no_call, a_call, SpellsArguments, no_more, positional, named, SpellsPlaceable, in_braces, SpellsExpression, an_inline, a_select, SpellsVariants, all_read, lone_mark, a_variant, the_default, SpellsVariant, keyed, SpellsPattern, on_the_line, on_the_next, SpellsPieces, nothing_left, crlf_piece, text_piece, placeable_piece, SpellsLine, only_spaces_left, pattern_over, line_of_text, line_of_placeable, line_of_crlf, SpellsBehindText, next_line, same_line}
use Rattle.fluent_grammar.specs.Reading.{number_at, selector_fault, is_term_attribute, name_of_argument, with_positional, with_named, Readers, step, readers, no_readers, variants_after, select_at, select_or_inline_at, closing_at, placeable_at, term_arguments_at, term_at, function_of, called_at, named_at, inline_at, positional_at, named_value_at, argument_at, arguments_at, after_text_at, placeable_piece_at, text_piece_at, pieces_at, line_at, first_pieces_at, pattern_at, variants_behind, variant_value_at, variant_at, variant_or_end_at, variants_at}
use Rattle.fluent_grammar.proofs.Got.{bind_got, mapped_got, got_node, which, same, begins_is, no_text, not_end}
use Rattle.fluent_grammar.proofs.Words.{name_sound, number_sound, accessor_sound, key_sound, literal_sound}
use Rattle.fluent_grammar.proofs.Strings.{string_sound, text_sound}

-- Readers that read only what is spelled.
pub record SoundReaders (inside : Readers) : Type 0 where
  pub inline : (s : Text) (e : t.Inline) (rest : Text) → inside.inline s ≡ got e rest → SpellsInline e s rest
  pub arguments : (names : List Text) (s : Text) (a : t.Arguments) (rest : Text) → inside.arguments names s ≡ got a rest → SpellsArguments names a s rest
  pub variants : (marked : Bool) (s : Text) (vs : t.Variants) (rest : Text) → inside.variants marked s ≡ got vs rest → SpellsVariants marked vs s rest
  pub line : (s : Text) (ps : List Piece) (rest : Text) → inside.line s ≡ got ps rest → SpellsLine ps s rest
  pub pieces : (s : Text) (ps : List Piece) (rest : Text) → inside.pieces s ≡ got ps rest → SpellsPieces ps s rest

-- ---- tests

stands_alone : (e : t.Inline) → is_term_attribute e ≡ false → may_stand_alone e ≡ true
stands_alone (t.string_literal s) h = refl
stands_alone (t.number_literal s) h = refl
stands_alone (t.function_reference s a) h = refl
stands_alone (t.message_reference s a) h = refl
stands_alone (t.term_reference s None c) h = refl
stands_alone (t.term_reference s (Some a) c) h = absurd cc
stands_alone (t.variable_reference s) h = refl
stands_alone (t.nested e) h = refl

selects : (e : t.Inline) → selector_fault e ≡ None → may_be_selector e ≡ true
selects (t.string_literal s) h = refl
selects (t.number_literal s) h = refl
selects (t.function_reference s a) h = refl
selects (t.message_reference s None) h = absurd cc
selects (t.message_reference s (Some a)) h = refl
selects (t.term_reference s None c) h = absurd cc
selects (t.term_reference s (Some a) c) h = refl
selects (t.variable_reference s) h = refl
selects (t.nested e) h = absurd cc

arrow_is : (s : Text) → begins_arrow s ≡ true → s ≡ hyphen ∷ greater ∷ drop 2 s
arrow_is [] h = absurd cc
arrow_is (c ∷ []) h = absurd (grind arith)
arrow_is (c ∷ d ∷ ds) h = let p : (c == hyphen) ≡ true = grind arith in let q : (d == greater) ≡ true = grind arith in rw (same c hyphen p, same d greater q) refl

-- ---- arguments that are names

none-accessor : {a : Option Text} {s rest : Text} → SpellsAccessor a s rest → a ≡ None → s ≡ rest
none-accessor (no_accessor h) e = refl
none-accessor (an_accessor d) e = absurd cc

-- a message reference without attribute is an identifier, with the blank after it
name-parts : {e : t.Inline} {s u : Text} (name : Text) → SpellsInline e s u → e ≡ t.message_reference name None → (w : Text) × SpellsName name s w × (skip_blank w ≡ u)
name-parts name (a_string_literal b d) e = absurd cc
name-parts name (a_number_literal d) e = absurd cc
name-parts name (a_variable_reference b d) e = absurd cc
name-parts name (a_term_reference b d a c) e = absurd cc
name-parts name (a_message_reference {name = id} {s} {u} {rest} {attribute} d o a) e =
    let same_name : id ≡ name = cc in
    let no_attribute : attribute ≡ None = cc in
    (u, rw (← same_name) d, none-accessor a no_attribute)
name-parts name (a_function_reference d c b a) e = absurd cc
name-parts name (a_placeable d) e = absurd cc

is-name : (e : t.Inline) (name : Text) → name_of_argument e ≡ Some name → e ≡ t.message_reference name None
is-name (t.string_literal s) name h = absurd cc
is-name (t.number_literal s) name h = absurd cc
is-name (t.function_reference s a) name h = absurd cc
is-name (t.message_reference s None) name h = let same_name : s ≡ name = cc in rw same_name refl
is-name (t.message_reference s (Some a)) name h = absurd cc
is-name (t.term_reference s a c) name h = absurd cc
is-name (t.variable_reference s) name h = absurd cc
is-name (t.nested e) name h = absurd cc

no-name : (e : t.Inline) (u : Text) → name_of_argument e ≡ None → IsPositional e u
no-name (t.string_literal s) u h = tt
no-name (t.number_literal s) u h = tt
no-name (t.function_reference s a) u h = tt
no-name (t.message_reference s None) u h = absurd cc
no-name (t.message_reference s (Some a)) u h = tt
no-name (t.term_reference s a c) u h = tt
no-name (t.variable_reference s) u h = tt
no-name (t.nested e) u h = tt

no-colon : (e : t.Inline) (name u : Text) → name_of_argument e ≡ Some name → begins_with colon u ≡ false → IsPositional e u
no-colon e name u h k = rw (is-name e name h) k

then-positional : (e : t.Inline) (a : t.Arguments) (s u rest : Text) → SpellsInline e s u → IsPositional e u → SpellsArguments [] a (skip_separator u) rest →
    SpellsArguments [] (with_positional e a) s rest
then-positional e (t.arguments ps ns) s u rest d p more = positional d p more

then-named : (names : List Text) (name : Text) (e : t.Inline) (a : t.Arguments) (s w v x rest : Text) → SpellsName name s w → skip_blank w ≡ colon ∷ v → is_among name names ≡ false →
    SpellsLiteral e (skip_blank v) x → SpellsArguments (name ∷ names) a (skip_separator x) rest → SpellsArguments names (with_named name e a) s rest
then-named names name e (t.arguments ps ns) s w v x rest d c fresh l more = named d c fresh l more

module _ (inside : Readers) (reads : SoundReaders inside) where
  -- ---- placeables

  closing_sound : (x : t.Expression) (s : Text) (e : t.Expression) (rest : Text) → closing_at inside x s ≡ got e rest → (x ≡ e) × (s ≡ close_brace ∷ rest)
  unfolding closing_at
  closing_sound x s e rest h =
      elim (which (begins_with close_brace s) _ _ _ h) [
        | inl p ↦ let g = got_node p.1 in (g.0, begins_is close_brace s p.0 ∙ ap (λ y. close_brace ∷ y) g.1)
        | inr p ↦ absurd cc
      ]

  variants_after_sound : (e : t.Inline) (s : Text) (next : Option Text) (x : t.Expression) (rest : Text) → variants_after inside e s next ≡ got x rest →
      (w : Text) × (vs : t.Variants) × (next ≡ Some w) × (t.select e vs ≡ x) × SpellsVariants false vs (skip_blank w) rest
  unfolding variants_after
  variants_after_sound e s None x rest h = absurd cc
  variants_after_sound e s (Some w) x rest h = let m = mapped_got _ _ _ _ h in (w, m.0, refl, m.2, reads.variants _ _ _ _ m.1)

  select_sound : (e : t.Inline) (fault : Option Kind) (s : Text) (x : t.Expression) (rest : Text) → select_at inside e fault s ≡ got x rest →
      (w : Text) × (vs : t.Variants) × (fault ≡ None) × (after_line_end (skip_spaces (drop 2 s)) ≡ Some w) × (t.select e vs ≡ x) × SpellsVariants false vs (skip_blank w) rest
  unfolding select_at
  select_sound e (Some kind) s x rest h = absurd cc
  select_sound e None s x rest h = let v = variants_after_sound e _ _ x rest h in (v.0, v.1, refl, v.2, v.3, v.4)

  select_or_inline_sound : (e : t.Inline) (s u : Text) (x : t.Expression) (rest : Text) → SpellsInline e s u → select_or_inline_at inside e (skip_blank u) ≡ got x rest →
      SpellsExpression x s rest
  unfolding select_or_inline_at
  select_or_inline_sound e s u x rest d h =
      elim (which (begins_arrow (skip_blank u)) _ _ _ h) [
        | inl p ↦ let v = select_sound e _ _ x rest p.1 in
            rw (← v.4) (a_select d (arrow_is (skip_blank u) p.0) (selects e v.2) v.3 v.5)
        | inr p ↦ elim (which (is_term_attribute e) _ _ _ p.1) [
          | inl q ↦ absurd cc
          | inr q ↦ let g = got_node q.1 in rw (← g.0, ← g.1) (an_inline d p.0 (stands_alone e q.0))
        ]
      ]

  pub placeable_sound : (s : Text) (e : t.Expression) (rest : Text) → begins_with open_brace s ≡ true → placeable_at inside s ≡ got e rest → SpellsPlaceable e s rest
  unfolding placeable_at
  placeable_sound s e rest b h =
      let i = bind_got _ _ _ _ h in
      let x = bind_got _ _ _ _ i.3 in
      let c = closing_sound _ _ _ _ x.3 in
      let d : SpellsExpression e (skip_blank (drop 1 s)) x.1 = rw c.0 at (select_or_inline_sound _ _ _ _ _ (reads.inline _ _ _ i.2) x.2) in
      in_braces (begins_is open_brace s b) d c.1

  -- ---- inline expressions

  term_arguments_sound : (id : Text) (attr : Option Text) (s : Text) (e : t.Inline) (rest : Text) → term_arguments_at inside id attr s ≡ got e rest →
      (c : t.MaybeArguments) × (e ≡ t.term_reference id attr c) × SpellsMaybeArguments c s rest
  unfolding term_arguments_at
  term_arguments_sound id attr s e rest h =
      elim (which (begins_with open_paren s) _ _ _ h) [
        | inl p ↦ let m = mapped_got _ _ _ _ p.1 in (t.with_arguments m.0, sym m.2, a_call (begins_is _ _ p.0) (reads.arguments _ _ _ _ m.1))
        | inr p ↦ let g = got_node p.1 in (t.no_arguments, sym g.0, rw (← g.1) (no_call p.0))
      ]

  term_sound : (s : Text) (e : t.Inline) (rest : Text) → begins_with hyphen s ≡ true → term_at inside (drop 1 s) ≡ got e rest → SpellsInline e s rest
  unfolding term_at
  term_sound s e rest b h =
      let id = bind_got _ _ _ _ h in
      let attr = bind_got _ _ _ _ id.3 in
      let args = term_arguments_sound _ _ _ _ _ attr.3 in
      rw args.1 (a_term_reference (begins_is hyphen s b) (name_sound _ _ _ id.2) (accessor_sound _ _ _ attr.2) args.2)

  function_sound : (id : Text) (a : t.Arguments) (s : Text) (e : t.Inline) (rest : Text) → function_of inside id a s ≡ got e rest →
      (list_all is_callee_byte id ≡ true) × (t.function_reference id a ≡ e) × (s ≡ rest)
  unfolding function_of
  function_sound id a s e rest h =
      elim (which (list_all is_callee_byte id) _ _ _ h) [
        | inl q ↦ let g = got_node q.1 in (q.0, g.0, g.1)
        | inr q ↦ absurd cc
      ]

  called_sound : (id s u : Text) (e : t.Inline) (rest : Text) → SpellsName id s u → called_at inside id (skip_blank u) ≡ got e rest → SpellsInline e s rest
  unfolding called_at
  called_sound id s u e rest name h =
      elim (which (begins_with open_paren (skip_blank u)) _ _ _ h) [
        | inl p ↦ let a = bind_got _ _ _ _ p.1 in
            let f = function_sound _ _ _ _ _ a.3 in
            let args : SpellsArguments [] a.0 (skip_blank (drop 1 (skip_blank u))) rest = rw f.2 at (reads.arguments _ _ _ _ a.2) in
            rw (← f.1) (a_function_reference name f.0 (begins_is open_paren (skip_blank u) p.0) args)
        | inr p ↦ let m = mapped_got _ _ _ _ p.1 in rw (← m.2) (a_message_reference name p.0 (accessor_sound _ _ _ m.1))
      ]

  named_sound : (s : Text) (e : t.Inline) (rest : Text) → named_at inside s ≡ got e rest → SpellsInline e s rest
  unfolding named_at
  named_sound s e rest h = let id = bind_got _ _ _ _ h in called_sound _ _ _ _ _ (name_sound _ _ _ id.2) id.3

  number-sound : (s : Text) (e : t.Inline) (rest : Text) → mapped t.number_literal (number_at s) ≡ got e rest → SpellsInline e s rest
  number-sound s e rest h = let m = mapped_got _ _ _ _ h in rw (← m.2) (a_number_literal (number_sound _ _ _ m.1))

  pub inline_sound : (s : Text) (e : t.Inline) (rest : Text) → inline_at inside s ≡ got e rest → SpellsInline e s rest
  unfolding inline_at
  inline_sound s e rest h =
      elim (which (begins_with quote s) _ _ _ h) [
        | inl p ↦ let m = mapped_got _ _ _ _ p.1 in rw (← m.2) (a_string_literal (begins_is quote s p.0) (string_sound _ _ _ m.1))
        | inr p ↦ elim (which (begins is_digit s) _ _ _ p.1) [
          | inl q ↦ number-sound s e rest q.1
          | inr q ↦ elim (which (begins_with hyphen s) _ _ _ q.1) [
            | inl m ↦ elim (which (begins is_letter (drop 1 s)) _ _ _ m.1) [
              | inl l ↦ term_sound s e rest m.0 l.1
              | inr l ↦ number-sound s e rest l.1
            ]
            | inr m ↦ elim (which (begins_with dollar s) _ _ _ m.1) [
              | inl v ↦ let n = mapped_got _ _ _ _ v.1 in rw (← n.2) (a_variable_reference (begins_is dollar s v.0) (name_sound _ _ _ n.1))
              | inr v ↦ elim (which (begins is_letter s) _ _ _ v.1) [
                | inl l ↦ named_sound s e rest l.1
                | inr l ↦ elim (which (begins_with open_brace s) _ _ _ l.1) [
                  | inl b ↦ let n = mapped_got _ _ _ _ b.1 in rw (← n.2) (a_placeable (placeable_sound _ _ _ b.0 n.1))
                  | inr b ↦ absurd cc
                ]
              ]
            ]
          ]
        ]
      ]

  -- ---- call arguments

  positional_sound : (names : List Text) (e : t.Inline) (s u : Text) (a : t.Arguments) (rest : Text) → SpellsInline e s u → IsPositional e u →
      positional_at inside names e u ≡ got a rest → SpellsArguments names a s rest
  unfolding positional_at
  positional_sound [] e s u a rest d p h = let m = mapped_got _ _ _ _ h in rw (← m.2) (then-positional e m.0 s u rest d p (reads.arguments _ _ _ _ m.1))
  positional_sound (name ∷ names) e s u a rest d p h = absurd cc

  named_value_sound : (names : List Text) (name s w u : Text) (a : t.Arguments) (rest : Text) → SpellsName name s w → skip_blank w ≡ u → begins_with colon u ≡ true →
      named_value_at inside names name u ≡ got a rest → SpellsArguments names a s rest
  unfolding named_value_at
  named_value_sound names name s w u a rest d k c h =
      elim (which (is_among name names) _ _ _ h) [
        | inl p ↦ absurd cc
        | inr p ↦ let v = bind_got _ _ _ _ p.1 in
            let m = mapped_got _ _ _ _ v.3 in
            rw (← m.2) (then-named names name v.0 m.0 s w (drop 1 u) v.1 rest d (k ∙ begins_is colon u c) p.0 (literal_sound _ _ _ v.2) (reads.arguments _ _ _ _ m.1))
      ]

  argument_sound : (names : List Text) (e : t.Inline) (name : Option Text) (s u : Text) (a : t.Arguments) (rest : Text) → name_of_argument e ≡ name → SpellsInline e s u →
      argument_at inside names e name u ≡ got a rest → SpellsArguments names a s rest
  unfolding argument_at
  argument_sound names e None s u a rest n d h = positional_sound names e s u a rest d (no-name e u n) h
  argument_sound names e (Some name) s u a rest n d h =
      elim (which (begins_with colon u) _ _ _ h) [
        | inl p ↦ let parts = name-parts name d (is-name e name n) in named_value_sound names name s parts.0 u a rest parts.1 parts.2 p.0 p.1
        | inr p ↦ positional_sound names e s u a rest d (no-colon e name u n p.0) p.1
      ]

  pub arguments_sound : (names : List Text) (s : Text) (a : t.Arguments) (rest : Text) → arguments_at inside names s ≡ got a rest → SpellsArguments names a s rest
  unfolding arguments_at
  arguments_sound names s a rest h =
      elim (which (length s == 0) _ _ _ h) [
        | inl z ↦ absurd cc
        | inr z ↦ elim (which (begins_with close_paren s) _ _ _ z.1) [
          | inl p ↦ let g = got_node p.1 in rw (← g.0) (no_more (begins_is close_paren s p.0 ∙ ap (λ y. close_paren ∷ y) g.1))
          | inr p ↦ let e = bind_got _ _ _ _ p.1 in argument_sound names e.0 _ s e.1 a rest refl (inline_sound _ _ _ e.2) e.3
        ]
      ]

  -- ---- patterns

  behind_text_sound : (ends : Bool) (s : Text) (ps : List Piece) (rest : Text) → after_text_at inside ends s ≡ got ps rest → SpellsBehindText ends ps s rest
  unfolding after_text_at
  behind_text_sound true s ps rest h = next_line (reads.line _ _ _ h)
  behind_text_sound false s ps rest h = same_line (reads.pieces _ _ _ h)

  text_piece_sound : (piece : Text → Piece) (s : Text) (ps : List Piece) (rest : Text) → text_piece_at inside piece s ≡ got ps rest →
      (x : Text) × (u : Text) × (qs : List Piece) × SpellsText x s u × SpellsBehindText (ends_line x) qs u rest × (piece x ∷ qs ≡ ps)
  unfolding text_piece_at
  text_piece_sound piece s ps rest h =
      let x = bind_got _ _ _ _ h in
      let m = mapped_got _ _ _ _ x.3 in
      (x.0, x.1, m.0, text_sound _ _ _ x.2, behind_text_sound _ _ _ _ m.1, m.2)

  placeable_piece_sound : (column_zero : Bool) (s : Text) (ps : List Piece) (rest : Text) → begins_with open_brace s ≡ true → placeable_piece_at inside column_zero s ≡ got ps rest →
      (e : t.Expression) × (u : Text) × (qs : List Piece) × SpellsPlaceable e s u × SpellsPieces qs u rest × (placed column_zero e ∷ qs ≡ ps)
  unfolding placeable_piece_at
  placeable_piece_sound column_zero s ps rest b h =
      let e = bind_got _ _ _ _ h in
      let m = mapped_got _ _ _ _ e.3 in
      (e.0, e.1, m.0, placeable_sound _ _ _ b e.2, reads.pieces _ _ _ m.1, m.2)

  pub pieces_sound : (s : Text) (ps : List Piece) (rest : Text) → pieces_at inside s ≡ got ps rest → SpellsPieces ps s rest
  unfolding pieces_at
  pieces_sound s ps rest h =
      elim (which (length s == 0) _ _ _ h) [
        | inl z ↦ let g = got_node z.1 in rw (← g.0, ← g.1, no_text s z.0) nothing_left
        | inr z ↦ elim (which (begins_with open_brace s) _ _ _ z.1) [
          | inl b ↦ let p = placeable_piece_sound false s ps rest b.0 b.1 in rw (← p.5) (placeable_piece p.3 p.4)
          | inr b ↦ elim (which (begins_crlf s) _ _ _ b.1) [
            | inl c ↦ let m = mapped_got _ _ _ _ c.1 in rw (← m.2) (crlf_piece c.0 (reads.line _ _ _ m.1))
            | inr c ↦ let x = text_piece_sound in_line s ps rest c.1 in
                rw (← x.5) (text_piece (record { not_end = not_end s z.0; no_brace = b.0; no_crlf = c.0 }) x.3 x.4)
          ]
        ]
      ]

  pub line_sound : (s : Text) (ps : List Piece) (rest : Text) → line_at inside s ≡ got ps rest → SpellsLine ps s rest
  unfolding line_at
  line_sound s ps rest h =
      elim (which (length (skip_spaces s) == 0) _ _ _ h) [
        | inl z ↦ let g = got_node z.1 in rw (← g.0, ← g.1) (only_spaces_left (no_text (skip_spaces s) z.0))
        | inr z ↦ elim (which (pattern_ends s) _ _ _ z.1) [
          | inl p ↦ let g = got_node p.1 in rw (← g.0, ← g.1) (pattern_over (not_end (skip_spaces s) z.0) p.0)
          | inr p ↦ elim (which (begins_with open_brace (skip_spaces s)) _ _ _ p.1) [
            | inl b ↦ let x = placeable_piece_sound (spaces s == 0) (skip_spaces s) ps rest b.0 b.1 in rw (← x.5) (line_of_placeable p.0 x.3 x.4)
            | inr b ↦ elim (which (begins_crlf (skip_spaces s)) _ _ _ b.1) [
              | inl c ↦ line_of_crlf p.0 c.0 (pieces_sound _ _ _ c.1)
              | inr c ↦ let x = text_piece_sound (at_line_start (spaces s)) (skip_spaces s) ps rest c.1 in
                  rw (← x.5) (line_of_text p.0 (record { not_end = not_end (skip_spaces s) z.0; no_brace = b.0; no_crlf = c.0 }) x.3 x.4)
            ]
          ]
        ]
      ]

  first_pieces_sound : (s : Text) (next : Option Text) (value : t.Elements) (rest : Text) → after_line_end (skip_spaces s) ≡ next →
      mapped elements_of (first_pieces_at inside (skip_spaces s) next) ≡ got value rest → SpellsPattern value s rest
  unfolding first_pieces_at
  first_pieces_sound s None value rest n h = let m = mapped_got _ _ _ _ h in on_the_line n (pieces_sound _ _ _ m.1) (sym m.2)
  first_pieces_sound s (Some u) value rest n h = let m = mapped_got _ _ _ _ h in on_the_next n (line_sound _ _ _ m.1) (sym m.2)

  pub pattern_sound : (s : Text) (value : t.Elements) (rest : Text) → pattern_at inside s ≡ got value rest → SpellsPattern value s rest
  unfolding pattern_at
  pattern_sound s value rest h = first_pieces_sound s _ value rest refl h

  -- ---- variants

  variants_behind_sound : (default : Bool) (key : t.VariantKey) (marked : Bool) (value : t.Elements) (s : Text) (vs : t.Variants) (rest : Text) →
      variants_behind inside default key marked value s ≡ got vs rest →
      (others : t.Variants) × (value ≢ t.no_elements) × (t.variant key value default others ≡ vs) × SpellsVariants marked others (skip_blank s) rest
  unfolding variants_behind
  variants_behind_sound default key marked t.no_elements s vs rest h = absurd cc
  variants_behind_sound default key marked (t.text x es) s vs rest h =
      let m = mapped_got _ _ _ _ h in (m.0, (λ k. cc), m.2, reads.variants _ _ _ _ m.1)
  variants_behind_sound default key marked (t.placeable x es) s vs rest h =
      let m = mapped_got _ _ _ _ h in (m.0, (λ k. cc), m.2, reads.variants _ _ _ _ m.1)

  variant_value_sound : (default : Bool) (key : t.VariantKey) (marked : Bool) (s : Text) (vs : t.Variants) (rest : Text) →
      variant_value_at inside default key marked s ≡ got vs rest →
      (value : t.Elements) × (u : Text) × (others : t.Variants) × (s ≡ close_bracket ∷ drop 1 s) × SpellsPattern value (drop 1 s) u × (value ≢ t.no_elements) ×
      (t.variant key value default others ≡ vs) × SpellsVariants marked others (skip_blank u) rest
  unfolding variant_value_at
  variant_value_sound default key marked s vs rest h =
      elim (which (begins_with close_bracket s) _ _ _ h) [
        | inl p ↦ let v = bind_got _ _ _ _ p.1 in
            let b = variants_behind_sound _ _ _ _ _ _ _ v.3 in
            (v.0, v.1, b.0, begins_is close_bracket s p.0, pattern_sound _ _ _ v.2, b.1, b.2, b.3)
        | inr p ↦ absurd cc
      ]

  variant_sound : (default marked : Bool) (s : Text) (vs : t.Variants) (rest : Text) → begins_with open_bracket s ≡ true → variant_at inside default marked s ≡ got vs rest →
      (key : t.VariantKey) × (value : t.Elements) × (u : Text) × (others : t.Variants) × SpellsVariant key value s u × (t.variant key value default others ≡ vs) ×
      SpellsVariants marked others (skip_blank u) rest
  unfolding variant_at
  variant_sound default marked s vs rest b h =
      let k = bind_got _ _ _ _ h in
      let v = variant_value_sound _ _ _ _ _ _ k.3 in
      (k.0, v.0, v.1, v.2, keyed (begins_is open_bracket s b) (key_sound _ _ _ k.2) v.3 v.4 v.5, v.6, v.7)

  unmarked_sound : (marked : Bool) (s : Text) (vs : t.Variants) (rest : Text) → begins_with asterisk s ≡ false → variant_or_end_at inside false marked s ≡ got vs rest →
      SpellsVariants marked vs s rest
  unfolding variant_or_end_at
  unmarked_sound marked s vs rest no_mark h =
      elim (which (begins_with open_bracket s) _ _ _ h) [
        | inl b ↦ let v = variant_sound false marked s vs rest b.0 b.1 in rw (← v.5) (a_variant v.4 v.6)
        | inr b ↦ end-sound marked no_mark b.0 b.1
      ]
    where
      end-sound : (marked : Bool) → begins_with asterisk s ≡ false → begins_with open_bracket s ≡ false →
          cond marked (got t.no_variants s) (refuse r.missing_default_variant s) ≡ got vs rest → SpellsVariants marked vs s rest
      end-sound true a b e = let g = got_node e in rw (← g.0, ← g.1) (all_read a b)
      end-sound false a b e = absurd cc

  marked_sound : (s u : Text) (vs : t.Variants) (rest : Text) → s ≡ asterisk ∷ u → variant_or_end_at inside true true u ≡ got vs rest → SpellsVariants false vs s rest
  unfolding variant_or_end_at
  marked_sound s u vs rest mark h =
      elim (which (begins_with open_bracket u) _ _ _ h) [
        | inl b ↦ let v = variant_sound true true u vs rest b.0 b.1 in rw (← v.5) (the_default mark v.4 v.6)
        | inr b ↦ let g = got_node b.1 in rw (← g.0, ← g.1) (lone_mark mark b.0)
      ]

  pub variants_sound : (marked : Bool) (s : Text) (vs : t.Variants) (rest : Text) → variants_at inside marked s ≡ got vs rest → SpellsVariants marked vs s rest
  unfolding variants_at
  variants_sound true s vs rest h =
      elim (which (begins_with asterisk s) _ _ _ h) [
        | inl p ↦ absurd cc
        | inr p ↦ unmarked_sound true s vs rest p.0 p.1
      ]
  variants_sound false s vs rest h =
      elim (which (begins_with asterisk s) _ _ _ h) [
        | inl p ↦ marked_sound s (drop 1 s) vs rest (begins_is asterisk s p.0) p.1
        | inr p ↦ unmarked_sound false s vs rest p.0 p.1
      ]

  pub step_sound : SoundReaders (step inside)
  step_sound = record { inline = inline_sound; arguments = arguments_sound; variants = variants_sound; line = line_sound; pieces = pieces_sound }

-- ---- every level

none_sound : SoundReaders no_readers
none_sound = record {
  inline = λ s e rest h. absurd cc;
  arguments = λ names s a rest h. absurd cc;
  variants = λ marked s vs rest h. absurd cc;
  line = λ s ps rest h. absurd cc;
  pieces = λ s ps rest h. absurd cc;
}

pub readers_sound : (n : ℕ) → SoundReaders (readers n)
readers_sound zero = none_sound
readers_sound (suc n) = step_sound (readers n) (readers_sound n)
