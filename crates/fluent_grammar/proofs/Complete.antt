-- What is spelled is read, by every level above the length of the text.
use Rattle.std.proofs.Common.{◌≡◌, ℕ, zero, suc, ◌<◌, ◌≤◌, Bool, true, false, List, [], ◌∷◌, length, drop, Option, Some, None, refl, ap, ◌∙◌, arith}
use Rattle.std.specs.Prelude.{◌==◌, ◌≢◌}
use Rattle.std.specs.List.{list_all}
use Rattle.std.proofs.lemmas.Bool.Decides.{nat_tests}
use Rattle.fluent_grammar.specs.Words.{Text, quote, dollar, hyphen, greater, colon, asterisk, open_paren, close_paren, open_bracket, close_bracket, open_brace, close_brace, line_feed, skip_blank, skip_spaces, spaces, skip_blank_block, skip_separator, begins, begins_with, begins_arrow, begins_crlf, after_line_end, is_letter, is_digit, is_callee_byte, is_among}
use Rattle.fluent_grammar.specs.Refusal.{got, mapped}
use Rattle.fluent_grammar.specs.Tree as t
use Rattle.fluent_grammar.specs.Lines.{Piece, at_line_start, in_line, placed, elements_of, ends_line, pattern_ends}
use Rattle.fluent_grammar.specs.Lexical.{SpellsName, SpellsNumber, unsigned, negative, SpellsAccessor, SpellsKey, SpellsLiteral, SpellsText}
use Rattle.fluent_grammar.specs.Spelling.{may_stand_alone, may_be_selector, IsPositional, BeginsText, SpellsInline, a_string_literal, a_number_literal, a_variable_reference, a_term_reference, a_message_reference, a_function_reference, a_placeable, SpellsMaybeArguments, no_call, a_call, SpellsArguments, no_more, positional, named, SpellsPlaceable, in_braces, SpellsExpression, an_inline, a_select, SpellsVariants, all_read, lone_mark, a_variant, the_default, SpellsVariant, keyed, SpellsPattern, on_the_line, on_the_next, SpellsPieces, nothing_left, crlf_piece, text_piece, placeable_piece, SpellsLine, only_spaces_left, pattern_over, line_of_text, line_of_placeable, line_of_crlf, SpellsBehindText, next_line, same_line}
use Rattle.fluent_grammar.specs.Reading.{identifier_at, accessor_at, number_at, string_content, selector_fault, is_term_attribute, name_of_argument, with_positional, with_named, Readers, readers, variants_after, select_at, select_or_inline_at, closing_at, placeable_at, term_arguments_at, term_at, function_of, called_at, named_at, inline_at, positional_at, named_value_at, argument_at, arguments_at, after_text_at, placeable_piece_at, text_piece_at, pieces_at, line_at, first_pieces_at, pattern_at, variants_behind, variant_value_at, variant_at, variant_or_end_at, variants_at}
use Rattle.fluent_grammar.proofs.Got.{begins_is}
use Rattle.fluent_grammar.proofs.Words.{name_complete, number_complete, accessor_complete, key_complete, literal_complete, unsigned-digit}
use Rattle.fluent_grammar.proofs.Strings.{string_complete, text_complete}
use Rattle.fluent_grammar.proofs.Lengths.{skip_blank-le, skip_spaces-le, skip_blank_block-le, skip_separator-le, crlf-two, line_end-lt, name-shorter, accessor-no_longer, key-shorter, literal-shorter, text-shorter, inline-shorter, placeable-shorter, variant-shorter}

-- ---- tests

not_attribute : (e : t.Inline) → may_stand_alone e ≡ true → is_term_attribute e ≡ false
not_attribute (t.string_literal s) h = refl
not_attribute (t.number_literal s) h = refl
not_attribute (t.function_reference s a) h = refl
not_attribute (t.message_reference s a) h = refl
not_attribute (t.term_reference s None c) h = refl
not_attribute (t.term_reference s (Some a) c) h = absurd cc
not_attribute (t.variable_reference s) h = refl
not_attribute (t.nested e) h = refl

no_fault : (e : t.Inline) → may_be_selector e ≡ true → selector_fault e ≡ None
no_fault (t.string_literal s) h = refl
no_fault (t.number_literal s) h = refl
no_fault (t.function_reference s a) h = refl
no_fault (t.message_reference s None) h = absurd cc
no_fault (t.message_reference s (Some a)) h = refl
no_fault (t.term_reference s None c) h = absurd cc
no_fault (t.term_reference s (Some a) c) h = refl
no_fault (t.variable_reference s) h = refl
no_fault (t.nested e) h = absurd cc

pub some_text : (s : Text) → s ≢ [] → (length s == 0) ≡ false
some_text [] h = absurd (h refl)
some_text (c ∷ cs) h = grind arith

begun : (p : ℕ → Bool) (s : Text) → begins p s ≡ true → (length s == 0) ≡ false
begun p [] h = absurd cc
begun p (c ∷ cs) h = grind arith

-- ---- what a letter, a digit or a CR is not

letter-no : (s : Text) → begins is_letter s ≡ true → (begins_with quote s ≡ false) × (begins is_digit s ≡ false) × (begins_with hyphen s ≡ false) × (begins_with dollar s ≡ false) × (begins_with close_paren s ≡ false)
letter-no [] h = absurd cc
letter-no (c ∷ cs) h = (grind (arith, nat_tests), grind (arith, nat_tests), grind (arith, nat_tests), grind (arith, nat_tests), grind (arith, nat_tests))

pub digit-no_letter : (s : Text) → begins is_digit s ≡ true → begins is_letter s ≡ false
digit-no_letter [] h = refl
digit-no_letter (c ∷ cs) h = grind (arith, nat_tests)

digit-no_quote : (s : Text) → begins is_digit s ≡ true → begins_with quote s ≡ false
digit-no_quote [] h = refl
digit-no_quote (c ∷ cs) h = grind (arith, nat_tests)

crlf-no_brace : (s : Text) → begins_crlf s ≡ true → begins_with open_brace s ≡ false
crlf-no_brace [] h = refl
crlf-no_brace (c ∷ cs) h = grind arith

crlf-begun : (s : Text) → begins_crlf s ≡ true → (length s == 0) ≡ false
crlf-begun [] h = absurd cc
crlf-begun (c ∷ cs) h = grind arith

-- ---- each construct, computed

module _ (inside : Readers) where
  string-read : (u raw rest : Text) → string_content u ≡ got raw rest → inline_at inside (quote ∷ u) ≡ got (t.string_literal raw) rest
  unfolding inline_at
  string-read u raw rest h = rw h refl

  number-read : {v s rest : Text} → SpellsNumber v s rest → inline_at inside s ≡ got (t.number_literal v) rest
  unfolding inline_at
  number-read (unsigned {number} {s} {rest} d) =
      let n : number_at s ≡ got number rest = number_complete (unsigned d) in
      rw (digit-no_quote s (unsigned-digit d), unsigned-digit d, n) refl
  number-read (negative {number} {s} {rest} d) =
      let n : number_at (hyphen ∷ s) ≡ got (hyphen ∷ number) rest = number_complete (negative d) in
      rw (digit-no_letter s (unsigned-digit d), n) refl

  variable-read : (u name rest : Text) → identifier_at u ≡ got name rest → inline_at inside (dollar ∷ u) ≡ got (t.variable_reference name) rest
  unfolding inline_at
  variable-read u name rest h = rw h refl

  nested-read : (u : Text) (e : t.Expression) (rest : Text) → placeable_at inside (open_brace ∷ u) ≡ got e rest → inline_at inside (open_brace ∷ u) ≡ got (t.nested e) rest
  unfolding inline_at
  nested-read u e rest h = rw h refl

  term-read : (u name v : Text) (attr : Option Text) (w : Text) (c : t.MaybeArguments) (rest : Text) → SpellsName name u v → SpellsAccessor attr v w →
      term_arguments_at inside name attr (skip_blank w) ≡ got (t.term_reference name attr c) rest → inline_at inside (hyphen ∷ u) ≡ got (t.term_reference name attr c) rest
  unfolding inline_at term_at
  term-read u name v attr w c rest n a h = rw (n.letter_first, name_complete n, accessor_complete a, h) refl

  letter-read : (s name u : Text) → SpellsName name s u → inline_at inside s ≡ called_at inside name (skip_blank u)
  unfolding inline_at named_at
  letter-read s name u n =
      let no = letter-no s n.letter_first in
      rw (no.0, no.1, no.2, no.3, n.letter_first, name_complete n) refl

  message-read : (name u : Text) (attr : Option Text) (rest : Text) → begins_with open_paren (skip_blank u) ≡ false → SpellsAccessor attr (skip_blank u) rest →
      called_at inside name (skip_blank u) ≡ got (t.message_reference name attr) rest
  unfolding called_at
  message-read name u attr rest o a = rw (o, accessor_complete a) refl

  function-read : (name u v : Text) (a : t.Arguments) (rest : Text) → list_all is_callee_byte name ≡ true → skip_blank u ≡ open_paren ∷ v →
      inside.arguments [] (skip_blank v) ≡ got a rest → called_at inside name (skip_blank u) ≡ got (t.function_reference name a) rest
  unfolding called_at function_of
  function-read name u v a rest c p h = rw p (rw (h, c) refl)

  no_call-read : (id : Text) (attr : Option Text) (s : Text) → begins_with open_paren s ≡ false → term_arguments_at inside id attr s ≡ got (t.term_reference id attr t.no_arguments) s
  unfolding term_arguments_at
  no_call-read id attr s h = rw h refl

  call-read : (id : Text) (attr : Option Text) (u : Text) (a : t.Arguments) (rest : Text) → inside.arguments [] (skip_blank u) ≡ got a rest →
      term_arguments_at inside id attr (open_paren ∷ u) ≡ got (t.term_reference id attr (t.with_arguments a)) rest
  unfolding term_arguments_at
  call-read id attr u a rest h = rw h refl

  no_more-read : (names : List Text) (rest : Text) → arguments_at inside names (close_paren ∷ rest) ≡ got (t.arguments t.no_inlines t.no_nameds) rest
  unfolding arguments_at
  no_more-read names rest = let e : (length (close_paren ∷ rest) == 0) ≡ false = grind arith in rw e refl

  -- no inline expression begins with a closing parenthesis
  paren-refused : (cs : Text) (e : t.Inline) (u : Text) → inline_at inside (close_paren ∷ cs) ≡ got e u → ⊥
  unfolding inline_at
  paren-refused cs e u h = cc

  no_paren : (b : Bool) (s : Text) (e : t.Inline) (u : Text) → begins_with close_paren s ≡ b → inline_at inside s ≡ got e u → b ≡ false
  no_paren true s e u p h = absurd (paren-refused (drop 1 s) e u (rw (begins_is close_paren s p) at h))
  no_paren false s e u p h = refl

  nothing-refused : (e : t.Inline) (u : Text) → inline_at inside [] ≡ got e u → ⊥
  unfolding inline_at
  nothing-refused e u h = cc

  inline-begun : (s : Text) (e : t.Inline) (u : Text) → inline_at inside s ≡ got e u → (length s == 0) ≡ false
  inline-begun [] e u h = absurd (nothing-refused e u h)
  inline-begun (c ∷ cs) e u h = grind arith

  -- an argument, after its expression
  argument-read : (names : List Text) (s : Text) (e : t.Inline) (u : Text) → inline_at inside s ≡ got e u → arguments_at inside names s ≡ argument_at inside names e (name_of_argument e) u
  unfolding arguments_at
  argument-read names s e u h = rw (inline-begun s e u h, no_paren _ s e u refl h, h) refl

  positional-chosen : (e : t.Inline) (u : Text) → IsPositional e u → argument_at inside [] e (name_of_argument e) u ≡ positional_at inside [] e u
  unfolding argument_at
  positional-chosen (t.string_literal s) u h = refl
  positional-chosen (t.number_literal s) u h = refl
  positional-chosen (t.function_reference s a) u h = refl
  positional-chosen (t.message_reference s None) u h = rw h refl
  positional-chosen (t.message_reference s (Some a)) u h = refl
  positional-chosen (t.term_reference s a c) u h = refl
  positional-chosen (t.variable_reference s) u h = refl
  positional-chosen (t.nested e) u h = refl

  positional-read : (e : t.Inline) (u : Text) (a : t.Arguments) (rest : Text) → inside.arguments [] (skip_separator u) ≡ got a rest →
      positional_at inside [] e u ≡ got (with_positional e a) rest
  unfolding positional_at
  positional-read e u a rest h = rw h refl

  name-read : (s name u v : Text) → SpellsName name s u → skip_blank u ≡ colon ∷ v → inline_at inside s ≡ got (t.message_reference name None) (colon ∷ v)
  unfolding called_at accessor_at
  name-read s name u v n c = letter-read s name u n ∙ rw c refl

  named-chosen : (names : List Text) (name v : Text) → argument_at inside names (t.message_reference name None) (Some name) (colon ∷ v) ≡ named_value_at inside names name (colon ∷ v)
  unfolding argument_at
  named-chosen names name v = refl

  named-read : (names : List Text) (name v : Text) (e : t.Inline) (w : Text) (a : t.Arguments) (rest : Text) → is_among name names ≡ false → SpellsLiteral e (skip_blank v) w →
      inside.arguments (name ∷ names) (skip_separator w) ≡ got a rest → named_value_at inside names name (colon ∷ v) ≡ got (with_named name e a) rest
  unfolding named_value_at
  named-read names name v e w a rest f l h = rw (f, literal_complete l, h) refl

  -- ---- placeables

  placeable-read : (u : Text) (i : t.Inline) (w : Text) (e : t.Expression) (v rest : Text) → inside.inline (skip_blank u) ≡ got i w →
      select_or_inline_at inside i (skip_blank w) ≡ got e v → skip_blank v ≡ close_brace ∷ rest → placeable_at inside (open_brace ∷ u) ≡ got e rest
  unfolding placeable_at closing_at
  placeable-read u i w e v rest h k c = rw (h, k, c) refl

  alone-read : (e : t.Inline) (s : Text) → begins_arrow s ≡ false → may_stand_alone e ≡ true → select_or_inline_at inside e s ≡ got (t.inline e) s
  unfolding select_or_inline_at
  alone-read e s a m = rw (a, not_attribute e m) refl

  select-read : (e : t.Inline) (v w : Text) (vs : t.Variants) (rest : Text) → may_be_selector e ≡ true → after_line_end (skip_spaces v) ≡ Some w →
      inside.variants false (skip_blank w) ≡ got vs rest → select_or_inline_at inside e (hyphen ∷ greater ∷ v) ≡ got (t.select e vs) rest
  unfolding select_or_inline_at select_at variants_after
  select-read e v w vs rest m n h = rw (no_fault e m, n, h) refl

  -- ---- variants

  all-read : (s : Text) → begins_with asterisk s ≡ false → begins_with open_bracket s ≡ false → variants_at inside true s ≡ got t.no_variants s
  unfolding variants_at variant_or_end_at
  all-read s a b = rw (a, b) refl

  lone_mark-read : (u : Text) → begins_with open_bracket u ≡ false → variants_at inside false (asterisk ∷ u) ≡ got t.no_variants u
  unfolding variants_at variant_or_end_at
  lone_mark-read u b = rw b refl

  variant-read : (marked : Bool) (u : Text) → variants_at inside marked (open_bracket ∷ u) ≡ variant_at inside false marked (open_bracket ∷ u)
  unfolding variants_at variant_or_end_at
  variant-read marked u = refl

  default-read : (u : Text) → variants_at inside false (asterisk ∷ open_bracket ∷ u) ≡ variant_at inside true true (open_bracket ∷ u)
  unfolding variants_at variant_or_end_at
  default-read u = refl

  value-chosen : (default : Bool) (key : t.VariantKey) (marked : Bool) (value : t.Elements) (s : Text) → value ≢ t.no_elements →
      variants_behind inside default key marked value s ≡ mapped (t.variant key value default) (inside.variants marked (skip_blank s))
  unfolding variants_behind
  value-chosen default key marked t.no_elements s h = absurd (h refl)
  value-chosen default key marked (t.text x es) s h = refl
  value-chosen default key marked (t.placeable x es) s h = refl

  keyed-read : (u : Text) (key : t.VariantKey) (v w : Text) (value : t.Elements) (x : Text) (default marked : Bool) → SpellsKey key (skip_blank u) v → skip_blank v ≡ close_bracket ∷ w →
      pattern_at inside w ≡ got value x → value ≢ t.no_elements →
      variant_at inside default marked (open_bracket ∷ u) ≡ mapped (t.variant key value default) (inside.variants marked (skip_blank x))
  unfolding variant_at variant_value_at
  keyed-read u key v w value x default marked k c p h = rw (key_complete k, c, p) (value-chosen default key marked value x h)

  -- ---- patterns

  on_line-read : (s : Text) (ps : List Piece) (rest : Text) → after_line_end (skip_spaces s) ≡ None → pieces_at inside (skip_spaces s) ≡ got ps rest →
      pattern_at inside s ≡ got (elements_of ps) rest
  unfolding pattern_at first_pieces_at
  on_line-read s ps rest n h = rw (n, h) refl

  on_next-read : (s u : Text) (ps : List Piece) (rest : Text) → after_line_end (skip_spaces s) ≡ Some u → line_at inside (skip_blank_block u) ≡ got ps rest →
      pattern_at inside s ≡ got (elements_of ps) rest
  unfolding pattern_at first_pieces_at
  on_next-read s u ps rest n h = rw (n, h) refl

  nothing-read : pieces_at inside [] ≡ got [] []
  unfolding pieces_at
  nothing-read = refl

  crlf-read : (s : Text) (ps : List Piece) (rest : Text) → begins_crlf s ≡ true → inside.line (drop 2 s) ≡ got ps rest →
      pieces_at inside s ≡ got (in_line (line_feed ∷ []) ∷ ps) rest
  unfolding pieces_at
  crlf-read s ps rest c h = rw (crlf-begun s c, crlf-no_brace s c, c, h) refl

  text-read : (make : Text → Piece) (s piece u : Text) (ps : List Piece) (rest : Text) → SpellsText piece s u → after_text_at inside (ends_line piece) u ≡ got ps rest →
      text_piece_at inside make s ≡ got (make piece ∷ ps) rest
  unfolding text_piece_at
  text-read make s piece u ps rest x h = rw (text_complete x, h) refl

  pieces-of_text : (s : Text) (ps : List Piece) (rest : Text) → BeginsText s → text_piece_at inside in_line s ≡ got ps rest → pieces_at inside s ≡ got ps rest
  unfolding pieces_at
  pieces-of_text s ps rest b h = rw (some_text s b.not_end, b.no_brace, b.no_crlf) h

  placed-read : (column_zero : Bool) (s : Text) (e : t.Expression) (u : Text) (ps : List Piece) (rest : Text) → placeable_at inside s ≡ got e u → inside.pieces u ≡ got ps rest →
      placeable_piece_at inside column_zero s ≡ got (placed column_zero e ∷ ps) rest
  unfolding placeable_piece_at
  placed-read column_zero s e u ps rest h k = rw (h, k) refl

  pieces-of_placeable : (s : Text) (ps : List Piece) (rest : Text) → begins_with open_brace s ≡ true → placeable_piece_at inside false s ≡ got ps rest → pieces_at inside s ≡ got ps rest
  unfolding pieces_at
  pieces-of_placeable s ps rest b h = rw (begun (λ d. d == open_brace) s b, b) h

  spaces_left-read : (s : Text) → skip_spaces s ≡ [] → line_at inside s ≡ got [] []
  unfolding line_at
  spaces_left-read s h = rw h refl

  over-read : (s : Text) → skip_spaces s ≢ [] → pattern_ends s ≡ true → line_at inside s ≡ got [] s
  unfolding line_at
  over-read s h k = rw (some_text (skip_spaces s) h, k) refl

  line-of_text : (s : Text) (ps : List Piece) (rest : Text) → pattern_ends s ≡ false → BeginsText (skip_spaces s) →
      text_piece_at inside (at_line_start (spaces s)) (skip_spaces s) ≡ got ps rest → line_at inside s ≡ got ps rest
  unfolding line_at
  line-of_text s ps rest k b h = rw (some_text (skip_spaces s) b.not_end, k, b.no_brace, b.no_crlf) h

  line-of_placeable : (s : Text) (ps : List Piece) (rest : Text) → pattern_ends s ≡ false → begins_with open_brace (skip_spaces s) ≡ true →
      placeable_piece_at inside (spaces s == 0) (skip_spaces s) ≡ got ps rest → line_at inside s ≡ got ps rest
  unfolding line_at
  line-of_placeable s ps rest k b h = rw (begun (λ d. d == open_brace) (skip_spaces s) b, k, b) h

  line-of_crlf : (s : Text) (ps : List Piece) (rest : Text) → pattern_ends s ≡ false → begins_crlf (skip_spaces s) ≡ true → pieces_at inside (skip_spaces s) ≡ got ps rest →
      line_at inside s ≡ got ps rest
  unfolding line_at
  line-of_crlf s ps rest k c h = rw (crlf-begun (skip_spaces s) c, k, crlf-no_brace (skip_spaces s) c, c) h

-- ---- every construct is read by every level that is high enough

abbrev pub InlineRead : t.Inline → Text → Text → Type 0
InlineRead e s rest = (m : ℕ) → length s ≤ m → inline_at (readers m) s ≡ got e rest

abbrev pub MaybeRead : t.MaybeArguments → Text → Text → Type 0
MaybeRead c s rest = (id : Text) (attr : Option Text) (m : ℕ) → length s ≤ m → term_arguments_at (readers m) id attr s ≡ got (t.term_reference id attr c) rest

abbrev pub ArgumentsRead : List Text → t.Arguments → Text → Text → Type 0
ArgumentsRead names a s rest = (m : ℕ) → length s ≤ m → arguments_at (readers m) names s ≡ got a rest

abbrev pub PlaceableRead : t.Expression → Text → Text → Type 0
PlaceableRead e s rest = (m : ℕ) → length s ≤ m → placeable_at (readers m) s ≡ got e rest

-- an inline expression is read by the readers inside, and a select or nothing after it
abbrev pub ExpressionRead : t.Expression → Text → Text → Type 0
ExpressionRead e s rest = (m : ℕ) → length s < m →
    (i : t.Inline) × (u : Text) × ((readers m).inline s ≡ got i u) × (select_or_inline_at (readers m) i (skip_blank u) ≡ got e rest)

abbrev pub VariantsRead : Bool → t.Variants → Text → Text → Type 0
VariantsRead marked vs s rest = (m : ℕ) → length s ≤ m → variants_at (readers m) marked s ≡ got vs rest

abbrev pub VariantRead : t.VariantKey → t.Elements → Text → Text → Type 0
VariantRead key value s rest = (m : ℕ) → length s ≤ m → (x : Text) × (s ≡ open_bracket ∷ x) × ((default marked : Bool) →
    variant_at (readers m) default marked (open_bracket ∷ x) ≡ mapped (t.variant key value default) ((readers m).variants marked (skip_blank rest)))

abbrev pub PatternRead : t.Elements → Text → Text → Type 0
PatternRead value s rest = (m : ℕ) → length s ≤ m → pattern_at (readers m) s ≡ got value rest

abbrev pub PiecesRead : List Piece → Text → Text → Type 0
PiecesRead ps s rest = (m : ℕ) → length s ≤ m → pieces_at (readers m) s ≡ got ps rest

abbrev pub LineRead : List Piece → Text → Text → Type 0
LineRead ps s rest = (m : ℕ) → length s ≤ m → line_at (readers m) s ≡ got ps rest

abbrev pub BehindTextRead : Bool → List Piece → Text → Text → Type 0
BehindTextRead ends ps s rest = (m : ℕ) → length s < m → after_text_at (readers m) ends s ≡ got ps rest

pub up-inline : (e : t.Inline) (s rest : Text) → InlineRead e s rest → (m : ℕ) → length s < m → (readers m).inline s ≡ got e rest
up-inline e s rest f zero lt = absurd (omega arith)
up-inline e s rest f (suc m) lt = f m (omega arith)

pub up-arguments : (names : List Text) (a : t.Arguments) (s rest : Text) → ArgumentsRead names a s rest → (m : ℕ) → length s < m → (readers m).arguments names s ≡ got a rest
up-arguments names a s rest f zero lt = absurd (omega arith)
up-arguments names a s rest f (suc m) lt = f m (omega arith)

pub up-variants : (marked : Bool) (vs : t.Variants) (s rest : Text) → VariantsRead marked vs s rest → (m : ℕ) → length s < m → (readers m).variants marked s ≡ got vs rest
up-variants marked vs s rest f zero lt = absurd (omega arith)
up-variants marked vs s rest f (suc m) lt = f m (omega arith)

pub up-line : (ps : List Piece) (s rest : Text) → LineRead ps s rest → (m : ℕ) → length s < m → (readers m).line s ≡ got ps rest
up-line ps s rest f zero lt = absurd (omega arith)
up-line ps s rest f (suc m) lt = f m (omega arith)

pub up-pieces : (ps : List Piece) (s rest : Text) → PiecesRead ps s rest → (m : ℕ) → length s < m → (readers m).pieces s ≡ got ps rest
up-pieces ps s rest f zero lt = absurd (omega arith)
up-pieces ps s rest f (suc m) lt = f m (omega arith)

after_line-read : (inside : Readers) (s : Text) (ps : List Piece) (rest : Text) → inside.line s ≡ got ps rest → after_text_at inside true s ≡ got ps rest
unfolding after_text_at
after_line-read inside s ps rest h = h

after_pieces-read : (inside : Readers) (s : Text) (ps : List Piece) (rest : Text) → inside.pieces s ≡ got ps rest → after_text_at inside false s ≡ got ps rest
unfolding after_text_at
after_pieces-read inside s ps rest h = h

placeable-begins : {e : t.Expression} {s rest : Text} → SpellsPlaceable e s rest → begins_with open_brace s ≡ true
placeable-begins (in_braces b d c) = rw b refl

mutual
  pub inline_complete : {e : t.Inline} {s rest : Text} → SpellsInline e s rest → InlineRead e s rest
  inline_complete (a_string_literal {raw} {s} {u} {rest} b d) m le = rw b (string-read (readers m) u raw rest (string_complete d))
  inline_complete (a_number_literal d) m le = number-read (readers m) d
  inline_complete (a_variable_reference {name} {s} {u} {rest} b d) m le = rw b (variable-read (readers m) u name rest (name_complete d))
  inline_complete (a_term_reference {name} {s} {u} {v} {w} {rest} {attribute} {arguments = args} b n a c) m le =
      let k : length (skip_blank w) ≤ m = omega (arith, ap length b, name-shorter n, accessor-no_longer a, skip_blank-le w) in
      rw b (term-read (readers m) u name v attribute w args rest n a (maybe_complete c name attribute m k))
  inline_complete (a_message_reference {name} {s} {u} {rest} {attribute} n o a) m le = letter-read (readers m) s name u n ∙ message-read (readers m) name u attribute rest o a
  inline_complete (a_function_reference {name} {s} {u} {v} {rest} {arguments = args} n c p a) m le =
      let k : length (skip_blank v) < m = omega (arith, name-shorter n, skip_blank-le u, ap length p, skip_blank-le v) in
      letter-read (readers m) s name u n ∙ function-read (readers m) name u v args rest c p (up-arguments [] args (skip_blank v) rest (arguments_complete a) m k)
  inline_complete (a_placeable {s} {rest} {e} d) m le =
      let b : s ≡ open_brace ∷ drop 1 s = begins_is open_brace s (placeable-begins d) in
      let h : placeable_at (readers m) s ≡ got e rest = placeable_complete d m le in
      rw b (nested-read (readers m) (drop 1 s) e rest (rw b at h))

  pub maybe_complete : {c : t.MaybeArguments} {s rest : Text} → SpellsMaybeArguments c s rest → MaybeRead c s rest
  maybe_complete (no_call {s} h) id attr m le = no_call-read (readers m) id attr s h
  maybe_complete (a_call {s} {u} {rest} {arguments = args} p a) id attr m le =
      let k : length (skip_blank u) < m = omega (arith, ap length p, skip_blank-le u) in
      rw p (call-read (readers m) id attr u args rest (up-arguments [] args (skip_blank u) rest (arguments_complete a) m k))

  pub arguments_complete : {names : List Text} {a : t.Arguments} {s rest : Text} → SpellsArguments names a s rest → ArgumentsRead names a s rest
  arguments_complete (no_more {names} {s} {rest} p) m le = rw p (no_more-read (readers m) names rest)
  arguments_complete (positional {s} {u} {rest} {e} {ps} {ns} d p more) m le =
      let k : length (skip_separator u) < m = omega (arith, inline-shorter d, skip_separator-le u) in
      argument-read (readers m) [] s e u (inline_complete d m le) ∙ positional-chosen (readers m) e u p
      ∙ positional-read (readers m) e u (t.arguments ps ns) rest (up-arguments [] (t.arguments ps ns) (skip_separator u) rest (arguments_complete more) m k)
  arguments_complete (named {names} {name} {s} {u} {v} {w} {rest} {e} {ps} {ns} n c f l more) m le =
      let k : length (skip_separator w) < m = omega (arith, name-shorter n, skip_blank-le u, ap length c, skip_blank-le v, literal-shorter l, skip_separator-le w) in
      argument-read (readers m) names s (t.message_reference name None) (colon ∷ v) (name-read (readers m) s name u v n c) ∙ named-chosen (readers m) names name v
      ∙ named-read (readers m) names name v e w (t.arguments ps ns) rest f l (up-arguments (name ∷ names) (t.arguments ps ns) (skip_separator w) rest (arguments_complete more) m k)

  pub placeable_complete : {e : t.Expression} {s rest : Text} → SpellsPlaceable e s rest → PlaceableRead e s rest
  placeable_complete (in_braces {s} {u} {v} {rest} {e} b d c) m le =
      let k : length (skip_blank u) < m = omega (arith, ap length b, skip_blank-le u) in
      let x = expression_complete d m k in
      rw b (placeable-read (readers m) u x.0 x.1 e v rest x.2 x.3 c)

  pub expression_complete : {e : t.Expression} {s rest : Text} → SpellsExpression e s rest → ExpressionRead e s rest
  expression_complete (an_inline {s} {u} {e} d a h) m lt = (e, u, up-inline e s u (inline_complete d) m lt, alone-read (readers m) e (skip_blank u) a h)
  expression_complete (a_select {s} {u} {v} {w} {rest} {e} {vs} d a h n vd) m lt =
      let k : length (skip_blank w) < m = omega (arith, inline-shorter d, skip_blank-le u, ap length a, skip_spaces-le v, line_end-lt (skip_spaces v) w n, skip_blank-le w) in (
        e,
        u,
        up-inline e s u (inline_complete d) m lt,
        rw a (select-read (readers m) e v w vs rest h n (up-variants false vs (skip_blank w) rest (variants_complete vd) m k)),
      )

  pub variants_complete : {marked : Bool} {vs : t.Variants} {s rest : Text} → SpellsVariants marked vs s rest → VariantsRead marked vs s rest
  variants_complete (all_read {s} a b) m le = all-read (readers m) s a b
  variants_complete (lone_mark {s} {u} a b) m le = rw a (lone_mark-read (readers m) u b)
  variants_complete (a_variant {marked} {s} {u} {rest} {key} {value} {vs} d more) m le =
      let k : length (skip_blank u) < m = omega (arith, variant-shorter d, skip_blank-le u) in
      let x = variant_complete d m le in
      let others : (readers m).variants marked (skip_blank u) ≡ got vs rest = up-variants marked vs (skip_blank u) rest (variants_complete more) m k in
      rw x.1 (variant-read (readers m) marked x.0 ∙ x.2 false marked ∙ ap (mapped (t.variant key value false)) others)
  variants_complete (the_default {s} {u} {v} {rest} {key} {value} {vs} a d more) m le =
      let k : length (skip_blank v) < m = omega (arith, ap length a, variant-shorter d, skip_blank-le v) in
      let x = variant_complete d m (omega (arith, ap length a)) in
      let others : (readers m).variants true (skip_blank v) ≡ got vs rest = up-variants true vs (skip_blank v) rest (variants_complete more) m k in
      rw (a, x.1) (default-read (readers m) x.0 ∙ x.2 true true ∙ ap (mapped (t.variant key value true)) others)

  pub variant_complete : {key : t.VariantKey} {value : t.Elements} {s rest : Text} → SpellsVariant key value s rest → VariantRead key value s rest
  variant_complete (keyed {s} {u} {v} {w} {rest} {key} {value} b kd c p h) m le =
      let k : length w ≤ m = omega (arith, ap length b, skip_blank-le u, key-shorter kd, skip_blank-le v, ap length c) in
      (u, b, (λ default marked. keyed-read (readers m) u key v w value rest default marked kd c (pattern_complete p m k) h))

  pub pattern_complete : {value : t.Elements} {s rest : Text} → SpellsPattern value s rest → PatternRead value s rest
  pattern_complete (on_the_line {s} {rest} {ps} {value} n d e) m le =
      rw e (on_line-read (readers m) s ps rest n (pieces_complete d m (omega (arith, skip_spaces-le s))))
  pattern_complete (on_the_next {s} {u} {rest} {ps} {value} n d e) m le =
      rw e (on_next-read (readers m) s u ps rest n (line_complete d m (omega (arith, skip_spaces-le s, line_end-lt (skip_spaces s) u n, skip_blank_block-le u))))

  pub pieces_complete : {ps : List Piece} {s rest : Text} → SpellsPieces ps s rest → PiecesRead ps s rest
  pieces_complete nothing_left m le = nothing-read (readers m)
  pieces_complete (crlf_piece {s} {rest} {ps} c d) m le =
      crlf-read (readers m) s ps rest c (up-line ps (drop 2 s) rest (line_complete d) m (omega (arith, crlf-two s c)))
  pieces_complete (text_piece {piece} {s} {u} {rest} {ps} b x d) m le =
      pieces-of_text (readers m) s (in_line piece ∷ ps) rest b (text-read (readers m) in_line s piece u ps rest x (behind_text_complete d m (omega (arith, text-shorter x b))))
  pieces_complete (placeable_piece {s} {u} {rest} {e} {ps} p d) m le =
      pieces-of_placeable (readers m) s (placed false e ∷ ps) rest (placeable-begins p)
      (placed-read (readers m) false s e u ps rest (placeable_complete p m le) (up-pieces ps u rest (pieces_complete d) m (omega (arith, placeable-shorter p))))

  pub line_complete : {ps : List Piece} {s rest : Text} → SpellsLine ps s rest → LineRead ps s rest
  line_complete (only_spaces_left {s} h) m le = spaces_left-read (readers m) s h
  line_complete (pattern_over {s} h k) m le = over-read (readers m) s h k
  line_complete (line_of_text {piece} {s} {u} {rest} {ps} k b x d) m le =
      line-of_text (readers m) s (at_line_start (spaces s) piece ∷ ps) rest k b
      (text-read (readers m) (at_line_start (spaces s)) (skip_spaces s) piece u ps rest x (behind_text_complete d m (omega (arith, text-shorter x b, skip_spaces-le s))))
  line_complete (line_of_placeable {s} {u} {rest} {e} {ps} k p d) m le =
      line-of_placeable (readers m) s (placed (spaces s == 0) e ∷ ps) rest k (placeable-begins p)
      (placed-read (readers m) (spaces s == 0) (skip_spaces s) e u ps rest (placeable_complete p m (omega (arith, skip_spaces-le s)))
      (up-pieces ps u rest (pieces_complete d) m (omega (arith, placeable-shorter p, skip_spaces-le s))))
  line_complete (line_of_crlf {s} {rest} {ps} k c d) m le = line-of_crlf (readers m) s ps rest k c (pieces_complete d m (omega (arith, skip_spaces-le s)))

  pub behind_text_complete : {ends : Bool} {ps : List Piece} {s rest : Text} → SpellsBehindText ends ps s rest → BehindTextRead ends ps s rest
  behind_text_complete (next_line {s} {rest} {ps} d) m lt = after_line-read (readers m) s ps rest (up-line ps s rest (line_complete d) m lt)
  behind_text_complete (same_line {s} {rest} {ps} d) m lt = after_pieces-read (readers m) s ps rest (up-pieces ps s rest (pieces_complete d) m lt)
