-- Each occurrence is where its name stands.
use Rattle.std.proofs.Common.{◌≡◌, ◌∙◌, ◌++◌, ◌-◌, Bool, true, false, if◌then◌else◌, List, [], ◌∷◌, Option, Some, None, ap, append_assoc, drop, take, length, map, refl, subst, sym}
use Rattle.std.specs.Prelude.{All}
use Rattle.std.proofs.lemmas.List.{take_at}
use Rattle.std.proofs.lemmas.List.Elements.{All-append, All-cons, All-head, All-nil, All-tail, All-weaker}
use Rattle.fluent_grammar.specs.Words.{Text, is_letter, begins, name_len, skip_blank, skip_blank_block, skip_separator, skip_spaces}
use Rattle.fluent_grammar.specs.Tree as t
use Rattle.fluent_grammar.specs.Ends.{EndsIn}
use Rattle.fluent_grammar.specs.Refusal.{Reading, got}
use Rattle.fluent_grammar.specs.Lines.{Piece, value_of}
use Rattle.fluent_grammar.specs.Lexical.{SpellsName, SpellsAccessor, no_accessor, an_accessor, SpellsLiteral, a_string, a_number, SpellsText, to_line_feed, to_brace, to_crlf, to_end, text_byte}
use Rattle.fluent_grammar.specs.Spelling.{SpellsInline, a_string_literal, a_number_literal, a_variable_reference, a_term_reference, a_message_reference, a_function_reference, a_placeable, SpellsMaybeArguments, no_call, a_call, SpellsArguments, no_more, positional, named, SpellsPlaceable, in_braces, SpellsExpression, an_inline, a_select, SpellsVariants, all_read, lone_mark, a_variant, the_default, SpellsVariant, keyed, SpellsPattern, on_the_line, on_the_next, SpellsPieces, nothing_left, crlf_piece, text_piece, placeable_piece, SpellsLine, only_spaces_left, pattern_over, line_of_text, line_of_placeable, line_of_crlf, SpellsBehindText, next_line, same_line, SpellsHead, a_head, an_attribute, SpellsAttributes, no_more_attributes, one_more_attribute, SpellsEntry, a_message, a_term}
use Rattle.fluent_grammar.specs.Reading.{identifier_at}
use Rattle.fluent_grammar.proofs.Got.{got_node}
use Rattle.fluent_grammar.proofs.Words.{name_complete}
use Rattle.fluent_grammar.proofs.Entries.{entry_sound}
use Rattle.fluent_grammar.proofs.Within.{end-blank, end-blank_block, end-drop, end-separator, end-spaces, end-trans, line_end-end, MaybeEnd}
use Rattle.lint_entries.specs.AttributePlaces.{value_elements}
use Rattle.lint_entries.specs.Kept.{kept_tiles, part_of_tile, parts}
use Rattle.lint_findings.specs.FlawWords.{key_text}
use Rattle.lint_findings.specs.Occurrences.{after_equals}
use Rattle.lint_findings.specs.Tiles.{Tile, entry_tile, junk_tile, tiles}
use Rattle.lint_findings.proofs.SourcePlaces.{IsReadTile, at_offset, tiles_are_read}
use Rattle.lint_nodes.specs.Rests.{after_attribute, after_first_texts, after_lines, after_sign, after_texts, first_variant, inline_rest, inlines_rest, pattern_rest, placeable_rest, value_of_argument, value_of_variant, within}
use Rattle.lint_nodes.proofs.AfterTexts.{at_brace}
use Rattle.lint_nodes.proofs.RestsAreRead.{after_piece, attribute_left, blank_after_arrow, crlf_left, inline_left, key_left, literal_left, name_left, none_follows, pattern_left, placeable_begins, placeable_left, text_left, texts_over_spaces, unmarked, variant_left}
use Rattle.fluent_symbols.specs.Entries.{in_attributes, in_body, in_entry, in_message, in_term}
use Rattle.fluent_symbols.specs.OffsetLaws.{HoldsNameAt, IsNamedIn, NamesStandThere, OffsetsHoldNames}
use Rattle.fluent_symbols.specs.Occurrences.{Occurrence, Symbol, argument_named, attribute, attribute_named, function, in_arguments, in_call, in_elements, in_expression, in_inline, in_inlines, in_nameds, in_pattern, in_variants, message, named as symbol_named, owned, term, variable, with_minus}
use Rattle.fluent_symbols.specs.Sources.{in_part, in_parts, occurrences}
use Rattle.fluent_symbols.proofs.PiecesFound.{in_pieces, of_pieces}
use Rattle.fluent_symbols.proofs.RestsEnd.{argument_value_end, attribute_end, inline_end, pattern_end, placeable_end, sign_end, variant_begins_end, variant_value_end, within_end}

-- ---- names

cut_step : (b : Bool) (x y name rest : Text) (r : Reading Text) → b ≡ true → (if b then got x y else r) ≡ got name rest → y ≡ rest
cut_step true x y name rest r e h = (got_node h).1
cut_step false x y name rest r e h = absurd cc

name_cut : (s name rest : Text) → begins is_letter s ≡ true → identifier_at s ≡ got name rest → drop (name_len s) s ≡ rest
unfolding identifier_at
name_cut s name rest b h = cut_step (begins is_letter s) (take (name_len s) s) (drop (name_len s) s) name rest _ b h

pub name_rest : {name s rest : Text} → SpellsName name s rest → drop (name_len s) s ≡ rest
name_rest {name} {s} {rest} n = name_cut s name rest n.letter_first (name_complete n)

-- ---- values

pub value_is : (value : t.Elements) → value_elements (value_of value) ≡ value
value_is t.no_elements = refl
value_is (t.text x es) = refl
value_is (t.placeable e es) = refl

-- ---- parts of a source

module _ (whole : Text) where
  abbrev Named : List Occurrence → Type 0
  Named os = All (IsNamedIn whole) os

  none : Named []
  none = All-nil (IsNamedIn whole)

  both : (xs ys : List Occurrence) → Named xs → Named ys → Named (xs ++ ys)
  both xs ys p q = All-append (IsNamedIn whole) xs ys p q

  also : (o : Occurrence) (os : List Occurrence) → IsNamedIn whole o → Named os → Named (o ∷ os)
  also o os p q = All-cons (IsNamedIn whole) o os p q

  -- a name is here
  here : (symbol : Symbol) (defined : Bool) {s : Text} (rest : Text) → s ≡ symbol.name ++ rest → EndsIn s whole → IsNamedIn whole (record { symbol = symbol; at = s; is_definition = defined })
  here symbol defined {s} rest split h = record { place = h; rest = rest; name = split }

  -- what is found at a text is what is found at its equal
  found_at : (find : Text → List Occurrence) {x y : Text} → x ≡ y → EndsIn x whole → (EndsIn y whole → Named (find y)) → Named (find x)
  found_at find same h each = subst (λ z. Named (find z)) (sym same) (each (subst (λ z. EndsIn z whole) same h))

  -- the end of a text
  text_end : {piece s u : Text} → SpellsText piece s u → EndsIn s whole → EndsIn u whole
  text_end to_line_feed h = end-drop 1 h
  text_end to_brace h = h
  text_end (to_crlf c) h = h
  text_end to_end h = h
  text_end (text_byte p q d) h = text_end d (end-drop 1 h)

  attribute_found : (owner : Text) {a : Option Text} {s rest : Text} → SpellsAccessor a s rest → EndsIn s whole → Named (attribute_named owner a s)
  attribute_found owner (no_accessor c) h = none
  attribute_found owner (an_accessor {name} n) h = also _ [] (here (owned attribute owner name) false _ n.run.split (end-drop 1 h)) none

  argument_found : (callee : Option Text) {name s u : Text} → SpellsName name s u → EndsIn s whole → Named (argument_named callee name s)
  argument_found None n h = none
  argument_found (Some callee) {name} n h = also _ [] (here (owned variable callee name) false _ n.run.split h) none

  module _ (owner : Text) where
    literal_found : {e : t.Inline} {s rest : Text} → SpellsLiteral e s rest → (z : Text) → Named (in_inline owner e z)
    literal_found (a_string d) z = none
    literal_found (a_number d) z = none

    mutual
      inline_found : {e : t.Inline} {s rest : Text} → SpellsInline e s rest → EndsIn s whole → Named (in_inline owner e s)
      inline_found (a_string_literal b d) h = none
      inline_found (a_number_literal d) h = none
      inline_found (a_variable_reference {name} b n) h = also _ [] (here (owned variable owner name) false _ (ap (drop 1) b ∙ n.run.split) (end-drop 1 h)) none
      inline_found (a_term_reference {name} {s} {u} {v} {w} {rest} {attribute = a} {arguments = args} b n x c) h =
          let named_end = end-drop (length name) (end-drop 1 h) in
          let after : drop (length name) (drop 1 s) ≡ v = ap (λ z. drop (length name) (drop 1 z)) b ∙ name_left n in
          also _ _ (here (symbol_named term name) false _ (ap (drop 1) b ∙ n.run.split) (end-drop 1 h))
          (both _ _ (found_at (attribute_named (with_minus name) a) after named_end (attribute_found (with_minus name) x))
          (found_at (in_call owner (with_minus name) args) (ap (λ z. skip_blank (after_attribute a z)) after ∙ ap skip_blank (attribute_left x)) (end-blank (attribute_end a named_end))
          (call_found (with_minus name) c)))
      inline_found (a_message_reference {name} {s} {u} {rest} {attribute = a} n o x) h =
          also _ _ (here (symbol_named message name) false _ n.run.split h)
          (found_at (attribute_named name a) (ap skip_blank (name_left n)) (end-blank (end-drop (length name) h)) (attribute_found name x))
      inline_found (a_function_reference {name} {s} {u} {v} {rest} {arguments = args} n c p x) h =
          also _ _ (here (symbol_named function name) false _ n.run.split h)
          (found_at (in_arguments owner None args) (ap (λ z. within (skip_blank z)) (name_left n) ∙ ap within p) (within_end (end-blank (end-drop (length name) h))) (arguments_found None x))
      inline_found (a_placeable d) h = placeable_found d h

      call_found : (callee : Text) {c : t.MaybeArguments} {s rest : Text} → SpellsMaybeArguments c s rest → EndsIn s whole → Named (in_call owner callee c s)
      call_found callee (no_call c) h = none
      call_found callee (a_call {arguments = args} p x) h = found_at (in_arguments owner (Some callee) args) (ap within p) (within_end h) (arguments_found (Some callee) x)

      arguments_found : (callee : Option Text) {names : List Text} {a : t.Arguments} {s rest : Text} → SpellsArguments names a s rest → EndsIn s whole → Named (in_arguments owner callee a s)
      arguments_found callee (no_more p) h = none
      arguments_found callee (positional {s} {u} {rest} {e} {ps} {ns} d p more) h =
          let later = skip_separator (inline_rest e s) in
          subst Named (sym (append_assoc (in_inline owner e s) (in_inlines owner ps later) (in_nameds owner callee ns (inlines_rest ps later))))
          (both (in_inline owner e s) _ (inline_found d h)
          (found_at (λ z. in_inlines owner ps z ++ in_nameds owner callee ns (inlines_rest ps z)) (ap skip_separator (inline_left d)) (end-separator (inline_end e h)) (arguments_found callee more)))
      arguments_found callee (named {names} {name} {s} {u} {v} {w} {rest} {e} {ps} {ns} n c f l more) h =
          let value = value_of_argument name s in
          let next : skip_separator (inline_rest e value) ≡ skip_separator w = ap (λ x. skip_separator (inline_rest e (within (skip_blank x)))) (name_left n)
          ∙ ap (λ x. skip_separator (inline_rest e (within x))) c ∙ ap skip_separator (literal_left l) in
          let later : Named (in_nameds owner callee ns (skip_separator (inline_rest e value))) = found_at (in_nameds owner callee ns) next (end-separator (inline_end e (argument_value_end name h)))
          (λ k. subst (λ p. Named (in_inlines owner p (skip_separator w) ++ in_nameds owner callee ns (inlines_rest p (skip_separator w)))) (none_follows more) (arguments_found callee more k)) in
          subst (λ p. Named (in_inlines owner p s ++ in_nameds owner callee (t.named name e ns) (inlines_rest p s))) (sym (none_follows more))
          (both (argument_named callee name s) _ (argument_found callee n h) (both (in_inline owner e value) _ (literal_found l value) later))

      placeable_found : {e : t.Expression} {s rest : Text} → SpellsPlaceable e s rest → EndsIn s whole → Named (in_expression owner e (within s))
      placeable_found (in_braces {e} b d c) h = found_at (in_expression owner e) (ap within b) (within_end h) (expression_found d)

      expression_found : {e : t.Expression} {s rest : Text} → SpellsExpression e s rest → EndsIn s whole → Named (in_expression owner e s)
      expression_found (an_inline d a c) h = inline_found d h
      expression_found (a_select {s} {u} {v} {w} {rest} {e} {vs} d a c n vd) h =
          both (in_inline owner e s) _ (inline_found d h)
          (found_at (in_variants owner vs) (ap first_variant (inline_left d) ∙ ap (λ x. skip_blank (drop 2 x)) a ∙ blank_after_arrow v w n) (variant_begins_end (inline_end e h)) (variants_found vd))

      variants_found : {marked : Bool} {vs : t.Variants} {s rest : Text} → SpellsVariants marked vs s rest → EndsIn s whole → Named (in_variants owner vs s)
      variants_found (all_read a b) h = none
      variants_found (lone_mark a b) h = none
      variants_found (a_variant {marked} {s} {u} {rest} {key} {value} {vs} d more) h =
          both (in_pattern owner value (value_of_variant key s)) _
          (subst (λ x. Named (in_pattern owner value (after_sign (drop (length (key_text key)) (within x))))) (sym (unmarked d)) (variant_found d h))
          (found_at (in_variants owner vs) (ap (λ x. skip_blank (pattern_rest value (after_sign (drop (length (key_text key)) (within x))))) (unmarked d) ∙ ap skip_blank (variant_left d))
          (end-blank (pattern_end value (variant_value_end key h))) (variants_found more))
      variants_found (the_default {s} {u} {v} {rest} {key} {value} {vs} a d more) h =
          both (in_pattern owner value (value_of_variant key s)) _
          (subst (λ x. Named (in_pattern owner value (value_of_variant key x))) (sym a) (variant_found d (subst (λ z. EndsIn z whole) (ap (drop 1) a) (end-drop 1 h))))
          (found_at (in_variants owner vs) (ap (λ x. skip_blank (pattern_rest value (value_of_variant key x))) a ∙ ap skip_blank (variant_left d))
          (end-blank (pattern_end value (variant_value_end key h))) (variants_found more))

      variant_found : {key : t.VariantKey} {value : t.Elements} {s rest : Text} → SpellsVariant key value s rest → EndsIn s whole →
          Named (in_pattern owner value (after_sign (drop (length (key_text key)) (within s))))
      variant_found (keyed {s} {u} {v} {w} {rest} {key} {value} b kd c p some) h =
          found_at (in_pattern owner value)
          (ap (λ x. after_sign (drop (length (key_text key)) (within x))) b ∙ ap after_sign (key_left kd) ∙ ap (drop 1) c)
          (sign_end (end-drop (length (key_text key)) (within_end h))) (pattern_found p)

      pattern_found : {value : t.Elements} {s rest : Text} → SpellsPattern value s rest → EndsIn s whole → Named (in_pattern owner value s)
      pattern_found (on_the_line {s} {rest} {ps} {value} n d e) h =
          subst Named
          (sym (ap (λ x. in_elements owner value (after_first_texts (skip_spaces s) x)) n
          ∙ ap (λ es. in_elements owner es (after_texts (skip_spaces s))) e ∙ of_pieces owner ps (after_texts (skip_spaces s))))
          (pieces_found d (end-spaces h))
      pattern_found (on_the_next {s} {u} {rest} {ps} {value} n d e) h =
          let line : EndsIn u (skip_spaces s) = subst (λ o. MaybeEnd o (skip_spaces s)) n (line_end-end (skip_spaces s)) in
          subst Named
          (sym (ap (λ x. in_elements owner value (after_first_texts (skip_spaces s) x)) n
          ∙ ap (λ es. in_elements owner es (after_lines (skip_blank_block u))) e ∙ of_pieces owner ps (after_lines (skip_blank_block u))))
          (line_found d (end-blank_block (end-trans line (end-spaces h))))

      pieces_found : {ps : List Piece} {s rest : Text} → SpellsPieces ps s rest → EndsIn s whole → Named (in_pieces owner ps (after_texts s))
      pieces_found nothing_left h = none
      pieces_found (crlf_piece {s} {rest} {ps} c d) h = subst (λ x. Named (in_pieces owner ps x)) (sym (crlf_left s c)) (line_found d (end-drop 2 h))
      pieces_found (text_piece {piece} {s} {u} {rest} {ps} b x d) h = subst (λ y. Named (in_pieces owner ps y)) (sym (text_left x)) (behind_found d (text_end x h))
      pieces_found (placeable_piece {s} {u} {rest} {e} {ps} p d) h =
          subst (λ x. Named (in_expression owner e (within x) ++ in_pieces owner ps (after_texts (placeable_rest e x)))) (sym (at_brace s (placeable_begins p)))
          (both (in_expression owner e (within s)) _ (placeable_found p h)
          (found_at (λ x. in_pieces owner ps (after_texts x)) (placeable_left p) (placeable_end e h) (pieces_found d)))

      line_found : {ps : List Piece} {s rest : Text} → SpellsLine ps s rest → EndsIn s whole → Named (in_pieces owner ps (after_lines s))
      line_found (only_spaces_left e) h = none
      line_found (pattern_over e k) h = none
      line_found (line_of_text {piece} {s} {u} {rest} {ps} k b x d) h =
          rw k (subst (λ y. Named (in_pieces owner ps y)) (sym (texts_over_spaces s ∙ text_left x)) (behind_found d (text_end x (end-spaces h))))
      line_found (line_of_placeable {s} {u} {rest} {e} {ps} k p d) h =
          rw k (subst (λ x. Named (in_expression owner e (within x) ++ in_pieces owner ps (after_texts (placeable_rest e x)))) (sym (texts_over_spaces s ∙ at_brace (skip_spaces s) (placeable_begins p)))
          (both (in_expression owner e (within (skip_spaces s))) _ (placeable_found p (end-spaces h))
          (found_at (λ x. in_pieces owner ps (after_texts x)) (placeable_left p) (placeable_end e (end-spaces h)) (pieces_found d))))
      line_found (line_of_crlf {s} {rest} {ps} k c d) h = rw k (subst (λ x. Named (in_pieces owner ps x)) (sym (texts_over_spaces s)) (pieces_found d (end-spaces h)))

      behind_found : {ends : Bool} {ps : List Piece} {s rest : Text} → SpellsBehindText ends ps s rest → EndsIn s whole → Named (in_pieces owner ps (after_piece ends s))
      behind_found (next_line d) h = line_found d h
      behind_found (same_line d) h = pieces_found d h

  equals_end : (name : Text) → EndsIn name whole → EndsIn (after_equals name) whole
  equals_end name h = end-drop 1 (end-spaces (end-drop (name_len name) h))

  -- what is known of a name, an equals sign and what may be a pattern
  record HeadFound (owner id : Text) (value : t.Elements) (s rest : Text) : Type 0 where
    left : Text
    split : s ≡ id ++ left
    pattern : Named (in_pattern owner value (after_equals s))
    over : pattern_rest value (after_equals s) ≡ rest

  head_found : (owner : Text) {id : Text} {value : t.Elements} {s rest : Text} → SpellsHead id value s rest → EndsIn s whole → HeadFound owner id value s rest
  head_found owner (a_head {id} {s} {u} {v} {rest} {value} n c p) h =
      let there : after_equals s ≡ v = ap (λ x. drop 1 (skip_spaces x)) (name_rest n) ∙ ap (drop 1) c in
      record {
        left = u;
        split = n.run.split;
        pattern = found_at (in_pattern owner value) there (equals_end s h) (pattern_found owner p);
        over = ap (pattern_rest value) there ∙ pattern_left p;
      }

  -- ---- entries

  attributes_found : (owner : Text) {as' : List t.Attribute} {s rest : Text} → SpellsAttributes as' s rest → EndsIn s whole → Named (in_attributes owner as' s)
  attributes_found owner (no_more_attributes c) h = none
  attributes_found owner (one_more_attribute {others} (an_attribute {id} {s} {u} {rest} {value} e d some) more) h =
      let name = drop 1 (skip_spaces s) in
      let there : name ≡ u = ap (drop 1) e in
      let name_end : EndsIn name whole = end-drop 1 (end-spaces h) in
      let head : HeadFound owner id value name rest = subst (λ x. HeadFound owner id value x rest) (sym there) (head_found owner d (subst (λ z. EndsIn z whole) there name_end)) in
      also _ _ (here (owned attribute owner id) true _ head.split name_end)
      (both (in_pattern owner value (after_equals name)) _ head.pattern
      (found_at (in_attributes owner others) head.over (pattern_end value (equals_end name name_end)) (attributes_found owner more)))

  body_found : (owner : Text) {id : Text} {value : t.Elements} {as' : List t.Attribute} {s u rest : Text} → HeadFound owner id value s u → SpellsAttributes as' (skip_blank_block u) rest → EndsIn s whole →
      Named (in_body owner value as' (after_equals s))
  body_found owner {id} {value} {as'} {s} head d h =
      both (in_pattern owner value (after_equals s)) _ head.pattern
      (found_at (in_attributes owner as') (ap skip_blank_block head.over) (end-blank_block (pattern_end value (equals_end s h))) (attributes_found owner d))

  entry_found : {e : t.Entry} {s rest : Text} → SpellsEntry e s rest → EndsIn s whole → Named (in_entry e s)
  entry_found (a_message {id} {s} {u} {rest} {value} {attributes} d more some) h =
      let head = head_found id d h in
      also _ _ (here (symbol_named message id) true _ head.split h)
      (subst (λ es. Named (in_body id es attributes (after_equals s))) (sym (value_is value)) (body_found id head more h))
  entry_found (a_term {id} {s} {u} {v} {rest} {value} {attributes} b d more some) h =
      let owner = with_minus id in
      let there : drop 1 s ≡ u = ap (drop 1) b in
      let name_end : EndsIn (drop 1 s) whole = end-drop 1 h in
      let head : HeadFound owner id value (drop 1 s) v = subst (λ x. HeadFound owner id value x v) (sym there) (head_found owner d (subst (λ z. EndsIn z whole) there name_end)) in
      also _ _ (here (symbol_named term id) true _ head.split name_end) (body_found owner head more name_end)
  entry_found other h = none

-- ---- sources

module _ (source : Text) where
  abbrev AllNamed : List Occurrence → Type 0
  AllNamed os = All (IsNamedIn source) os

  tile_found : (tile : Tile) → IsReadTile source tile → AllNamed (in_part (part_of_tile tile))
  tile_found (junk_tile at s refusal) h = All-nil (IsNamedIn source)
  tile_found (entry_tile at s e) h = entry_found source (entry_sound s e h.1.0 h.1.1) h.0

  tiles_found : (ts : List Tile) → All (IsReadTile source) ts → AllNamed (in_parts (map part_of_tile (kept_tiles ts)))
  tiles_found [] h = All-nil (IsNamedIn source)
  tiles_found (entry_tile at s (t.message m) ∷ ts) h =
      All-append (IsNamedIn source) (in_message m s) _ (tile_found (entry_tile at s (t.message m)) (All-head (IsReadTile source) (entry_tile at s (t.message m)) ts h)) (tiles_found ts (All-tail (IsReadTile source) (entry_tile at s (t.message m)) ts h))
  tiles_found (entry_tile at s (t.term m) ∷ ts) h =
      All-append (IsNamedIn source) (in_term m s) _ (tile_found (entry_tile at s (t.term m)) (All-head (IsReadTile source) (entry_tile at s (t.term m)) ts h)) (tiles_found ts (All-tail (IsReadTile source) (entry_tile at s (t.term m)) ts h))
  tiles_found (entry_tile at s (t.comment c) ∷ ts) h = tiles_found ts (All-tail (IsReadTile source) (entry_tile at s (t.comment c)) ts h)
  tiles_found (entry_tile at s (t.group_comment c) ∷ ts) h = tiles_found ts (All-tail (IsReadTile source) (entry_tile at s (t.group_comment c)) ts h)
  tiles_found (entry_tile at s (t.resource_comment c) ∷ ts) h = tiles_found ts (All-tail (IsReadTile source) (entry_tile at s (t.resource_comment c)) ts h)
  tiles_found (entry_tile at s (t.junk x) ∷ ts) h = tiles_found ts (All-tail (IsReadTile source) (entry_tile at s (t.junk x)) ts h)
  tiles_found (junk_tile at s refusal ∷ ts) h = tiles_found ts (All-tail (IsReadTile source) (junk_tile at s refusal) ts h)

  -- its name is there
  holds_name : (o : Occurrence) → IsNamedIn source o → HoldsNameAt source o
  holds_name o h =
      ap (take (length o.symbol.name)) (at_offset source o.at h.place ∙ h.name) ∙ take_at o.symbol.name h.rest (length o.symbol.name) refl

pub names_stand_there : NamesStandThere
names_stand_there source = tiles_found source (tiles source) (tiles_are_read source)

pub offsets_hold_names : OffsetsHoldNames
offsets_hold_names source = All-weaker (IsNamedIn source) (HoldsNameAt source) (holds_name source) (occurrences source) (names_stand_there source)
