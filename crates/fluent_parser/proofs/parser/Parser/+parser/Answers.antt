use Rattle.std.proofs.Common.{◌≡◌, ◌∙◌, ◌+◌, ◌||◌, ℕ, List, [], length, take, drop, map, sym, ap, refl, subst, arith, rules, Option, Some, None, Bool, true, ◌++◌, ◌∷◌, Vec, Global}
use Rattle.std.specs.Prelude.{false, option_map, ◌==◌}
use Rattle.std.specs.List.{list_all}
use Rattle.fluent_grammar.specs.Words as w
use Rattle.fluent_grammar.specs.Words.{begins_with, skip_blank, skip_separator, spaces}
use Rattle.fluent_grammar.specs.Refusal.{Reading, got, mapped}
use Rattle.fluent_grammar.specs.Tree as tree
use Rattle.fluent_grammar.specs.Reading as read
use Rattle.fluent_ast.specs.declared.NamedArgument.{NamedArgument}
use Rattle.fluent_ast.specs.declared.InlineExpression.{InlineExpression}
use Rattle.fluent_ast.specs.declared.Variant.{Variant}
use Rattle.fluent_tokens.specs.Counted.{begins_literal}
use Rattle.fluent_parser.specs.Reads.{Gives, whole, string_or_number_at, argument_value_at}
use Rattle.fluent_parser.specs.Steps.{names_of, names_with, variants_behind, Argument, named, arguments_behind, positional_by, argument_by, nested_by, placeable_piece_by, pattern_behind, kept_piece_by, piece_behind, first_place}
use Rattle.fluent_ast.specs.View.{Named, inlines_of, nameds_of, name_of, key_of, inline_view, named_view, variant_view, variants_of, arguments_view, pattern_view, element_view}
use Rattle.fluent_parsed.specs.Elements.{value_by}
use Rattle.fluent_parser.specs.declared.named_arguments.NamedArguments.{NamedArguments}
use Rattle.fluent_parser.specs.Arguments.{argument_view, IsNamed}
use Rattle.fluent_parser.specs.Indexed.{IsIndexed}
use Rattle.fluent_parser.proofs.Named.{name_begins}
use Rattle.fluent_ast.proofs.Views.{inline_view-FunctionReference, inline_view-TermReference, arguments_view-roll, named_view-roll}
use Rattle.fluent_parser.proofs.Failing.{handed_on, fails_mapped, fails_same}
use Rattle.fluent_tokens.proofs.Scanned.{test_of}
use Rattle.fluent_parser.proofs.Runs.{cut_indent_at, cut_behind_indent, cut_crlf, cut_line_feed, line_feed_read, begun_shorter, cut_arrow}
use Rattle.fluent_parser.proofs.Cycle.{gives_same, pattern_is_behind, inline_literal, inline_term, inline_variable, inline_named, inline_nested, inline_none, inline_shorter, argument_fails, argument_not_named, argument_unnamed, argument_named, arguments_start, arguments_empty, arguments_fail, argument_fail, positional_read, named_read, arguments_end, mark_fails, variants_fail, variant_fails, variants_read, variants_end, variants_refused, pattern_fails, term_read, function_read, pushed, arguments_same, variants_same, names_more, on_ok_always}
use Rattle.fluent_parser.specs.Frame.{StartsLine}
use Rattle.fluent_parser.proofs.Nests.{expression_inside, select_inside, function_opens, function_inside, term_opens, term_inside, arguments_inside, arguments_later, select_opened, variants_inside, line_ended, variant_inside, variants_later, value_inside, lines_inside, pieces_inside, pieces_later, piece_inside}
use Rattle.fluent_parser.proofs.Deepening.{deep_of, deep_map, deep_none, deep_same, shallow_deep, past_by, past_at, past_opening}
use Rattle.fluent_parser.specs.Depth.{IfTooDeep, Past, TakesAfterParenthesis, TakesSelectAfter}
use Rattle.fluent_parser.specs.Nesting.{TakesInline, in_braces, TakesPlaceable, this_argument, TakesSelect, TakesVariants, TakesVariant, TakesPattern, TakesLines, TakesPieces}
use Rattle.fluent_text.specs.declared.stack.reading.TheConstants.{PLACEABLE, CALL, SELECT}
use Rattle.fluent_parser.proofs.LastFeeds.{kept_fails}
use Rattle.fluent_grammar.specs.Lines.{Piece, pattern_ends}
use Rattle.fluent_tokens.specs.Lookup.{is_last_feed}
use Rattle.fluent_parser.specs.Pieces.{GivesPiece}
use Rattle.fluent_parser.proofs.LinePieces.{kept_in_line, kept_feed, kept_end, kept_at_line}
use Rattle.fluent_parser.proofs.LineStarts.{first_starts, piece_starts}
use Rattle.fluent_parser.proofs.PutPieces.{piece_put, no_piece, placeable_next, feed_put}
use Rattle.fluent_parser.proofs.PlainPieces.{nothing_read}
use Rattle.fluent_parser.proofs.GatheredPieces.{gathers_none, gathers_more, gathers_all}
use Rattle.fluent_parser.proofs.parser.Parser.+parser.Goals as goal
use Rattle.fluent_parser.proofs.parser.Parser.+parser.Goals.{get_call_arguments-in-Positional+in_ok-push-in-Positional, get_call_arguments-in-Named+in_ok-push-in-Named}

pub get_inline_expression-returns-then-begins_literal-clause-gives : goal.get_inline_expression-returns-then-begins_literal-clause-gives
get_inline_expression-returns-then-begins_literal-clause-gives g t c =
    let lit = ap begins_literal (sym c.bytes-bytes.ensures.value) ∙ sym c.begins_literal.ensures ∙ c.if-begins_literal.true in
    gives_same (inline_view g.row.S.Denot g.T.Texts.text) c.get_literal.new.self.rest.now c.get_literal.result (string_or_number_at c.args.self.now.rest.now) (whole.inline c.args.self.now.rest.now) (inline_literal c.args.self.now.rest.now lit) c.get_literal.ensures.gives

pub get_inline_expression-returns-then-begins_with-clause-gives : goal.get_inline_expression-returns-then-begins_with-clause-gives
get_inline_expression-returns-then-begins_with-clause-gives g t c =
    let lit = ap begins_literal (sym c.bytes-bytes.ensures.value) ∙ sym c.begins_literal.ensures ∙ c.if-begins_literal.false in
    let minus = ap (begins_with w.hyphen) (sym c.bytes-bytes.ensures.value) ∙ sym c.begins_with.ensures ∙ c.if-begins_with.true in
    gives_same (inline_view g.row.S.Denot g.T.Texts.text) c.get_term_reference.new.self.rest.now c.get_term_reference.result (read.term_at whole (drop 1 c.args.self.now.rest.now)) (whole.inline c.args.self.now.rest.now) (inline_term c.args.self.now.rest.now lit minus) c.get_term_reference.ensures.gives

pub get_inline_expression-returns-then-begins_with-2-clause-gives : goal.get_inline_expression-returns-then-begins_with-2-clause-gives
get_inline_expression-returns-then-begins_with-2-clause-gives g t c =
    let lit = ap begins_literal (sym c.bytes-bytes.ensures.value) ∙ sym c.begins_literal.ensures ∙ c.if-begins_literal.false in
    let minus = ap (begins_with w.hyphen) (sym c.bytes-bytes.ensures.value) ∙ sym c.begins_with.ensures ∙ c.if-begins_with.false in
    let dollar = ap (begins_with w.dollar) (sym c.bytes-bytes.ensures.value) ∙ sym c.begins_with-2.ensures ∙ c.if-begins_with-2.true in
    gives_same (inline_view g.row.S.Denot g.T.Texts.text) c.get_variable_reference.new.self.rest.now c.get_variable_reference.result (mapped tree.variable_reference (read.identifier_at (drop 1 c.args.self.now.rest.now))) (whole.inline c.args.self.now.rest.now) (inline_variable c.args.self.now.rest.now lit minus dollar) c.get_variable_reference.ensures.gives

pub get_inline_expression-returns-then-begins_with_letter-clause-gives : goal.get_inline_expression-returns-then-begins_with_letter-clause-gives
get_inline_expression-returns-then-begins_with_letter-clause-gives g t c =
    let lit = ap begins_literal (sym c.bytes-bytes.ensures.value) ∙ sym c.begins_literal.ensures ∙ c.if-begins_literal.false in
    let minus = ap (begins_with w.hyphen) (sym c.bytes-bytes.ensures.value) ∙ sym c.begins_with.ensures ∙ c.if-begins_with.false in
    let dollar = ap (begins_with w.dollar) (sym c.bytes-bytes.ensures.value) ∙ sym c.begins_with-2.ensures ∙ c.if-begins_with-2.false in
    let letter = ap (w.begins w.is_letter) (sym c.bytes-bytes.ensures.value) ∙ sym c.begins_with_letter.ensures ∙ c.if-begins_with_letter.true in
    gives_same (inline_view g.row.S.Denot g.T.Texts.text) c.get_named_reference.new.self.rest.now c.get_named_reference.result (read.named_at whole c.args.self.now.rest.now) (whole.inline c.args.self.now.rest.now) (inline_named c.args.self.now.rest.now lit minus dollar letter) c.get_named_reference.ensures.gives

pub get_inline_expression-returns-then-begins_with-3-clause-gives : goal.get_inline_expression-returns-then-begins_with-3-clause-gives
get_inline_expression-returns-then-begins_with-3-clause-gives g t c =
    let lit = ap begins_literal (sym c.bytes-bytes.ensures.value) ∙ sym c.begins_literal.ensures ∙ c.if-begins_literal.false in
    let minus = ap (begins_with w.hyphen) (sym c.bytes-bytes.ensures.value) ∙ sym c.begins_with.ensures ∙ c.if-begins_with.false in
    let dollar = ap (begins_with w.dollar) (sym c.bytes-bytes.ensures.value) ∙ sym c.begins_with-2.ensures ∙ c.if-begins_with-2.false in
    let letter = ap (w.begins w.is_letter) (sym c.bytes-bytes.ensures.value) ∙ sym c.begins_with_letter.ensures ∙ c.if-begins_with_letter.false in
    let brace = ap (begins_with w.open_brace) (sym c.bytes-bytes.ensures.value) ∙ sym c.begins_with-3.ensures ∙ c.if-begins_with-3.true in
    gives_same (inline_view g.row.S.Denot g.T.Texts.text) c.get_nested_placeable.new.self.rest.now c.get_nested_placeable.result (nested_by c.args.self.now.rest.now) (whole.inline c.args.self.now.rest.now) (inline_nested c.args.self.now.rest.now lit minus dollar letter brace) c.get_nested_placeable.ensures.gives

pub get_inline_expression-returns-clause-gives : goal.get_inline_expression-returns-clause-gives
get_inline_expression-returns-clause-gives g t c =
    let lit = ap begins_literal (sym c.bytes-bytes.ensures.value) ∙ sym c.begins_literal.ensures ∙ c.if-begins_literal.false in
    let minus = ap (begins_with w.hyphen) (sym c.bytes-bytes.ensures.value) ∙ sym c.begins_with.ensures ∙ c.if-begins_with.false in
    let dollar = ap (begins_with w.dollar) (sym c.bytes-bytes.ensures.value) ∙ sym c.begins_with-2.ensures ∙ c.if-begins_with-2.false in
    let letter = ap (w.begins w.is_letter) (sym c.bytes-bytes.ensures.value) ∙ sym c.begins_with_letter.ensures ∙ c.if-begins_with_letter.false in
    let brace = ap (begins_with w.open_brace) (sym c.bytes-bytes.ensures.value) ∙ sym c.begins_with-3.ensures ∙ c.if-begins_with-3.false in
    rw (inline_none c.args.self.now.rest.now lit minus dollar letter brace) (refl, refl)

pub get_select_variants-advance-requires : goal.get_select_variants-advance-requires
get_select_variants-advance-requires g t c =
    cut_arrow c.args.self.now.rest.now c.requires.arrow

pub get_named_reference-returns-then-is_callee-clause-gives : goal.get_named_reference-returns-then-is_callee-clause-gives
get_named_reference-returns-then-is_callee-clause-gives g t c =
    function_read c.args.self.now.rest.now c.get_identifier.new.self.rest.now c.skip_blank.new.self.rest.now c.close.new.self.rest.now (name_of g.row.S.Denot g.T.Texts.text c.in_ok-id.id) (arguments_view g.row.S.Denot g.T.Texts.text c.in_ok-arguments.arguments)
    c.in_ok-id.ensures.gives c.skip_blank.ensures.rest (sym c.is_current_byte.ensures ∙ c.if-not-is_current_byte.false) (ap (λ z. whole.arguments [] (w.skip_blank (drop 1 z))) (sym c.open.ensures.rest) ∙ c.in_ok-arguments.ensures.gives ∙ ap (got (arguments_view g.row.S.Denot g.T.Texts.text c.in_ok-arguments.arguments)) (sym c.close.ensures.rest)) (ap (list_all w.is_callee_byte) (sym c.as_str.ensures) ∙ sym c.is_callee.ensures ∙ c.if-is_callee.true)
    ∙ ap (λ z. got z c.close.new.self.rest.now) (sym (inline_view-FunctionReference g.row.S.Denot g.T.Texts.text c.in_ok-id.id c.in_ok-arguments.arguments))

pub get_term_reference-returns-clause-gives : goal.get_term_reference-returns-clause-gives
get_term_reference-returns-clause-gives g t c =
    term_read (drop 1 c.args.self.now.rest.now) c.get_identifier.new.self.rest.now c.get_attribute_accessor.new.self.rest.now c.skip_blank.new.self.rest.now c.close.new.self.rest.now (name_of g.row.S.Denot g.T.Texts.text c.in_ok-id.id) (option_map (name_of g.row.S.Denot g.T.Texts.text) c.in_ok-attribute.attribute) (arguments_view g.row.S.Denot g.T.Texts.text c.in_ok-arguments.arguments)
    (ap read.identifier_at (sym c.advance.ensures.rest) ∙ c.in_ok-id.ensures.gives) c.in_ok-attribute.ensures.gives c.skip_blank.ensures.rest (sym c.is_current_byte.ensures ∙ c.if-not-is_current_byte.false) (ap (λ z. whole.arguments [] (w.skip_blank (drop 1 z))) (sym c.open.ensures.rest) ∙ c.in_ok-arguments.ensures.gives ∙ ap (got (arguments_view g.row.S.Denot g.T.Texts.text c.in_ok-arguments.arguments)) (sym c.close.ensures.rest))
    ∙ ap (λ z. got z c.close.new.self.rest.now) (sym (inline_view-TermReference g.row.S.Denot g.T.Texts.text c.in_ok-id.id c.in_ok-attribute.attribute (Some c.in_ok-arguments.arguments)))

pub get_variant-returns-clause-less : goal.get_variant-returns-clause-less
get_variant-returns-clause-less g t c =
    omega (arith, begun_shorter c.args.self.now.rest.now c.advance.new.self.rest.now w.open_bracket c.requires.bracket c.advance.ensures.rest, c.get_variant_key.ensures.advances.onward, c.get_pattern.ensures.advances.onward)

pub get_call_arguments-loop-self-init : goal.get_call_arguments-loop-self-init
get_call_arguments-loop-self-init g t c =
    let skipped = c.skip_blank.ensures.rest ∙ ap skip_blank c.advance.ensures.rest in
    record {
      text = c.skip_blank.ensures.advances.text ∙ c.advance.ensures.advances.text;
      stack = c.skip_blank.ensures.advances.stack ∙ c.advance.ensures.advances.stack;
      budget = c.skip_blank.ensures.advances.budget ∙ c.advance.ensures.advances.budget;
      onward = omega (arith, begun_shorter c.args.self.now.rest.now c.advance.new.self.rest.now w.open_paren c.requires.parenthesis c.advance.ensures.rest, c.skip_blank.ensures.advances.onward);
      same = arguments_start (inline_view g.row.S.Denot g.T.Texts.text) (named_view g.row.S.Denot g.T.Texts.text) c.new-positional.result.items c.new-named.result.all.items c.skip_blank.new.self.rest.now (skip_blank (drop 1 c.args.self.now.rest.now)) c.new-positional.ensures.items c.new-named.ensures.all skipped;
      indexed = c.new-named.ensures.indexed g.T.Texts.text;
      inner = arguments_inside (names_of (map (named_view g.row.S.Denot g.T.Texts.text) c.new-named.result.all.items)) c.skip_blank.new.self.rest.now c.args.self.now.rest.now
          (ap (λ (ns : List (NamedArgument g.row.S.Denot)). names_of (map (named_view g.row.S.Denot g.T.Texts.text) ns)) c.new-named.ensures.all) skipped;
    }

pub get_call_arguments-returns-then-is_empty-clause-gives : goal.get_call_arguments-returns-then-is_empty-clause-gives
get_call_arguments-returns-then-is_empty-clause-gives g t c =
    let empty = test_of (length c.loop-self.self.rest.now) 0 (sym (ap (λ (z : List ℕ). length z == 0) c.bytes.ensures.value) ∙ sym c.is_empty.ensures ∙ c.if-is_empty.true) in
    let refusal = ap (mapped (arguments_behind (map (inline_view g.row.S.Denot g.T.Texts.text) c.loop-self.positional.items) (map (named_view g.row.S.Denot g.T.Texts.text) c.loop-self.named.all.items))) (arguments_empty (names_of (map (named_view g.row.S.Denot g.T.Texts.text) c.loop-self.named.all.items)) c.loop-self.self.rest.now empty) in
    rw (← c.loop-self.invariant.same, refusal) (refl, refl)

pub get_call_arguments-returns-in_err-argument-clause-gives : goal.get_call_arguments-returns-in_err-argument-clause-gives
get_call_arguments-returns-in_err-argument-clause-gives g t c =
    let some = sym (ap (λ (z : List ℕ). length z == 0) c.bytes.ensures.value) ∙ sym c.is_empty.ensures ∙ c.if-is_empty.false in
    let more = sym c.is_current_byte.ensures ∙ c.loop-self-test.true in
    let e = c.in_err-argument.field-0.0 in
    let rest = c.get_argument.new.self.rest.now in
    let failed = c.in_err-argument.ensures.gives in
    handed_on (arguments_view g.row.S.Denot g.T.Texts.text) rest c.from_residual.result e (whole.arguments [] (skip_blank (drop 1 c.args.self.now.rest.now))) c.from_residual.ensures.1
    (arguments_fail (map (inline_view g.row.S.Denot g.T.Texts.text) c.loop-self.positional.items) (map (named_view g.row.S.Denot g.T.Texts.text) c.loop-self.named.all.items) c.loop-self.self.rest.now (skip_blank (drop 1 c.args.self.now.rest.now)) e rest c.loop-self.invariant.same (argument_fail (names_of (map (named_view g.row.S.Denot g.T.Texts.text) c.loop-self.named.all.items)) c.loop-self.self.rest.now e rest some more failed))

pub get_call_arguments-loop-self-preserved : goal.get_call_arguments-loop-self-preserved
get_call_arguments-loop-self-preserved g t c =
    let some = sym (ap (λ (z : List ℕ). length z == 0) c.bytes.ensures.value) ∙ sym c.is_empty.ensures ∙ c.if-is_empty.false in
    let more = sym c.is_current_byte.ensures ∙ c.loop-self-test.true in
    let rest = c.get_argument.new.self.rest.now in
    let behind = c.skip_separator.new.self.rest.now in
    let taken = c.in_ok-argument.ensures.gives in
    let same : mapped (arguments_behind (map (inline_view g.row.S.Denot g.T.Texts.text) c.match-branch-2.positional.items) (map (named_view g.row.S.Denot g.T.Texts.text) c.match-branch-2.named.all.items)) (whole.arguments (names_of (map (named_view g.row.S.Denot g.T.Texts.text) c.match-branch-2.named.all.items)) behind) ≡ whole.arguments [] (skip_blank (drop 1 c.args.self.now.rest.now)) =
    elim c.match-branch-2.branch [
      | get_call_arguments-in-Positional+in_ok-push-in-Positional w ↦
          let x = w.in-Positional.argument in
          arguments_same ((map (inline_view g.row.S.Denot g.T.Texts.text) c.loop-self.positional.items) ++ inline_view g.row.S.Denot g.T.Texts.text x ∷ []) (map (inline_view g.row.S.Denot g.T.Texts.text) c.match-branch-2.positional.items) (map (named_view g.row.S.Denot g.T.Texts.text) c.loop-self.named.all.items) (map (named_view g.row.S.Denot g.T.Texts.text) c.match-branch-2.named.all.items) behind (whole.arguments [] (skip_blank (drop 1 c.args.self.now.rest.now)))
          (ap (λ (v : Vec (InlineExpression g.row.S.Denot) Global). map (inline_view g.row.S.Denot g.T.Texts.text) v.items) w.positional-is ∙ pushed (inline_view g.row.S.Denot g.T.Texts.text) c.loop-self.positional.items w.push.new.self.items x w.in_ok-push-in-Positional.ensures.items)
          (ap (λ (v : NamedArguments g.row.S.Denot). map (named_view g.row.S.Denot g.T.Texts.text) v.all.items) w.named-is)
          (positional_read (map (inline_view g.row.S.Denot g.T.Texts.text) c.loop-self.positional.items) (map (named_view g.row.S.Denot g.T.Texts.text) c.loop-self.named.all.items) c.loop-self.self.rest.now (skip_blank (drop 1 c.args.self.now.rest.now)) rest behind (inline_view g.row.S.Denot g.T.Texts.text x) c.loop-self.invariant.same some more (taken ∙ ap (λ z. got (argument_view g.row.S.Denot g.T.Texts.text z) rest) w.in-Positional.is) c.skip_separator.ensures.rest)
      | get_call_arguments-in-Named+in_ok-push-in-Named w ↦
          let x = w.in-Named.argument in
          arguments_same (map (inline_view g.row.S.Denot g.T.Texts.text) c.loop-self.positional.items) (map (inline_view g.row.S.Denot g.T.Texts.text) c.match-branch-2.positional.items) ((map (named_view g.row.S.Denot g.T.Texts.text) c.loop-self.named.all.items) ++ named_view g.row.S.Denot g.T.Texts.text x ∷ []) (map (named_view g.row.S.Denot g.T.Texts.text) c.match-branch-2.named.all.items) behind (whole.arguments [] (skip_blank (drop 1 c.args.self.now.rest.now)))
          (ap (λ (v : Vec (InlineExpression g.row.S.Denot) Global). map (inline_view g.row.S.Denot g.T.Texts.text) v.items) w.positional-is)
          (ap (λ (v : NamedArguments g.row.S.Denot). map (named_view g.row.S.Denot g.T.Texts.text) v.all.items) w.named-is ∙ pushed (named_view g.row.S.Denot g.T.Texts.text) c.loop-self.named.all.items w.push-in-Named.new.self.all.items x w.in_ok-push-in-Named.ensures.all)
          (named_read (map (inline_view g.row.S.Denot g.T.Texts.text) c.loop-self.positional.items) (map (named_view g.row.S.Denot g.T.Texts.text) c.loop-self.named.all.items) c.loop-self.self.rest.now (skip_blank (drop 1 c.args.self.now.rest.now)) rest behind (named_view g.row.S.Denot g.T.Texts.text x) c.loop-self.invariant.same some more (taken ∙ ap (λ z. got (argument_view g.row.S.Denot g.T.Texts.text z) rest) w.in-Named.is) c.skip_separator.ensures.rest)
    ] in
    let indexed : IsIndexed g.row.S.Denot g.T.Texts.text c.match-branch-2.named =
    elim c.match-branch-2.branch [
      | get_call_arguments-in-Positional+in_ok-push-in-Positional w ↦ subst (IsIndexed g.row.S.Denot g.T.Texts.text) (sym w.named-is) c.loop-self.invariant.indexed
      | get_call_arguments-in-Named+in_ok-push-in-Named w ↦
          subst (IsIndexed g.row.S.Denot g.T.Texts.text) (sym w.named-is)
          (w.in_ok-push-in-Named.ensures.indexed g.T.Texts.text (subst (IsNamed g.row.S.Denot g.T.Texts.text) w.in-Named.is c.in_ok-argument.ensures.named) c.loop-self.invariant.indexed)
    ] in
    let names = names_of (map (named_view g.row.S.Denot g.T.Texts.text) c.loop-self.named.all.items) in
    let with : names_of (map (named_view g.row.S.Denot g.T.Texts.text) c.match-branch-2.named.all.items) ≡ names_with (argument_view g.row.S.Denot g.T.Texts.text c.in_ok-argument.field-0) names =
    elim c.match-branch-2.branch [
      | get_call_arguments-in-Positional+in_ok-push-in-Positional w ↦
          ap (λ (v : NamedArguments g.row.S.Denot). names_of (map (named_view g.row.S.Denot g.T.Texts.text) v.all.items)) w.named-is
          ∙ sym (ap (λ z. names_with (argument_view g.row.S.Denot g.T.Texts.text z) names) w.in-Positional.is)
      | get_call_arguments-in-Named+in_ok-push-in-Named w ↦
          ap (λ (v : NamedArguments g.row.S.Denot). names_of (map (named_view g.row.S.Denot g.T.Texts.text) v.all.items)) w.named-is
          ∙ ap names_of (pushed (named_view g.row.S.Denot g.T.Texts.text) c.loop-self.named.all.items w.push-in-Named.new.self.all.items w.in-Named.argument w.in_ok-push-in-Named.ensures.all)
          ∙ names_more (map (named_view g.row.S.Denot g.T.Texts.text) c.loop-self.named.all.items) (named_view g.row.S.Denot g.T.Texts.text w.in-Named.argument)
          ∙ sym (ap (λ z. names_with (argument_view g.row.S.Denot g.T.Texts.text z) names) w.in-Named.is)
    ] in
    record {
      text = c.skip_separator.ensures.advances.text ∙ c.get_argument.ensures.advances.text ∙ c.loop-self.invariant.text;
      stack = c.skip_separator.ensures.advances.stack ∙ c.in_ok-argument.ensures.advances.stack ∙ c.loop-self.invariant.stack;
      budget = c.skip_separator.ensures.advances.budget ∙ c.get_argument.ensures.advances.budget ∙ c.loop-self.invariant.budget;
      onward = omega (arith, c.skip_separator.ensures.advances.onward, c.get_argument.ensures.advances.onward, c.loop-self.invariant.onward);
      same = same;
      indexed = indexed;
      inner = arguments_later names (names_of (map (named_view g.row.S.Denot g.T.Texts.text) c.match-branch-2.named.all.items)) c.loop-self.self.rest.now rest behind c.args.self.now.rest.now (argument_view g.row.S.Denot g.T.Texts.text c.in_ok-argument.field-0)
          c.loop-self.invariant.inner taken c.skip_separator.ensures.rest with;
    }

pub get_call_arguments-returns-clause-gives : goal.get_call_arguments-returns-clause-gives
get_call_arguments-returns-clause-gives g t c =
    arguments_end (map (inline_view g.row.S.Denot g.T.Texts.text) c.loop-self.positional.items) (map (named_view g.row.S.Denot g.T.Texts.text) c.loop-self.named.all.items) c.loop-self.self.rest.now (skip_blank (drop 1 c.args.self.now.rest.now)) c.advance-2.new.self.rest.now c.loop-self.invariant.same (sym c.is_current_byte.ensures ∙ c.loop-self-test.false) c.advance-2.ensures.rest
    ∙ ap (λ (v : Vec (NamedArgument g.row.S.Denot) Global). got (tree.arguments (inlines_of (map (inline_view g.row.S.Denot g.T.Texts.text) c.loop-self.positional.items)) (nameds_of (map (named_view g.row.S.Denot g.T.Texts.text) v.items))) c.advance-2.new.self.rest.now) (sym c.into_all.ensures)
    ∙ ap (λ z. got z c.advance-2.new.self.rest.now) (sym (arguments_view-roll g.row.S.Denot g.T.Texts.text (record { positional = c.loop-self.positional; named = c.into_all.result })))

pub get_pattern-returns-in-Some-clause-gives : goal.get_pattern-returns-in-Some-clause-gives
get_pattern-returns-in-Some-clause-gives g t c =
    let here = c.one_line_len.ensures.stays.rest ∙ c.skip_blank_inline.ensures.rest in
    subst (Gives (option_map (pattern_view g.row.S.Denot g.T.Texts.text)) c.get_one_line.new.self.rest.now c.get_one_line.result) (pattern_is_behind c.args.self.now.rest.now c.one_line_len.new.self.rest.now here) c.get_one_line.ensures.gives

pub get_pattern-returns-clause-gives : goal.get_pattern-returns-clause-gives
get_pattern-returns-clause-gives g t c =
    let here = c.one_line_len.ensures.stays.rest ∙ c.skip_blank_inline.ensures.rest in
    subst (Gives (option_map (pattern_view g.row.S.Denot g.T.Texts.text)) c.get_lines.new.self.rest.now c.get_lines.result) (pattern_is_behind c.args.self.now.rest.now c.one_line_len.new.self.rest.now here) c.get_lines.ensures.gives

pub get_lines-loop-gathered-init : goal.get_lines-loop-gathered-init
get_lines-loop-gathered-init g t c =
    let u = c.args.self.now.rest.now in
    let same = nothing_read g.row.S.Denot g.T.Texts.text u c.get_plain_lines.new.self.rest.now _ c.in_default.is c.in_ok-pattern.ensures.gives in
    let text = c.skip_to_line-at_line_start.ensures.advances.text ∙ c.get_plain_lines.ensures.advances.text in
    let place = c.skip_to_line-at_line_start.ensures.place ∙ ap (λ (z : List ℕ). first_place z (w.after_line_end z)) same in
    record {
      text = text;
      stack = c.skip_to_line-at_line_start.ensures.advances.stack ∙ c.get_plain_lines.ensures.advances.stack;
      budget = c.skip_to_line-at_line_start.ensures.advances.budget ∙ c.get_plain_lines.ensures.advances.budget;
      onward = omega (arith, c.skip_to_line-at_line_start.ensures.advances.onward, c.get_plain_lines.ensures.advances.onward);
      gathers = gathers_none g.row.S.Denot g.T.Texts.text c.new-gathered.result c.skip_to_line-at_line_start.result c.skip_to_line-at_line_start.new.self.rest.now c.args.self.now.rest.now c.new-gathered.ensures.elements c.new-gathered.ensures.begins_line c.new-gathered.ensures.common_indent place;
      line_start = let rest = c.skip_to_line-at_line_start.new.self.rest.now in
          subst (λ (z : List ℕ). StartsLine c.skip_to_line-at_line_start.result z rest) (sym text)
          (first_starts c.skip_to_line-at_line_start.result c.args.self.now.text.now c.args.self.now.rest.now rest c.args.self.now.is_tail place);
      inner = pieces_inside c.skip_to_line-at_line_start.result c.args.self.now.rest.now c.skip_to_line-at_line_start.new.self.rest.now place;
    }

pub get_lines-returns-in_err-ends_line-clause-gives : goal.get_lines-returns-in_err-ends_line-clause-gives
get_lines-returns-in_err-ends_line-clause-gives g t c =
    let gathers = c.loop-gathered.invariant.gathers in
    handed_on (option_map (pattern_view g.row.S.Denot g.T.Texts.text)) c.get_piece.new.self.rest.now c.from_residual-in_err-ends_line.result c.in_err-ends_line.field-0.0 (pattern_behind c.args.self.now.rest.now) c.from_residual-in_err-ends_line.ensures.1
    (pattern_fails c.loop-gathered.self.rest.now c.args.self.now.rest.now c.loop-gathered.at_line_start gathers.pieces c.in_err-ends_line.field-0.0 c.get_piece.new.self.rest.now gathers.same
    (kept_fails c.loop-gathered.at_line_start c.loop-gathered.self.rest.now c.in_err-ends_line.field-0.0 c.get_piece.new.self.rest.now c.in_err-ends_line.ensures.gives))

pub get_lines-loop-gathered-preserved : goal.get_lines-loop-gathered-preserved
get_lines-loop-gathered-preserved g t c =
    let line = c.loop-gathered.at_line_start in
    let s = c.loop-gathered.self.rest.now in
    let rest = c.get_piece.new.self.rest.now in
    let gathered = c.loop-gathered.gathered in
    let put = piece_put g.row.S.Denot g.T.Texts.text gathered c.get_piece.new.gathered rest _ c.in-Some-2.ends_line (kept_piece_by line s) c.in-Some-2.is c.in_ok-ends_line.ensures.gives in
    record {
      text = c.get_piece.ensures.advances.text ∙ c.loop-gathered.invariant.text;
      stack = c.in_ok-ends_line.ensures.advances.stack ∙ c.loop-gathered.invariant.stack;
      budget = c.get_piece.ensures.advances.budget ∙ c.loop-gathered.invariant.budget;
      onward = omega (arith, c.get_piece.ensures.advances.onward, c.loop-gathered.invariant.onward);
      gathers = gathers_more g.row.S.Denot g.T.Texts.text gathered c.get_piece.new.gathered line c.in-Some-2.ends_line s rest c.args.self.now.rest.now c.loop-gathered.invariant.gathers put;
      line_start = subst (λ (z : List ℕ). StartsLine c.in-Some-2.ends_line z rest) (sym c.get_piece.ensures.advances.text)
          (piece_starts line c.loop-gathered.self.text.now s rest put.piece c.in-Some-2.ends_line c.loop-gathered.self.is_tail put.read_is);
      inner = pieces_later line c.in-Some-2.ends_line s rest c.args.self.now.rest.now put.piece c.loop-gathered.invariant.inner put.read_is;
    }

pub get_lines-returns-clause-gives : goal.get_lines-returns-clause-gives
get_lines-returns-clause-gives g t c =
    let line = c.loop-gathered.at_line_start in
    let s = c.loop-gathered.self.rest.now in
    let rest = c.get_piece.new.self.rest.now in
    let gathered = c.loop-gathered.gathered in
    let view = element_view g.row.S.Denot g.T.Texts.text in
    let end = no_piece g.row.S.Denot g.T.Texts.text gathered c.get_piece.new.gathered rest _ (kept_piece_by line s) c.in_default-2.is c.in_ok-ends_line.ensures.gives in
    gathers_all g.row.S.Denot g.T.Texts.text gathered line s rest c.args.self.now.rest.now c.loop-gathered.invariant.gathers end.0
    ∙ ap (λ z. got (value_by z.begins_line z.common_indent (map view z.elements.items)) rest) (sym end.1)
    ∙ ap (λ z. got z rest) (sym c.in_ok-pattern-2.ensures)

pub get_piece-returns-then-not-at_line_start-clause-gives : goal.get_piece-returns-then-not-at_line_start-clause-gives
get_piece-returns-then-not-at_line_start-clause-gives g t c =
    let s = c.args.self.now.rest.now in
    let put = c.get_piece_behind in
    let read = ap (λ (line : Bool). kept_piece_by line s) c.if-not-at_line_start.true ∙ kept_in_line s in
    subst (λ (r : Reading (Option (Piece × Bool))). GivesPiece g.row.S.Denot g.T.Texts.text c.args.gathered.now put.new.gathered put.new.self.rest.now put.result r) (sym read) put.ensures.gives

pub get_piece-returns-then-is_last_feed-clause-gives : goal.get_piece-returns-then-is_last_feed-clause-gives
get_piece-returns-then-is_last_feed-clause-gives g t c =
    let s = c.args.self.now.rest.now in
    let feed : is_last_feed s ≡ true = sym c.is_last_feed.ensures.value ∙ c.if-is_last_feed.true in (
      ap (λ (line : Bool). kept_piece_by line s) c.if-not-at_line_start.false ∙ kept_feed s feed ∙ ap (got None) (ap (drop 1) (sym c.is_last_feed.ensures.stays.rest) ∙ sym c.advance.ensures.rest),
      refl,
    )

pub get_piece-returns-then-row-clause-gives : goal.get_piece-returns-then-row-clause-gives
get_piece-returns-then-row-clause-gives g t c =
    let s = c.args.self.now.rest.now in
    let feed : is_last_feed s ≡ false = sym c.is_last_feed.ensures.value ∙ c.if-is_last_feed.false in
    let ends : pattern_ends s ≡ true = ap pattern_ends (sym c.is_last_feed.ensures.stays.rest) ∙ sym c.row-row.ensures.ends_pattern ∙ c.if-row.true in (
      ap (λ (line : Bool). kept_piece_by line s) c.if-not-at_line_start.false ∙ kept_end s feed ends ∙ ap (got None) (sym (c.row-row.ensures.stays.rest ∙ c.is_last_feed.ensures.stays.rest)),
      refl,
    )

pub get_piece-returns-clause-gives : goal.get_piece-returns-clause-gives
get_piece-returns-clause-gives g t c =
    let s = c.args.self.now.rest.now in
    let put = c.get_piece_behind-2 in
    let feed : is_last_feed s ≡ false = sym c.is_last_feed.ensures.value ∙ c.if-is_last_feed.false in
    let ends : pattern_ends s ≡ false = ap pattern_ends (sym c.is_last_feed.ensures.stays.rest) ∙ sym c.row-row.ensures.ends_pattern ∙ c.if-row.false in
    let same = c.row-row.ensures.stays.rest ∙ c.is_last_feed.ensures.stays.rest in
    let indent : c.row-row.result.spaces ≡ spaces s = c.row-row.ensures.spaces ∙ ap spaces c.is_last_feed.ensures.stays.rest in
    let read : kept_piece_by c.args.at_line_start s ≡ piece_behind true c.row-row.result.spaces (drop c.row-row.result.spaces c.row-row.new.self.rest.now) =
    ap (λ (line : Bool). kept_piece_by line s) c.if-not-at_line_start.false ∙ kept_at_line s feed ends
    ∙ ap (λ (n : ℕ). piece_behind true n (drop n s)) (sym indent) ∙ ap (λ (z : List ℕ). piece_behind true c.row-row.result.spaces (drop c.row-row.result.spaces z)) (sym same) in
    subst (λ (r : Reading (Option (Piece × Bool))). GivesPiece g.row.S.Denot g.T.Texts.text c.args.gathered.now put.new.gathered put.new.self.rest.now put.result r) (sym read) put.ensures.gives

pub get_piece_behind-advance-requires : goal.get_piece_behind-advance-requires
get_piece_behind-advance-requires g t c =
    cut_indent_at c.args.at_line_start c.args.self.now.rest.now c.args.indent c.requires.indent

pub get_piece_behind-advance-requires-then-begins_crlf : goal.get_piece_behind-advance-requires-then-begins_crlf
get_piece_behind-advance-requires-then-begins_crlf g t c =
    let behind = c.from-behind.ensures ∙ ap (drop c.args.indent) c.bytes.ensures.value in
    cut_behind_indent c.args.at_line_start c.args.self.now.rest.now c.from-behind.result.now c.args.indent 1 c.requires.indent behind (cut_crlf c.from-behind.result.now (sym c.begins_crlf.ensures ∙ c.if-begins_crlf.true))

pub get_piece_behind-take-requires : goal.get_piece_behind-take-requires
get_piece_behind-take-requires g t c =
    cut_line_feed c.args.self.now.rest.now c.from-behind.result.now c.advance-then-begins_crlf.new.self.rest.now c.args.indent (c.from-behind.ensures ∙ ap (drop c.args.indent) c.bytes.ensures.value) (sym c.begins_crlf.ensures ∙ c.if-begins_crlf.true) c.advance-then-begins_crlf.ensures.rest

pub get_piece_behind-returns-then-begins_with-clause-gives : goal.get_piece_behind-returns-then-begins_with-clause-gives
get_piece_behind-returns-then-begins_with-clause-gives g t c =
    let u = drop c.args.indent c.args.self.now.rest.now in
    let behind = c.from-behind.ensures ∙ ap (drop c.args.indent) c.bytes.ensures.value in
    let next = ap (placeable_piece_by c.is_column_zero.result) c.advance-then-begins_with.ensures.rest
    ∙ placeable_next c.args.at_line_start c.is_column_zero.result c.args.indent u (ap (λ z. length z == 0) (sym behind) ∙ sym c.is_empty.ensures ∙ c.if-is_empty.false) (ap (begins_with w.open_brace) (sym behind) ∙ sym c.begins_with.ensures ∙ c.if-begins_with.true) c.is_column_zero.ensures in
    subst (λ (r : Reading (Option (Piece × Bool))). GivesPiece g.row.S.Denot g.T.Texts.text c.args.gathered.now c.get_placeable_piece.new.gathered c.get_placeable_piece.new.self.rest.now c.get_placeable_piece.result r) next c.get_placeable_piece.ensures.gives

pub get_piece_behind-returns-in_ok-push-clause-gives : goal.get_piece_behind-returns-in_ok-push-clause-gives
get_piece_behind-returns-in_ok-push-clause-gives g t c =
    let behind = c.from-behind.ensures ∙ ap (drop c.args.indent) c.bytes.ensures.value in
    feed_put g.row.S.Denot g.T.Texts.text c.args.gathered.now c.push.new.self c.take.new.self.rest.now c.in_ok-value.value (piece_behind c.args.at_line_start c.args.indent (drop c.args.indent c.args.self.now.rest.now))
    (line_feed_read c.args.self.now.rest.now c.from-behind.result.now c.advance-then-begins_crlf.new.self.rest.now c.take.new.self.rest.now (g.T.Texts.text c.in_ok-value.value) c.args.at_line_start c.args.indent behind
    (sym c.is_empty.ensures ∙ c.if-is_empty.false) (sym c.begins_with.ensures ∙ c.if-begins_with.false) (sym c.begins_crlf.ensures ∙ c.if-begins_crlf.true) c.advance-then-begins_crlf.ensures.rest c.in_ok-value.ensures.value c.take.ensures.rest)
    (record { elements = c.in_ok-push.ensures.elements; begins_line = c.push.ensures.begins_line; common_indent = c.push.ensures.common_indent })

pub get_variants-returns-then-has_default-clause-gives : goal.get_variants-returns-then-has_default-clause-gives
get_variants-returns-then-has_default-clause-gives g t c =
    variants_end (map (variant_view g.row.S.Denot g.T.Texts.text) c.loop-variants.variants.items) c.loop-variants.has_default c.in_ok-default.default c.loop-variants.self.rest.now c.args.self.now.rest.now c.take_default_mark.new.self.rest.now c.loop-variants.invariant.same c.in_ok-default.ensures.gives (sym c.is_current_byte.ensures ∙ c.if-not-is_current_byte.true) c.if-has_default.true

pub get_variants-returns-in_err-get_variant-clause-gives : goal.get_variants-returns-in_err-get_variant-clause-gives
get_variants-returns-in_err-get_variant-clause-gives g t c =
    let e = c.in_err-get_variant.field-0.0 in
    let rest = c.get_variant.new.self.rest.now in
    handed_on (λ (vs : Vec (Variant g.row.S.Denot) Global). variants_of (map (variant_view g.row.S.Denot g.T.Texts.text) vs.items)) rest c.from_residual-in_err-get_variant.result e (whole.variants false c.args.self.now.rest.now) c.from_residual-in_err-get_variant.ensures.1
    (variants_fail (map (variant_view g.row.S.Denot g.T.Texts.text) c.loop-variants.variants.items) c.loop-variants.has_default c.loop-variants.self.rest.now c.args.self.now.rest.now e rest c.loop-variants.invariant.same
    (variant_fails c.loop-variants.has_default c.in_ok-default.default c.loop-variants.self.rest.now c.take_default_mark.new.self.rest.now e rest c.in_ok-default.ensures.gives (sym c.is_current_byte.ensures ∙ c.if-not-is_current_byte.false) c.in_err-get_variant.ensures.gives))

pub get_variants-loop-variants-preserved : goal.get_variants-loop-variants-preserved
get_variants-loop-variants-preserved g t c =
    let x = variant_view g.row.S.Denot g.T.Texts.text c.in_ok-get_variant.field-0 in
    let items = pushed (variant_view g.row.S.Denot g.T.Texts.text) c.loop-variants.variants.items c.push.new.self.items c.in_ok-get_variant.field-0 c.in_ok-push.ensures.items in
    record {
      text = c.skip_blank.ensures.advances.text ∙ c.get_variant.ensures.advances.text ∙ c.take_default_mark.ensures.advances.text ∙ c.loop-variants.invariant.text;
      stack = c.skip_blank.ensures.advances.stack ∙ c.in_ok-get_variant.ensures.advances.stack ∙ c.take_default_mark.ensures.advances.stack ∙ c.loop-variants.invariant.stack;
      budget = c.skip_blank.ensures.advances.budget ∙ c.get_variant.ensures.advances.budget ∙ c.take_default_mark.ensures.advances.budget ∙ c.loop-variants.invariant.budget;
      onward = omega (arith, c.skip_blank.ensures.advances.onward, c.get_variant.ensures.less, c.take_default_mark.ensures.advances.onward, c.loop-variants.invariant.onward);
      same = variants_same ((map (variant_view g.row.S.Denot g.T.Texts.text) c.loop-variants.variants.items) ++ x ∷ []) (map (variant_view g.row.S.Denot g.T.Texts.text) c.push.new.self.items) (c.loop-variants.has_default || c.in_ok-default.default) c.skip_blank.new.self.rest.now (whole.variants false c.args.self.now.rest.now) items
          (variants_read (map (variant_view g.row.S.Denot g.T.Texts.text) c.loop-variants.variants.items) c.loop-variants.has_default c.in_ok-default.default c.loop-variants.self.rest.now c.args.self.now.rest.now c.take_default_mark.new.self.rest.now c.get_variant.new.self.rest.now c.skip_blank.new.self.rest.now x c.loop-variants.invariant.same c.in_ok-default.ensures.gives (sym c.is_current_byte.ensures ∙ c.if-not-is_current_byte.false) c.in_ok-get_variant.ensures.gives c.skip_blank.ensures.rest);
      inner = variants_later c.loop-variants.has_default c.in_ok-default.default c.loop-variants.self.rest.now c.take_default_mark.new.self.rest.now c.get_variant.new.self.rest.now c.skip_blank.new.self.rest.now c.args.self.now.rest.now x
          c.loop-variants.invariant.inner c.in_ok-default.ensures.gives (sym c.is_current_byte.ensures ∙ c.if-not-is_current_byte.false) c.in_ok-get_variant.ensures.gives c.skip_blank.ensures.rest;
    }

pub get_variants-returns-in_err-default-clause-gives : goal.get_variants-returns-in_err-default-clause-gives
get_variants-returns-in_err-default-clause-gives g t c =
    let e = c.in_err-default.field-0.0 in
    handed_on (λ (vs : Vec (Variant g.row.S.Denot) Global). variants_of (map (variant_view g.row.S.Denot g.T.Texts.text) vs.items)) c.take_default_mark.new.self.rest.now c.from_residual.result e (whole.variants false c.args.self.now.rest.now) c.from_residual.ensures.1
    (variants_fail (map (variant_view g.row.S.Denot g.T.Texts.text) c.loop-variants.variants.items) c.loop-variants.has_default c.loop-variants.self.rest.now c.args.self.now.rest.now e c.take_default_mark.new.self.rest.now c.loop-variants.invariant.same (mark_fails c.loop-variants.has_default c.loop-variants.self.rest.now e c.take_default_mark.new.self.rest.now c.in_err-default.ensures.gives))

pub get_variants-returns-else-has_default-clause-gives : goal.get_variants-returns-else-has_default-clause-gives
get_variants-returns-else-has_default-clause-gives g t c =
    let refusal = ap (mapped (variants_behind (map (variant_view g.row.S.Denot g.T.Texts.text) c.loop-variants.variants.items))) (variants_refused c.loop-variants.has_default c.in_ok-default.default c.loop-variants.self.rest.now c.take_default_mark.new.self.rest.now c.in_ok-default.ensures.gives (sym c.is_current_byte.ensures ∙ c.if-not-is_current_byte.true) c.if-has_default.false) in
    rw (← c.loop-variants.invariant.same, refusal) (refl, refl)

pub get_argument-returns-in_err-argument-clause-gives : goal.get_argument-returns-in_err-argument-clause-gives
get_argument-returns-in_err-argument-clause-gives g t c =
    let e = c.in_err-argument.field-0.0 in
    handed_on (argument_view g.row.S.Denot g.T.Texts.text) c.get_inline_expression.new.self.rest.now c.from_residual.result e (argument_by (names_of (map (named_view g.row.S.Denot g.T.Texts.text) c.args.others.now.all.items)) c.args.self.now.rest.now) c.from_residual.ensures.1 (argument_fails (names_of (map (named_view g.row.S.Denot g.T.Texts.text) c.args.others.now.all.items)) c.args.self.now.rest.now e c.get_inline_expression.new.self.rest.now c.in_err-argument.ensures.gives)

pub get_argument-returns-then-not-is_current_byte-clause-less : goal.get_argument-returns-then-not-is_current_byte-clause-less
get_argument-returns-then-not-is_current_byte-clause-less g t c =
    on_ok_always c.positional_argument.result (inline_shorter c.args.self.now.rest.now c.get_inline_expression.new.self.rest.now (inline_view g.row.S.Denot g.T.Texts.text c.in_ok-argument.argument) c.in_ok-argument.ensures.gives)

pub get_argument-returns-then-not-is_current_byte-clause-gives : goal.get_argument-returns-then-not-is_current_byte-clause-gives
get_argument-returns-then-not-is_current_byte-clause-gives g t c =
    gives_same (argument_view g.row.S.Denot g.T.Texts.text) c.get_inline_expression.new.self.rest.now c.positional_argument.result (positional_by (names_of (map (named_view g.row.S.Denot g.T.Texts.text) c.args.others.now.all.items)) (inline_view g.row.S.Denot g.T.Texts.text c.in_ok-argument.argument) c.get_inline_expression.new.self.rest.now) (argument_by (names_of (map (named_view g.row.S.Denot g.T.Texts.text) c.args.others.now.all.items)) c.args.self.now.rest.now)
    (argument_not_named (names_of (map (named_view g.row.S.Denot g.T.Texts.text) c.args.others.now.all.items)) c.args.self.now.rest.now c.get_inline_expression.new.self.rest.now (inline_view g.row.S.Denot g.T.Texts.text c.in_ok-argument.argument) c.in_ok-argument.ensures.gives (sym c.is_current_byte.ensures ∙ c.if-not-is_current_byte.true)) c.positional_argument.ensures.gives

pub get_argument-returns-in_err-value-in-Ok-clause-gives : goal.get_argument-returns-in_err-value-in-Ok-clause-gives
get_argument-returns-in_err-value-in-Ok-clause-gives g t c =
    let name = name_of g.row.S.Denot g.T.Texts.text c.in-Ok.name in
    let one : tree.Inline → Argument = λ v. named (record { name = name; value = v }) in
    let is = argument_named (names_of (map (named_view g.row.S.Denot g.T.Texts.text) c.args.others.now.all.items)) c.args.self.now.rest.now c.get_inline_expression.new.self.rest.now (inline_view g.row.S.Denot g.T.Texts.text c.in_ok-argument.argument) name c.in_ok-argument.ensures.gives c.in-Ok.ensures (sym c.is_current_byte.ensures ∙ c.if-not-is_current_byte.false) in
    let given = c.identifier-given.ensures ∙ ap (λ (z : List ℕ). take (w.name_len z) z) c.rest-start.ensures ∙ name_begins c.args.self.now.rest.now name c.get_inline_expression.new.self.rest.now (inline_view g.row.S.Denot g.T.Texts.text c.in_ok-argument.argument) c.in_ok-argument.ensures.gives c.in-Ok.ensures in
    let value = ap (λ z. argument_value_at (names_of (map (named_view g.row.S.Denot g.T.Texts.text) c.args.others.now.all.items)) z c.get_inline_expression.new.self.rest.now) given in
    let e = c.in_err-value-in-Ok.field-0.0 in
    let rest = c.get_argument_value.new.self.rest.now in
    handed_on (argument_view g.row.S.Denot g.T.Texts.text) rest c.from_residual-in_err-value-in-Ok.result e (argument_by (names_of (map (named_view g.row.S.Denot g.T.Texts.text) c.args.others.now.all.items)) c.args.self.now.rest.now) c.from_residual-in_err-value-in-Ok.ensures.1
    (fails_same e rest (mapped one (argument_value_at (names_of (map (named_view g.row.S.Denot g.T.Texts.text) c.args.others.now.all.items)) name c.get_inline_expression.new.self.rest.now)) (argument_by (names_of (map (named_view g.row.S.Denot g.T.Texts.text) c.args.others.now.all.items)) c.args.self.now.rest.now) is (fails_mapped e rest one (argument_value_at (names_of (map (named_view g.row.S.Denot g.T.Texts.text) c.args.others.now.all.items)) name c.get_inline_expression.new.self.rest.now) (fails_same e rest _ _ value c.in_err-value-in-Ok.ensures.gives)))

pub get_argument-returns-in_ok-value-in-Ok-clause-less : goal.get_argument-returns-in_ok-value-in-Ok-clause-less
get_argument-returns-in_ok-value-in-Ok-clause-less g t c =
    omega (arith, inline_shorter c.args.self.now.rest.now c.get_inline_expression.new.self.rest.now (inline_view g.row.S.Denot g.T.Texts.text c.in_ok-argument.argument) c.in_ok-argument.ensures.gives, c.get_argument_value.ensures.advances.onward)

pub get_argument-returns-in_ok-value-in-Ok-clause-gives : goal.get_argument-returns-in_ok-value-in-Ok-clause-gives
get_argument-returns-in_ok-value-in-Ok-clause-gives g t c =
    let name = name_of g.row.S.Denot g.T.Texts.text c.in-Ok.name in
    let one : tree.Inline → Argument = λ v. named (record { name = name; value = v }) in
    let is = argument_named (names_of (map (named_view g.row.S.Denot g.T.Texts.text) c.args.others.now.all.items)) c.args.self.now.rest.now c.get_inline_expression.new.self.rest.now (inline_view g.row.S.Denot g.T.Texts.text c.in_ok-argument.argument) name c.in_ok-argument.ensures.gives c.in-Ok.ensures (sym c.is_current_byte.ensures ∙ c.if-not-is_current_byte.false) in
    let given = c.identifier-given.ensures ∙ ap (λ (z : List ℕ). take (w.name_len z) z) c.rest-start.ensures ∙ name_begins c.args.self.now.rest.now name c.get_inline_expression.new.self.rest.now (inline_view g.row.S.Denot g.T.Texts.text c.in_ok-argument.argument) c.in_ok-argument.ensures.gives c.in-Ok.ensures in
    let value = ap (λ z. argument_value_at (names_of (map (named_view g.row.S.Denot g.T.Texts.text) c.args.others.now.all.items)) z c.get_inline_expression.new.self.rest.now) given in
    let rest = c.get_argument_value.new.self.rest.now in
    sym is ∙ ap (mapped one) (sym value ∙ c.in_ok-value-in-Ok.ensures.gives) ∙ ap (λ z. got (named z) rest) (sym (named_view-roll g.row.S.Denot g.T.Texts.text (record { name = c.in-Ok.name; value = c.in_ok-value-in-Ok.value })))

pub get_argument-returns-in-Err-clause-less : goal.get_argument-returns-in-Err-clause-less
get_argument-returns-in-Err-clause-less g t c =
    on_ok_always c.positional_argument-in-Err.result (inline_shorter c.args.self.now.rest.now c.get_inline_expression.new.self.rest.now (inline_view g.row.S.Denot g.T.Texts.text c.in_ok-argument.argument) c.in_ok-argument.ensures.gives)

pub get_argument-returns-in-Err-clause-gives : goal.get_argument-returns-in-Err-clause-gives
get_argument-returns-in-Err-clause-gives g t c =
    gives_same (argument_view g.row.S.Denot g.T.Texts.text) c.get_inline_expression.new.self.rest.now c.positional_argument-in-Err.result (positional_by (names_of (map (named_view g.row.S.Denot g.T.Texts.text) c.args.others.now.all.items)) (inline_view g.row.S.Denot g.T.Texts.text c.in-Err.argument) c.get_inline_expression.new.self.rest.now) (argument_by (names_of (map (named_view g.row.S.Denot g.T.Texts.text) c.args.others.now.all.items)) c.args.self.now.rest.now)
    (ap (λ z. positional_by (names_of (map (named_view g.row.S.Denot g.T.Texts.text) c.args.others.now.all.items)) z c.get_inline_expression.new.self.rest.now) c.in-Err.ensures.0 ∙ argument_unnamed (names_of (map (named_view g.row.S.Denot g.T.Texts.text) c.args.others.now.all.items)) c.args.self.now.rest.now c.get_inline_expression.new.self.rest.now (inline_view g.row.S.Denot g.T.Texts.text c.in_ok-argument.argument) c.in_ok-argument.ensures.gives c.in-Err.ensures.1) c.positional_argument-in-Err.ensures.gives

pub get_argument-returns-in_ok-value-in-Ok-clause-named : goal.get_argument-returns-in_ok-value-in-Ok-clause-named
get_argument-returns-in_ok-value-in-Ok-clause-named g t c =
    let name = name_of g.row.S.Denot g.T.Texts.text c.in-Ok.name in
    let given = c.identifier-given.ensures ∙ ap (λ (z : List ℕ). take (w.name_len z) z) c.rest-start.ensures ∙ name_begins c.args.self.now.rest.now name c.get_inline_expression.new.self.rest.now (inline_view g.row.S.Denot g.T.Texts.text c.in_ok-argument.argument) c.in_ok-argument.ensures.gives c.in-Ok.ensures in
    let own : Named → List ℕ = λ n. n.name in
    ap own (named_view-roll g.row.S.Denot g.T.Texts.text (record { name = c.in-Ok.name; value = c.in_ok-value-in-Ok.value })) ∙ sym given

pub get_inline_expression-returns-then-begins_literal-clause-deep : goal.get_inline_expression-returns-then-begins_literal-clause-deep
get_inline_expression-returns-then-begins_literal-clause-deep g t c =
    shallow_deep c.get_literal.result (Past TakesInline c.args.self.now) c.get_literal.ensures.shallow

pub get_inline_expression-returns-then-begins_with-2-clause-deep : goal.get_inline_expression-returns-then-begins_with-2-clause-deep
get_inline_expression-returns-then-begins_with-2-clause-deep g t c =
    shallow_deep c.get_variable_reference.result (Past TakesInline c.args.self.now) c.get_variable_reference.ensures.shallow

pub get_inline_expression-returns-then-begins_with-3-clause-deep : goal.get_inline_expression-returns-then-begins_with-3-clause-deep
get_inline_expression-returns-then-begins_with-3-clause-deep g t c =
    deep_same c.get_nested_placeable.result (Past TakesPlaceable c.args.self.now) (Past TakesInline c.args.self.now) c.get_nested_placeable.ensures.deep (past_at TakesInline TakesPlaceable c.args.self.now c.args.self.now refl refl (λ n x. in_braces x))

pub get_nested_placeable-returns-in_err-selector-clause-deep : goal.get_nested_placeable-returns-in_err-selector-clause-deep
get_nested_placeable-returns-in_err-selector-clause-deep g t c =
    search (
      rules,
      deep_map c.in_err-selector.field-0.0 (Past TakesInline c.open_placeable.new.self) (Past TakesPlaceable c.args.self.now) c.in_err-selector.ensures.deep
          (past_by TakesPlaceable TakesInline c.args.self.now c.open_placeable.new.self PLACEABLE c.in_ok-open_placeable.ensures.opened c.open_placeable.ensures.budget
          (expression_inside c.args.self.now.rest.now c.open_placeable.new.self.rest.now c.requires.brace c.open_placeable.ensures.rest)),
    )

pub get_nested_placeable-returns-in-Err-clause-deep : goal.get_nested_placeable-returns-in-Err-clause-deep
get_nested_placeable-returns-in-Err-clause-deep g t c =
    deep_map _ _ (Past TakesPlaceable c.args.self.now) c.in-Err.ensures.deep
    (past_by TakesPlaceable TakesSelectAfter c.args.self.now c.get_inline_expression.new.self PLACEABLE (c.in_ok-selector.ensures.advances.stack ∙ c.in_ok-open_placeable.ensures.opened) (c.get_inline_expression.ensures.advances.budget ∙ c.open_placeable.ensures.budget)
    (select_inside c.args.self.now.rest.now c.open_placeable.new.self.rest.now c.get_inline_expression.new.self.rest.now (inline_view g.row.S.Denot g.T.Texts.text c.in_ok-selector.selector) c.requires.brace c.open_placeable.ensures.rest c.in_ok-selector.ensures.gives))

pub get_placeable_piece-returns-in_err-selector-clause-deep : goal.get_placeable_piece-returns-in_err-selector-clause-deep
get_placeable_piece-returns-in_err-selector-clause-deep g t c =
    search (
      rules,
      deep_map c.in_err-selector.field-0.0 (Past TakesInline c.open_placeable.new.self) (Past TakesPlaceable c.args.self.now) c.in_err-selector.ensures.deep
          (past_by TakesPlaceable TakesInline c.args.self.now c.open_placeable.new.self PLACEABLE c.in_ok-open_placeable.ensures.opened c.open_placeable.ensures.budget
          (expression_inside c.args.self.now.rest.now c.open_placeable.new.self.rest.now c.requires.brace c.open_placeable.ensures.rest)),
    )

pub get_placeable_piece-returns-in-Err-clause-deep : goal.get_placeable_piece-returns-in-Err-clause-deep
get_placeable_piece-returns-in-Err-clause-deep g t c =
    deep_map _ _ (Past TakesPlaceable c.args.self.now) c.in-Err.ensures.deep
    (past_by TakesPlaceable TakesSelectAfter c.args.self.now c.get_inline_expression.new.self PLACEABLE (c.in_ok-selector.ensures.advances.stack ∙ c.in_ok-open_placeable.ensures.opened) (c.get_inline_expression.ensures.advances.budget ∙ c.open_placeable.ensures.budget)
    (select_inside c.args.self.now.rest.now c.open_placeable.new.self.rest.now c.get_inline_expression.new.self.rest.now (inline_view g.row.S.Denot g.T.Texts.text c.in_ok-selector.selector) c.requires.brace c.open_placeable.ensures.rest c.in_ok-selector.ensures.gives))

pub get_nested_placeable-returns-in-Ok-clause-deep : goal.get_nested_placeable-returns-in-Ok-clause-deep
get_nested_placeable-returns-in-Ok-clause-deep g t c =
    shallow_deep c.close_nested_placeable.result (Past TakesPlaceable c.args.self.now) c.close_nested_placeable.ensures.shallow

pub get_placeable_piece-returns-in-Ok-clause-deep : goal.get_placeable_piece-returns-in-Ok-clause-deep
get_placeable_piece-returns-in-Ok-clause-deep g t c =
    shallow_deep c.close_placeable_piece.result (Past TakesPlaceable c.args.self.now) c.close_placeable_piece.ensures.shallow

pub get_variants_of-returns-then-not-begins_arrow-clause-deep : goal.get_variants_of-returns-then-not-begins_arrow-clause-deep
get_variants_of-returns-then-not-begins_arrow-clause-deep g t c =
    shallow_deep c.no_variants.result (Past TakesSelectAfter c.args.self.now) c.no_variants.ensures.shallow

pub get_variants_of-returns-in_err-variants-clause-deep : goal.get_variants_of-returns-in_err-variants-clause-deep
get_variants_of-returns-in_err-variants-clause-deep g t c =
    search (
      rules,
      deep_map c.in_err-variants.field-0.0 (Past TakesSelect c.skip_blank.new.self) (Past TakesSelectAfter c.args.self.now) c.in_err-variants.ensures.deep
          (past_at TakesSelectAfter TakesSelect c.args.self.now c.skip_blank.new.self c.skip_blank.ensures.advances.stack c.skip_blank.ensures.advances.budget (λ n x. subst (λ (z : List ℕ). TakesSelect z n) c.skip_blank.ensures.rest x)),
    )

pub get_select_variants-returns-in_err-open-clause-deep : goal.get_select_variants-returns-in_err-open-clause-deep
get_select_variants-returns-in_err-open-clause-deep g t c =
    search (
      rules,
      deep_of c.in_err-open.field-0.0
          (past_opening TakesSelect c.args.self.now c.skip_blank.new.self SELECT (c.skip_blank.ensures.advances.stack ∙ c.skip_eol.ensures.advances.stack ∙ c.skip_blank_inline.ensures.advances.stack ∙ c.advance.ensures.advances.stack) (c.skip_blank.ensures.advances.budget ∙ c.skip_eol.ensures.advances.budget ∙ c.skip_blank_inline.ensures.advances.budget ∙ c.advance.ensures.advances.budget)
          (select_opened c.args.self.now.rest.now c.skip_blank_inline.new.self.rest.now c.skip_eol.new.self.rest.now c.requires.arrow (c.skip_blank_inline.ensures.rest ∙ ap w.skip_spaces c.advance.ensures.rest) (line_ended (w.after_line_end c.skip_blank_inline.new.self.rest.now) c.skip_blank_inline.new.self.rest.now c.skip_eol.new.self.rest.now c.skip_eol.result c.skip_eol.ensures.value c.if-not-skip_eol.false c.skip_eol.ensures.rest)) c.in_err-open.ensures.past),
    )

pub get_select_variants-returns-in_err-variants-clause-deep : goal.get_select_variants-returns-in_err-variants-clause-deep
get_select_variants-returns-in_err-variants-clause-deep g t c =
    search (
      rules,
      deep_map c.in_err-variants.field-0.0 (Past (TakesVariants false) c.open.new.self) (Past TakesSelect c.args.self.now) c.in_err-variants.ensures.deep
          (past_by TakesSelect (TakesVariants false) c.args.self.now c.open.new.self SELECT (c.in_ok-open.ensures.opened ∙ ap (λ z. z + SELECT) (c.skip_blank.ensures.advances.stack ∙ c.skip_eol.ensures.advances.stack ∙ c.skip_blank_inline.ensures.advances.stack ∙ c.advance.ensures.advances.stack)) (c.open.ensures.budget ∙ (c.skip_blank.ensures.advances.budget ∙ c.skip_eol.ensures.advances.budget ∙ c.skip_blank_inline.ensures.advances.budget ∙ c.advance.ensures.advances.budget))
          (variants_inside c.args.self.now.rest.now c.skip_blank_inline.new.self.rest.now c.skip_eol.new.self.rest.now c.open.new.self.rest.now c.requires.arrow (c.skip_blank_inline.ensures.rest ∙ ap w.skip_spaces c.advance.ensures.rest) (line_ended (w.after_line_end c.skip_blank_inline.new.self.rest.now) c.skip_blank_inline.new.self.rest.now c.skip_eol.new.self.rest.now c.skip_eol.result c.skip_eol.ensures.value c.if-not-skip_eol.false c.skip_eol.ensures.rest) (c.open.ensures.rest ∙ c.skip_blank.ensures.rest))),
    )

pub get_term_reference-returns-in_err-id-clause-deep : goal.get_term_reference-returns-in_err-id-clause-deep
get_term_reference-returns-in_err-id-clause-deep g t c =
    search (rules, deep_none c.in_err-id.field-0.0 (Past TakesInline c.args.self.now) c.in_err-id.ensures.shallow)

pub get_named_reference-returns-in_err-id-clause-deep : goal.get_named_reference-returns-in_err-id-clause-deep
get_named_reference-returns-in_err-id-clause-deep g t c =
    search (rules, deep_none c.in_err-id.field-0.0 (Past TakesInline c.args.self.now) c.in_err-id.ensures.shallow)

pub get_term_reference-returns-in_err-attribute-clause-deep : goal.get_term_reference-returns-in_err-attribute-clause-deep
get_term_reference-returns-in_err-attribute-clause-deep g t c =
    search (rules, deep_none c.in_err-attribute.field-0.0 (Past TakesInline c.args.self.now) c.in_err-attribute.ensures.shallow)

pub get_named_reference-returns-in_err-attribute-clause-deep : goal.get_named_reference-returns-in_err-attribute-clause-deep
get_named_reference-returns-in_err-attribute-clause-deep g t c =
    search (rules, deep_none c.in_err-attribute.field-0.0 (Past TakesInline c.args.self.now) c.in_err-attribute.ensures.shallow)

pub get_named_reference-returns-in_err-open-clause-deep : goal.get_named_reference-returns-in_err-open-clause-deep
get_named_reference-returns-in_err-open-clause-deep g t c =
    search (
      rules,
      deep_of c.in_err-open.field-0.0
          (past_opening TakesInline c.args.self.now c.skip_blank.new.self CALL (c.skip_blank.ensures.advances.stack ∙ c.get_identifier.ensures.advances.stack) (c.skip_blank.ensures.advances.budget ∙ c.get_identifier.ensures.advances.budget)
          (function_opens c.args.self.now.rest.now c.get_identifier.new.self.rest.now c.skip_blank.new.self.rest.now (name_of g.row.S.Denot g.T.Texts.text c.in_ok-id.id) c.in_ok-id.ensures.gives c.skip_blank.ensures.rest (sym c.is_current_byte.ensures ∙ c.if-not-is_current_byte.false)) c.in_err-open.ensures.past),
    )

pub get_named_reference-returns-in_err-arguments-clause-deep : goal.get_named_reference-returns-in_err-arguments-clause-deep
get_named_reference-returns-in_err-arguments-clause-deep g t c =
    search (
      rules,
      deep_map c.in_err-arguments.field-0.0 (Past TakesAfterParenthesis c.open.new.self) (Past TakesInline c.args.self.now) c.in_err-arguments.ensures.deep
          (past_by TakesInline TakesAfterParenthesis c.args.self.now c.open.new.self CALL (c.in_ok-open.ensures.opened ∙ ap (λ z. z + CALL) (c.skip_blank.ensures.advances.stack ∙ c.get_identifier.ensures.advances.stack)) (c.open.ensures.budget ∙ (c.skip_blank.ensures.advances.budget ∙ c.get_identifier.ensures.advances.budget))
          (function_inside c.args.self.now.rest.now c.get_identifier.new.self.rest.now c.skip_blank.new.self.rest.now c.open.new.self.rest.now (name_of g.row.S.Denot g.T.Texts.text c.in_ok-id.id) c.in_ok-id.ensures.gives c.skip_blank.ensures.rest (sym c.is_current_byte.ensures ∙ c.if-not-is_current_byte.false) c.open.ensures.rest)),
    )

pub get_term_reference-returns-in_err-open-clause-deep : goal.get_term_reference-returns-in_err-open-clause-deep
get_term_reference-returns-in_err-open-clause-deep g t c =
    search (
      rules,
      deep_of c.in_err-open.field-0.0
          (past_opening TakesInline c.args.self.now c.skip_blank.new.self CALL (c.skip_blank.ensures.advances.stack ∙ c.get_attribute_accessor.ensures.advances.stack ∙ c.get_identifier.ensures.advances.stack ∙ c.advance.ensures.advances.stack) (c.skip_blank.ensures.advances.budget ∙ c.get_attribute_accessor.ensures.advances.budget ∙ c.get_identifier.ensures.advances.budget ∙ c.advance.ensures.advances.budget)
          (term_opens c.args.self.now.rest.now c.advance.new.self.rest.now c.get_identifier.new.self.rest.now c.get_attribute_accessor.new.self.rest.now c.skip_blank.new.self.rest.now (name_of g.row.S.Denot g.T.Texts.text c.in_ok-id.id) (option_map (name_of g.row.S.Denot g.T.Texts.text) c.in_ok-attribute.attribute) c.requires.minus c.advance.ensures.rest c.in_ok-id.ensures.gives c.in_ok-attribute.ensures.gives c.skip_blank.ensures.rest (sym c.is_current_byte.ensures ∙ c.if-not-is_current_byte.false)) c.in_err-open.ensures.past),
    )

pub get_term_reference-returns-in_err-arguments-clause-deep : goal.get_term_reference-returns-in_err-arguments-clause-deep
get_term_reference-returns-in_err-arguments-clause-deep g t c =
    search (
      rules,
      deep_map c.in_err-arguments.field-0.0 (Past TakesAfterParenthesis c.open.new.self) (Past TakesInline c.args.self.now) c.in_err-arguments.ensures.deep
          (past_by TakesInline TakesAfterParenthesis c.args.self.now c.open.new.self CALL (c.in_ok-open.ensures.opened ∙ ap (λ z. z + CALL) (c.skip_blank.ensures.advances.stack ∙ c.get_attribute_accessor.ensures.advances.stack ∙ c.get_identifier.ensures.advances.stack ∙ c.advance.ensures.advances.stack)) (c.open.ensures.budget ∙ (c.skip_blank.ensures.advances.budget ∙ c.get_attribute_accessor.ensures.advances.budget ∙ c.get_identifier.ensures.advances.budget ∙ c.advance.ensures.advances.budget))
          (term_inside c.args.self.now.rest.now c.advance.new.self.rest.now c.get_identifier.new.self.rest.now c.get_attribute_accessor.new.self.rest.now c.skip_blank.new.self.rest.now c.open.new.self.rest.now (name_of g.row.S.Denot g.T.Texts.text c.in_ok-id.id) (option_map (name_of g.row.S.Denot g.T.Texts.text) c.in_ok-attribute.attribute) c.requires.minus c.advance.ensures.rest c.in_ok-id.ensures.gives c.in_ok-attribute.ensures.gives c.skip_blank.ensures.rest (sym c.is_current_byte.ensures ∙ c.if-not-is_current_byte.false) c.open.ensures.rest)),
    )

pub get_call_arguments-returns-in_err-argument-clause-deep : goal.get_call_arguments-returns-in_err-argument-clause-deep
get_call_arguments-returns-in_err-argument-clause-deep g t c =
    search (
      rules,
      deep_map c.in_err-argument.field-0.0 (Past TakesInline c.loop-self.self) (Past TakesAfterParenthesis c.args.self.now) c.in_err-argument.ensures.deep
          (past_at TakesAfterParenthesis TakesInline c.args.self.now c.loop-self.self c.loop-self.invariant.stack c.loop-self.invariant.budget (λ n x. c.loop-self.invariant.inner n (this_argument x))),
    )

pub get_argument-returns-then-not-is_current_byte-clause-deep : goal.get_argument-returns-then-not-is_current_byte-clause-deep
get_argument-returns-then-not-is_current_byte-clause-deep g t c =
    shallow_deep c.positional_argument.result (Past TakesInline c.args.self.now) c.positional_argument.ensures.shallow

pub get_argument-returns-in-Err-clause-deep : goal.get_argument-returns-in-Err-clause-deep
get_argument-returns-in-Err-clause-deep g t c =
    shallow_deep c.positional_argument-in-Err.result (Past TakesInline c.args.self.now) c.positional_argument-in-Err.ensures.shallow

pub get_argument-returns-in_err-value-in-Ok-clause-deep : goal.get_argument-returns-in_err-value-in-Ok-clause-deep
get_argument-returns-in_err-value-in-Ok-clause-deep g t c =
    search (rules, deep_none c.in_err-value-in-Ok.field-0.0 (Past TakesInline c.args.self.now) c.in_err-value-in-Ok.ensures.shallow)

pub get_pattern-returns-in-Some-clause-deep : goal.get_pattern-returns-in-Some-clause-deep
get_pattern-returns-in-Some-clause-deep g t c =
    shallow_deep c.get_one_line.result (Past TakesPattern c.args.self.now) c.get_one_line.ensures.shallow

pub get_pattern-returns-clause-deep : goal.get_pattern-returns-clause-deep
get_pattern-returns-clause-deep g t c =
    deep_same c.get_lines.result (Past TakesLines c.one_line_len.new.self) (Past TakesPattern c.args.self.now) c.get_lines.ensures.deep
    (past_at TakesPattern TakesLines c.args.self.now c.one_line_len.new.self (c.one_line_len.ensures.stays.stack ∙ c.skip_blank_inline.ensures.advances.stack) (c.one_line_len.ensures.stays.budget ∙ c.skip_blank_inline.ensures.advances.budget)
    (lines_inside c.args.self.now.rest.now c.one_line_len.new.self.rest.now (c.one_line_len.ensures.stays.rest ∙ c.skip_blank_inline.ensures.rest)))

pub get_lines-returns-in_err-pattern-clause-deep : goal.get_lines-returns-in_err-pattern-clause-deep
get_lines-returns-in_err-pattern-clause-deep g t c =
    search (rules, deep_none c.in_err-pattern.field-0.0 (Past TakesLines c.args.self.now) c.in_err-pattern.ensures.shallow)

pub get_lines-returns-in_err-ends_line-clause-deep : goal.get_lines-returns-in_err-ends_line-clause-deep
get_lines-returns-in_err-ends_line-clause-deep g t c =
    search (
      rules,
      deep_map c.in_err-ends_line.field-0.0 (Past (TakesPieces c.loop-gathered.at_line_start) c.loop-gathered.self) (Past TakesLines c.args.self.now) c.in_err-ends_line.ensures.deep
          (past_at TakesLines (TakesPieces c.loop-gathered.at_line_start) c.args.self.now c.loop-gathered.self c.loop-gathered.invariant.stack c.loop-gathered.invariant.budget c.loop-gathered.invariant.inner),
    )

pub get_piece-returns-then-not-at_line_start-clause-deep : goal.get_piece-returns-then-not-at_line_start-clause-deep
get_piece-returns-then-not-at_line_start-clause-deep g t c =
    subst (λ (b : Bool). IfTooDeep c.get_piece_behind.result (Past (TakesPieces b) c.args.self.now)) (sym c.if-not-at_line_start.true) c.get_piece_behind.ensures.deep

pub get_piece-returns-clause-deep : goal.get_piece-returns-clause-deep
get_piece-returns-clause-deep g t c =
    subst (λ (b : Bool). IfTooDeep c.get_piece_behind-2.result (Past (TakesPieces b) c.args.self.now)) (sym c.if-not-at_line_start.false)
    (deep_same c.get_piece_behind-2.result (Past (TakesPieces true) c.row-row.new.self) (Past (TakesPieces true) c.args.self.now) c.get_piece_behind-2.ensures.deep
    (past_at (TakesPieces true) (TakesPieces true) c.args.self.now c.row-row.new.self (c.row-row.ensures.stays.stack ∙ c.is_last_feed.ensures.stays.stack) (c.row-row.ensures.stays.budget ∙ c.is_last_feed.ensures.stays.budget)
    (λ n x. subst (λ (z : List ℕ). TakesPieces true z n) (c.row-row.ensures.stays.rest ∙ c.is_last_feed.ensures.stays.rest) x)))

pub get_piece_behind-returns-then-begins_with-clause-deep : goal.get_piece_behind-returns-then-begins_with-clause-deep
get_piece_behind-returns-then-begins_with-clause-deep g t c =
    deep_same c.get_placeable_piece.result (Past TakesPlaceable c.advance-then-begins_with.new.self) (Past (TakesPieces c.args.at_line_start) c.args.self.now) c.get_placeable_piece.ensures.deep
    (past_at (TakesPieces c.args.at_line_start) TakesPlaceable c.args.self.now c.advance-then-begins_with.new.self c.advance-then-begins_with.ensures.advances.stack c.advance-then-begins_with.ensures.advances.budget
    (piece_inside c.args.at_line_start c.args.self.now.rest.now c.advance-then-begins_with.new.self.rest.now c.args.indent c.requires.indent c.advance-then-begins_with.ensures.rest))

pub get_piece_behind-returns-else-begins_crlf-clause-deep : goal.get_piece_behind-returns-else-begins_crlf-clause-deep
get_piece_behind-returns-else-begins_crlf-clause-deep g t c =
    shallow_deep c.get_text_piece.result (Past (TakesPieces c.args.at_line_start) c.args.self.now) c.get_text_piece.ensures.shallow

pub get_variants-returns-in_err-default-clause-deep : goal.get_variants-returns-in_err-default-clause-deep
get_variants-returns-in_err-default-clause-deep g t c =
    search (rules, deep_none c.in_err-default.field-0.0 (Past (TakesVariants false) c.args.self.now) c.in_err-default.ensures.shallow)

pub get_variants-returns-in_err-get_variant-clause-deep : goal.get_variants-returns-in_err-get_variant-clause-deep
get_variants-returns-in_err-get_variant-clause-deep g t c =
    search (
      rules,
      deep_map c.in_err-get_variant.field-0.0 (Past TakesVariant c.take_default_mark.new.self) (Past (TakesVariants false) c.args.self.now) c.in_err-get_variant.ensures.deep
          (past_at (TakesVariants false) TakesVariant c.args.self.now c.take_default_mark.new.self (c.take_default_mark.ensures.advances.stack ∙ c.loop-variants.invariant.stack) (c.take_default_mark.ensures.advances.budget ∙ c.loop-variants.invariant.budget)
          (variant_inside c.loop-variants.has_default c.in_ok-default.default c.loop-variants.self.rest.now c.take_default_mark.new.self.rest.now c.args.self.now.rest.now c.loop-variants.invariant.inner c.in_ok-default.ensures.gives)),
    )

pub get_variant-returns-in_err-key-clause-deep : goal.get_variant-returns-in_err-key-clause-deep
get_variant-returns-in_err-key-clause-deep g t c =
    search (rules, deep_none c.in_err-key.field-0.0 (Past TakesVariant c.args.self.now) c.in_err-key.ensures.shallow)

pub get_variant-returns-in_err-value-clause-deep : goal.get_variant-returns-in_err-value-clause-deep
get_variant-returns-in_err-value-clause-deep g t c =
    search (
      rules,
      deep_map c.in_err-value.field-0.0 (Past TakesPattern c.get_variant_key.new.self) (Past TakesVariant c.args.self.now) c.in_err-value.ensures.deep
          (past_at TakesVariant TakesPattern c.args.self.now c.get_variant_key.new.self (c.get_variant_key.ensures.advances.stack ∙ c.advance.ensures.advances.stack) (c.get_variant_key.ensures.advances.budget ∙ c.advance.ensures.advances.budget)
          (value_inside c.args.self.now.rest.now c.advance.new.self.rest.now c.get_variant_key.new.self.rest.now (key_of g.row.S.Denot g.T.Texts.text c.in_ok-key.key) c.requires.bracket c.advance.ensures.rest c.in_ok-key.ensures.gives)),
    )
