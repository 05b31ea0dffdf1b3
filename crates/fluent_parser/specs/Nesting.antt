-- How deep a source nests, in bytes of the machine's stack. What a text holds may stand open inside each other: placeables, the
-- arguments of calls and the variants of selects. Each takes so many bytes as long as it is open; what stands beside it, and is
-- closed, takes none. So a text takes so many bytes at some place of it, by what is open there. Each constructor says where the
-- next thing inside may begin: at once, or after things beside it that the grammar reads.
use Rattle.std.specs.Prelude.{◌≡◌, ℕ, ◌+◌, Bool, true, false, ◌||◌, List, [], drop, Option, Some}
use Rattle.fluent_grammar.specs.Words.{Text, begins_with, begins_arrow, equals, hyphen, open_brace, open_bracket, open_paren, skip_blank, skip_separator, skip_spaces, after_line_end}
use Rattle.fluent_grammar.specs.Lines.{Piece}
use Rattle.fluent_grammar.specs.Refusal.{got}
use Rattle.fluent_grammar.specs.Tree as t
use Rattle.fluent_grammar.specs.Reading.{identifier_at, accessor_at}
use Rattle.fluent_ast.specs.View.{Variant}
use Rattle.fluent_text.specs.declared.stack.reading.TheConstants.{PLACEABLE, CALL, SELECT}
use Rattle.fluent_parser.specs.Reads.{whole, key_in_brackets_at}
use Rattle.fluent_parser.specs.Steps.{Argument, argument_by, names_with, variant_by, default_mark_at, first_place, indent_at, kept_piece_by}

mutual
  -- an inline expression takes so many bytes at some place of it
  pub data TakesInline : Text → ℕ → Type 0 where
    in_braces : {s : Text} {n : ℕ} → TakesPlaceable s n → TakesInline s n
    in_call : {s u id : Text} {n : ℕ} → identifier_at s ≡ got id u → TakesCall (skip_blank u) n → TakesInline s n
    in_term : {s u v id : Text} {attribute : Option Text} {n : ℕ} → begins_with hyphen s ≡ true → identifier_at (drop 1 s) ≡ got id u →
        accessor_at u ≡ got attribute v → TakesCall (skip_blank v) n → TakesInline s n

  -- a placeable, from its opening brace on
  pub data TakesPlaceable : Text → ℕ → Type 0 where
    placeable_opens : {s : Text} → begins_with open_brace s ≡ true → TakesPlaceable s PLACEABLE
    in_expression : {s : Text} {n : ℕ} → begins_with open_brace s ≡ true → TakesInline (skip_blank (drop 1 s)) n → TakesPlaceable s (PLACEABLE + n)
    in_select : {s u : Text} {e : t.Inline} {n : ℕ} → begins_with open_brace s ≡ true → whole.inline (skip_blank (drop 1 s)) ≡ got e u →
        TakesSelect (skip_blank u) n → TakesPlaceable s (PLACEABLE + n)

  -- the arguments of a call, from the opening parenthesis on
  pub data TakesCall : Text → ℕ → Type 0 where
    call_opens : {s : Text} → begins_with open_paren s ≡ true → TakesCall s CALL
    in_arguments : {s : Text} {n : ℕ} → begins_with open_paren s ≡ true → TakesArguments [] (skip_blank (drop 1 s)) n → TakesCall s (CALL + n)

  -- what is left of arguments, after named ones of these names
  pub data TakesArguments : List Text → Text → ℕ → Type 0 where
    this_argument : {names : List Text} {s : Text} {n : ℕ} → TakesInline s n → TakesArguments names s n
    later_argument : {names : List Text} {s u : Text} {a : Argument} {n : ℕ} → argument_by names s ≡ got a u →
        TakesArguments (names_with a names) (skip_separator u) n → TakesArguments names s n

  -- a select, from its arrow on
  pub data TakesSelect : Text → ℕ → Type 0 where
    select_opens : {s u : Text} → begins_arrow s ≡ true → after_line_end (skip_spaces (drop 2 s)) ≡ Some u → TakesSelect s SELECT
    in_variants : {s u : Text} {n : ℕ} → begins_arrow s ≡ true → after_line_end (skip_spaces (drop 2 s)) ≡ Some u →
        TakesVariants false (skip_blank u) n → TakesSelect s (SELECT + n)

  -- the variants that are left, if the default was marked before, or not yet
  pub data TakesVariants : Bool → Text → ℕ → Type 0 where
    this_variant : {marked default : Bool} {s u : Text} {n : ℕ} → default_mark_at marked s ≡ got default u → TakesVariant u n → TakesVariants marked s n
    later_variant : {marked default : Bool} {s u v : Text} {one : Variant} {n : ℕ} → default_mark_at marked s ≡ got default u →
        begins_with open_bracket u ≡ true → variant_by default u ≡ got one v → TakesVariants (marked || default) (skip_blank v) n → TakesVariants marked s n

  -- a variant, from its opening bracket on
  pub data TakesVariant : Text → ℕ → Type 0 where
    in_value : {s u : Text} {key : t.VariantKey} {n : ℕ} → begins_with open_bracket s ≡ true → key_in_brackets_at (drop 1 s) ≡ got key u →
        TakesPattern u n → TakesVariant s n

  -- a pattern
  pub data TakesPattern : Text → ℕ → Type 0 where
    after_blank : {s : Text} {n : ℕ} → TakesLines (skip_spaces s) n → TakesPattern s n

  -- a pattern, after the blank before it
  pub data TakesLines : Text → ℕ → Type 0 where
    in_pieces : {s u : Text} {line : Bool} {n : ℕ} → (line, u) ≡ first_place s (after_line_end s) → TakesPieces line u n → TakesLines s n

  -- the pieces of a pattern that are left, at a line start or within a line
  pub data TakesPieces : Bool → Text → ℕ → Type 0 where
    this_piece : {line : Bool} {s : Text} {n : ℕ} → TakesPlaceable (drop (indent_at line s) s) n → TakesPieces line s n
    later_piece : {line next : Bool} {s u : Text} {p : Piece} {n : ℕ} → kept_piece_by line s ≡ got (Some (p, next)) u →
        TakesPieces next u n → TakesPieces line s n

-- a source: a pattern after an equals sign of it
pub data TakesSource : Text → ℕ → Type 0 where
  in_pattern : {s : Text} {n : ℕ} (place : ℕ) → begins_with equals (drop place s) ≡ true → TakesPattern (drop (place + 1) s) n → TakesSource s n
