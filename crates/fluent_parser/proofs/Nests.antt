-- Where the next thing stands that nests.
use Rattle.std.proofs.Common.{◌≡◌, ℕ, ◌+◌, Bool, true, false, ◌||◌, List, [], drop, sym, ap, subst, ◌∙◌, Option, Some, None}
use Rattle.std.specs.Prelude.{is_some, unwrap_or}
use Rattle.fluent_grammar.specs.Words.{Text, begins_with, begins_arrow, hyphen, open_brace, open_bracket, open_paren, skip_blank, skip_separator, skip_spaces, after_line_end}
use Rattle.fluent_grammar.specs.Lines.{Piece}
use Rattle.fluent_grammar.specs.Refusal.{got}
use Rattle.fluent_grammar.specs.Tree as t
use Rattle.fluent_grammar.specs.Reading.{identifier_at, accessor_at}
use Rattle.fluent_ast.specs.View.{Variant}
use Rattle.fluent_text.specs.declared.stack.reading.TheConstants.{PLACEABLE, CALL, SELECT}
use Rattle.fluent_parser.specs.Reads.{whole, key_in_brackets_at}
use Rattle.fluent_parser.specs.Steps.{Argument, argument_by, names_with, variant_by, default_mark_at, first_place, indent_at, kept_piece_by}
use Rattle.fluent_parser.specs.Nesting.{TakesInline, in_call, in_term, TakesPlaceable, in_expression, in_select, call_opens, in_arguments, TakesArguments, later_argument, TakesSelect, select_opens, in_variants, TakesVariants, this_variant, later_variant, TakesVariant, in_value, TakesPattern, after_blank, TakesLines, in_pieces, TakesPieces, this_piece, later_piece}
use Rattle.fluent_parser.specs.Depth.{TakesAfterParenthesis, TakesSelectAfter}

-- placeables
pub expression_inside : (s u : Text) → begins_with open_brace s ≡ true → u ≡ skip_blank (drop 1 s) → (n : ℕ) → TakesInline u n → TakesPlaceable s (PLACEABLE + n)
expression_inside s u b e n x = in_expression b (subst (λ (z : Text). TakesInline z n) e x)

pub select_inside : (s u v : Text) (e : t.Inline) → begins_with open_brace s ≡ true → u ≡ skip_blank (drop 1 s) → whole.inline u ≡ got e v → (n : ℕ) → TakesSelectAfter v n → TakesPlaceable s (PLACEABLE + n)
select_inside s u v e b h r n x = in_select b (ap whole.inline (sym h) ∙ r) x

-- calls
pub function_opens : (s u v id : Text) → identifier_at s ≡ got id u → v ≡ skip_blank u → begins_with open_paren v ≡ true → TakesInline s CALL
function_opens s u v id i e p = in_call i (call_opens (ap (begins_with open_paren) (sym e) ∙ p))

pub function_inside : (s u v x id : Text) → identifier_at s ≡ got id u → v ≡ skip_blank u → begins_with open_paren v ≡ true → x ≡ v → (n : ℕ) → TakesAfterParenthesis x n → TakesInline s (CALL + n)
function_inside s u v x id i e p q n y =
    in_call i (in_arguments (ap (begins_with open_paren) (sym e) ∙ p) (subst (λ (z : Text). TakesAfterParenthesis z n) (q ∙ e) y))

pub term_opens : (s a u v w id : Text) (attribute : Option Text) → begins_with hyphen s ≡ true → a ≡ drop 1 s → identifier_at a ≡ got id u → accessor_at u ≡ got attribute v → w ≡ skip_blank v →
    begins_with open_paren w ≡ true → TakesInline s CALL
term_opens s a u v w id attribute h f i j e p = in_term h (ap identifier_at (sym f) ∙ i) j (call_opens (ap (begins_with open_paren) (sym e) ∙ p))

pub term_inside : (s a u v w x id : Text) (attribute : Option Text) → begins_with hyphen s ≡ true → a ≡ drop 1 s → identifier_at a ≡ got id u → accessor_at u ≡ got attribute v → w ≡ skip_blank v →
    begins_with open_paren w ≡ true → x ≡ w → (n : ℕ) → TakesAfterParenthesis x n → TakesInline s (CALL + n)
term_inside s a u v w x id attribute h f i j e p q n y =
    in_term h (ap identifier_at (sym f) ∙ i) j (in_arguments (ap (begins_with open_paren) (sym e) ∙ p) (subst (λ (z : Text). TakesAfterParenthesis z n) (q ∙ e) y))

-- the arguments of a call
pub arguments_inside : (names : List Text) (s u : Text) → names ≡ [] → s ≡ skip_blank (drop 1 u) → (n : ℕ) → TakesArguments names s n → TakesAfterParenthesis u n
arguments_inside names s u e f n x = subst (λ (z : Text). TakesArguments [] z n) f (subst (λ (m : List Text). TakesArguments m s n) e x)

pub arguments_later : (names more : List Text) (s rest behind u : Text) (a : Argument) → ((n : ℕ) → TakesArguments names s n → TakesAfterParenthesis u n) → argument_by names s ≡ got a rest →
    behind ≡ skip_separator rest → more ≡ names_with a names → (n : ℕ) → TakesArguments more behind n → TakesAfterParenthesis u n
arguments_later names more s rest behind u a inner r b m n x =
    inner n (later_argument r (subst (λ (z : Text). TakesArguments (names_with a names) z n) b (subst (λ (k : List Text). TakesArguments k behind n) m x)))

-- selects
pub line_ended : (o : Option Text) (s rest : Text) (b : Bool) → b ≡ is_some o → b ≡ true → rest ≡ unwrap_or o s → o ≡ Some rest
line_ended None s rest b e t r = absurd cc
line_ended (Some x) s rest b e t r = ap Some (sym r)

pub select_opened : (s u v : Text) → begins_arrow s ≡ true → u ≡ skip_spaces (drop 2 s) → after_line_end u ≡ Some v → TakesSelect s SELECT
select_opened s u v a e l = select_opens a (ap after_line_end (sym e) ∙ l)

pub variants_inside : (s u v x : Text) → begins_arrow s ≡ true → u ≡ skip_spaces (drop 2 s) → after_line_end u ≡ Some v → x ≡ skip_blank v → (n : ℕ) → TakesVariants false x n → TakesSelect s (SELECT + n)
variants_inside s u v x a e l q n y = in_variants a (ap after_line_end (sym e) ∙ l) (subst (λ (z : Text). TakesVariants false z n) q y)

pub variant_inside : (marked default : Bool) (s u w : Text) → ((n : ℕ) → TakesVariants marked s n → TakesVariants false w n) → default_mark_at marked s ≡ got default u → (n : ℕ) → TakesVariant u n → TakesVariants false w n
variant_inside marked default s u w inner m n x = inner n (this_variant m x)

pub variants_later : (marked default : Bool) (s u v behind w : Text) (one : Variant) → ((n : ℕ) → TakesVariants marked s n → TakesVariants false w n) → default_mark_at marked s ≡ got default u →
    begins_with open_bracket u ≡ true → variant_by default u ≡ got one v → behind ≡ skip_blank v → (n : ℕ) → TakesVariants (marked || default) behind n → TakesVariants false w n
variants_later marked default s u v behind w one inner m b r e n x = inner n (later_variant m b r (subst (λ (z : Text). TakesVariants (marked || default) z n) e x))

pub value_inside : (s u v : Text) (key : t.VariantKey) → begins_with open_bracket s ≡ true → u ≡ drop 1 s → key_in_brackets_at u ≡ got key v → (n : ℕ) → TakesPattern v n → TakesVariant s n
value_inside s u v key b e k n x = in_value b (ap key_in_brackets_at (sym e) ∙ k) x

-- patterns
pub lines_inside : (s u : Text) → u ≡ skip_spaces s → (n : ℕ) → TakesLines u n → TakesPattern s n
lines_inside s u e n x = after_blank (subst (λ (z : Text). TakesLines z n) e x)

pub pieces_inside : (line : Bool) (s u : Text) → (line, u) ≡ first_place s (after_line_end s) → (n : ℕ) → TakesPieces line u n → TakesLines s n
pieces_inside line s u e n x = in_pieces e x

pub pieces_later : (line next : Bool) (s u w : Text) (p : Piece) → ((n : ℕ) → TakesPieces line s n → TakesLines w n) → kept_piece_by line s ≡ got (Some (p, next)) u → (n : ℕ) → TakesPieces next u n → TakesLines w n
pieces_later line next s u w p inner r n x = inner n (later_piece r x)

pub piece_inside : (line : Bool) (s u : Text) (indent : ℕ) → indent ≡ indent_at line s → u ≡ drop indent s → (n : ℕ) → TakesPlaceable u n → TakesPieces line s n
piece_inside line s u indent i e n x = this_piece (subst (λ (z : Text). TakesPlaceable z n) (e ∙ ap (λ (k : ℕ). drop k s) i) x)
