-- Readers that take at least one byte where they give a node: what is left after the node is an end of the text after
-- its first byte.
use Rattle.std.proofs.Common.{◌≡◌, ℕ, suc, ◌+◌, Bool, true, false, cond, ◌&&◌, List, [], ◌∷◌, length, drop, refl, arith}
use Rattle.std.specs.Prelude.{◌==◌, nat_le}
use Rattle.std.specs.List.{prefix_len}
use Rattle.fluent_grammar.specs.Words.{Text, line_feed, carriage_return, hyphen, open_brace, close_brace, number_sign, begins, begins_with, begins_crlf, is_letter, is_digit, is_name_byte, name_len, skip_spaces, comment_level}
use Rattle.fluent_grammar.specs.Refusal.{Kind, Reading, got, refused, refuse, mapped, ◌>>=◌}
use Rattle.fluent_grammar.specs.Ends.{EndsIn}
use Rattle.fluent_grammar.specs.Reading as g
use Rattle.fluent_grammar.specs.Reading.{Readers, identifier_at, digits_at, number_at, text_run}
use Rattle.fluent_grammar.proofs.Within.{Fair, FairReaders, ends, end-same, end-trans, end-drop, end-cons, end-tail, end-le, fairs, identifier-fair, digits-fair, fraction-fair, number-fair, string-fair, literal-fair, accessor-fair, called-fair, inline-fair, placeable-fair, term-fair, select_or_inline-fair, closing-fair, argument-fair, read_pattern-fair, attribute_of-fair, message_of-fair, attributes-end, term_of-fair, head-fair, comment_line-fair, comment_lines-end, text_run-fair}

abbrev LeavesParts : {A : Type 0} → Reading A → Text → Type 0
LeavesParts (got a rest) w = EndsIn rest w
LeavesParts (refused fault) w = Unit {0}

-- where a node is got, what is left is an end of this text
pub record Leaves {A : Type 0} (x : Reading A) (w : Text) : Type 0 where
  pub parts : LeavesParts x w

pub leaves-got : {A : Type 0} (a : A) {rest w : Text} → EndsIn rest w → Leaves (got a rest) w
leaves-got a h = record { parts = h }

pub leaves-refuse : {A : Type 0} (kind : Kind) (at w : Text) → Leaves {A = A} (refuse kind at) w
leaves-refuse kind at w = record { parts = tt }

pub leaves-if : {A : Type 0} (b : Bool) {x y : Reading A} {w : Text} → (b ≡ true → Leaves x w) → (b ≡ false → Leaves y w) → Leaves (cond b x y) w
leaves-if true p q = p refl
leaves-if false p q = q refl

pub leaves-bind : {A B : Type 0} (x : Reading A) (f : A × Text → Reading B) (w : Text) → Leaves x w → ((a : A) (rest : Text) → EndsIn rest w → Leaves (f (a, rest)) w) → Leaves (x >>= f) w
leaves-bind (got a rest) f w p q = q a rest p.parts
leaves-bind (refused fault) f w p q = record { parts = tt }

pub leaves-mapped : {A B : Type 0} (f : A → B) (x : Reading A) (w : Text) → Leaves x w → Leaves (mapped f x) w
leaves-mapped f (got a rest) w p = record { parts = p.parts }
leaves-mapped f (refused fault) w p = record { parts = tt }

pub leaves-fair : {A : Type 0} (x : Reading A) (w : Text) → Fair x w → Leaves x w
leaves-fair (got a rest) w p = record { parts = p.parts }
leaves-fair (refused fault) w p = record { parts = tt }

pub ruleset leaves = (leaves-got, leaves-refuse, leaves-if, leaves-bind, leaves-mapped, ends)

pub one-plus : (n : ℕ) → 1 + n ≡ suc n
one-plus n = omega arith

pub name-end : (s : Text) {w : Text} → begins is_letter s ≡ true → EndsIn (drop 1 s) w → EndsIn (drop (name_len s) s) w
name-end [] e h = absurd cc
name-end (c ∷ cs) e h = rw (e, one-plus) (end-drop (prefix_len is_name_byte cs) h)

digits-end : (s : Text) {w : Text} → begins is_digit s ≡ true → EndsIn (drop 1 s) w → EndsIn (drop (prefix_len is_digit s) s) w
digits-end [] e h = absurd cc
digits-end (c ∷ cs) e h = rw (e, one-plus) (end-drop (prefix_len is_digit cs) h)

pub identifier-leaves : (s : Text) {w : Text} → EndsIn (drop 1 s) w → Leaves (identifier_at s) w
unfolding identifier_at
identifier-leaves s h = search (leaves, name-end) depth 9

pub digits-leaves : (s : Text) {w : Text} → EndsIn (drop 1 s) w → Leaves (digits_at s) w
unfolding digits_at
digits-leaves s h = search (leaves, digits-end) depth 9

signed-end : (s : Text) {w : Text} → EndsIn (drop 1 s) w → EndsIn (drop 1 (cond (begins_with hyphen s) (drop 1 s) s)) w
signed-end s {w} h = elim (begins_with hyphen s) as (λ b. EndsIn (drop 1 (cond b (drop 1 s) s)) w) [ true ↦ end-drop 1 h | false ↦ h ]

pub number-leaves : (s : Text) {w : Text} → EndsIn (drop 1 s) w → Leaves (number_at s) w
unfolding number_at
number-leaves s h = leaves-bind _ _ _ (digits-leaves _ (signed-end s h)) (λ a rest k. leaves-fair _ _ (fraction-fair s k))

pub text_run-leaves : (s : Text) {w : Text} → (length s == 0) ≡ false → begins_with open_brace s ≡ false → begins_crlf s ≡ false → EndsIn (drop 1 s) w → Leaves (text_run s) w
unfolding text_run
text_run-leaves [] some brace crlf h = absurd cc
text_run-leaves (c ∷ cs) some brace crlf h =
    leaves-if (c == open_brace) (λ (e : (c == open_brace) ≡ true). absurd cc) (λ e1.
    leaves-if (c == close_brace) (λ e. leaves-refuse _ _ _) (λ e2.
    leaves-if (c == line_feed) (λ e. leaves-got _ h) (λ e3.
    leaves-if (c == carriage_return && begins_with line_feed cs) (λ (e : (c == carriage_return && begins_with line_feed cs) ≡ true). absurd cc) (λ e4. leaves-mapped _ _ _ (leaves-fair _ _ (text_run-fair cs h))))))

module _ (inside : Readers) (fair : FairReaders inside) where
  pub placeable-leaves : (s : Text) {w : Text} → EndsIn (drop 1 s) w → Leaves (g.placeable_at inside s) w
  unfolding g.placeable_at
  placeable-leaves s h = search (leaves, leaves-fair, fair.inline, select_or_inline-fair inside fair, closing-fair inside fair) depth 12

  pub named-leaves : (s : Text) {w : Text} → EndsIn (drop 1 s) w → Leaves (g.named_at inside s) w
  unfolding g.named_at
  named-leaves s h = search (leaves, leaves-fair, identifier-leaves, called-fair inside fair) depth 12

  pub inline-leaves : (s : Text) {w : Text} → EndsIn (drop 1 s) w → Leaves (g.inline_at inside s) w
  unfolding g.inline_at
  inline-leaves s h = search (leaves, leaves-fair, string-fair, number-leaves, identifier-fair, term-fair inside fair, named-leaves, placeable-leaves) depth 12

  pub argument_list-leaves : (names : List Text) (s : Text) {w : Text} → EndsIn (drop 1 s) w → Leaves (g.arguments_at inside names s) w
  unfolding g.arguments_at
  argument_list-leaves names s h = search (leaves, leaves-fair, inline-leaves, argument-fair inside fair) depth 12

pub attribute-leaves : (s : Text) {w : Text} → EndsIn (drop 1 (skip_spaces s)) w → Leaves (g.attribute_at s) w
unfolding g.attribute_at
attribute-leaves s h = search (leaves, leaves-fair, identifier-fair, read_pattern-fair, attribute_of-fair) depth 12

pub head-leaves : (s : Text) {w : Text} → EndsIn (drop 1 s) w → Leaves (g.head_at s) w
unfolding g.head_at
head-leaves s h = search (leaves, leaves-fair, identifier-leaves, read_pattern-fair) depth 12

pub message-leaves : (s : Text) {w : Text} → EndsIn (drop 1 s) w → Leaves (g.message_at s) w
unfolding g.message_at
message-leaves s h = search (leaves, leaves-fair, head-leaves, message_of-fair, attributes-end) depth 12

term_entry-leaves : (s : Text) {w : Text} → EndsIn (drop 1 s) w → Leaves (g.term_entry_at s) w
unfolding g.term_entry_at
term_entry-leaves s h = search (leaves, leaves-fair, head-fair, term_of-fair, attributes-end) depth 12

-- a sign at the front counts
level-one : (n : ℕ) (c : ℕ) (cs : Text) {w : Text} → EndsIn cs w → EndsIn (drop (cond (nat_le (suc n) 3) (suc n) 3) (c ∷ cs)) w
level-one n c cs {w} h = elim (nat_le (suc n) 3) as (λ b. EndsIn (drop (cond b (suc n) 3) (c ∷ cs)) w) [ true ↦ end-drop n h | false ↦ end-drop 2 h ]

pub level-end : (s : Text) {w : Text} → begins_with number_sign s ≡ true → EndsIn (drop 1 s) w → EndsIn (drop (comment_level s) s) w
level-end [] e h = absurd cc
level-end (c ∷ cs) e h = rw (e, one-plus) (level-one (prefix_len (λ d. d == number_sign) cs) c cs h)

pub comment-leaves : (s : Text) {w : Text} → begins_with number_sign s ≡ true → EndsIn (drop 1 s) w → Leaves (g.comment_at s) w
unfolding g.comment_at
comment-leaves s e h = search (leaves, leaves-fair, level-end, comment_line-fair, comment_lines-end) depth 12

pub entry-leaves : (s : Text) {w : Text} → EndsIn (drop 1 s) w → Leaves (g.entry_at s) w
unfolding g.entry_at
entry-leaves s h = search (leaves, leaves-fair, comment-leaves, term_entry-leaves, message-leaves) depth 12
