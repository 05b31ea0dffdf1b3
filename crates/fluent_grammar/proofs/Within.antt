-- What is left after a construct, or at a refusal, is an end of the text; and what a refusal says of its place is so.
use Rattle.std.proofs.Common.{◌≡◌, ℕ, zero, suc, ◌≤◌, Bool, true, false, cond, ◌&&◌, List, [], ◌∷◌, ◌++◌, length, take, drop, Option, Some, None, refl, sym, ap, ◌∙◌, append_assoc, append-nil, arith}
use Rattle.std.specs.Prelude.{◌==◌}
use Rattle.std.proofs.lemmas.List.{take-append-drop, length-append}
use Rattle.fluent_grammar.specs.Words.{Text, line_feed, carriage_return, dot, skip_blank, skip_spaces, skip_separator, skip_blank_block, blank_lines, spaces, after_line_end, begins_crlf, begins_with, rest_of_line, comment_level}
use Rattle.fluent_grammar.specs.Refusal.{Kind, Reading, got, refused, refuse, mapped, ◌>>=◌}
use Rattle.fluent_grammar.specs.Tree as t
use Rattle.fluent_grammar.specs.Lines.{Piece}
use Rattle.fluent_grammar.specs.Ends.{EndsIn, Told}
use Rattle.fluent_grammar.specs.Reading as g
use Rattle.fluent_grammar.specs.Reading.{Readers, readers, no_readers, step, identifier_at, digits_at, fraction_at, number_at, front, missing_hex, before, string_content, text_run, is_term_attribute, selector_fault, accessor_at, key_at, literal_at, name_of_argument}

-- the ends of a text
pub end-same : (s : Text) → EndsIn s s
end-same s = record { front = []; whole = refl }

pub end-trans : {a b c : Text} → EndsIn a b → EndsIn b c → EndsIn a c
end-trans {a} h k = record { front = k.front ++ h.front; whole = k.whole ∙ ap (λ x. k.front ++ x) h.whole ∙ sym (append_assoc k.front h.front a) }

pub end-drop : {s whole : Text} (n : ℕ) → EndsIn s whole → EndsIn (drop n s) whole
end-drop {s} n h = end-trans (record { front = take n s; whole = sym (take-append-drop n s) }) h

pub end-drop_one : {a b : Text} → EndsIn a b → EndsIn (drop 1 a) (drop 1 b)
end-drop_one {a} {b} h = drop_one a b h.front h.whole
  where
    drop_one : (a b front : Text) → b ≡ front ++ a → EndsIn (drop 1 a) (drop 1 b)
    drop_one a b [] e = rw e (end-same _)
    drop_one a b (c ∷ cs) e = rw e (end-trans (end-drop 1 (end-same a)) (record { front = cs; whole = refl }))

pub end-none : (s : Text) → EndsIn [] s
end-none s = record { front = s; whole = sym (append-nil s) }

pub end-cons : (c : ℕ) {a b : Text} → EndsIn a b → EndsIn a (c ∷ b)
end-cons c h = record { front = c ∷ h.front; whole = ap (λ x. c ∷ x) h.whole }

pub end-tail : {c : ℕ} {s whole : Text} → EndsIn (c ∷ s) whole → EndsIn s whole
end-tail h = end-trans (end-cons _ (end-same _)) h

pub end-if : (b : Bool) {x y s : Text} → EndsIn x s → EndsIn y s → EndsIn (cond b x y) s
end-if true p q = p
end-if false p q = q

pub end-le : {a b : Text} → EndsIn a b → length a ≤ length b
end-le {a} h = rw h.whole (omega (arith, length-append h.front a))

pub skip_blank-end : (s : Text) → EndsIn (skip_blank s) s
skip_blank-end [] = end-same []
skip_blank-end (c ∷ cs) = end-if _ (end-cons c (skip_blank-end cs)) (end-if _ (end-cons c (skip_blank-end cs)) (end-same _))

pub end-blank : {s whole : Text} → EndsIn s whole → EndsIn (skip_blank s) whole
end-blank h = end-trans (skip_blank-end _) h

pub end-spaces : {s whole : Text} → EndsIn s whole → EndsIn (skip_spaces s) whole
end-spaces {s} h = end-drop (spaces s) h

pub end-separator : {s whole : Text} → EndsIn s whole → EndsIn (skip_separator s) whole
end-separator h = end-blank (end-if _ (end-drop 1 (end-blank h)) (end-blank h))

pub blank_lines-end : (line s whole : Text) → EndsIn line whole → EndsIn s whole → EndsIn (blank_lines line s) whole
blank_lines-end line [] whole h k = h
blank_lines-end line (c ∷ cs) whole h k =
    let cs-end : EndsIn cs whole = end-trans (end-cons c (end-same cs)) k in
    end-if _ (blank_lines-end cs cs whole cs-end cs-end) (end-if _ (blank_lines-end line cs whole h cs-end) h)

pub end-blank_block : {s whole : Text} → EndsIn s whole → EndsIn (skip_blank_block s) whole
end-blank_block h = blank_lines-end _ _ _ h h

-- the text after a line end, where there is one
abbrev pub MaybeEnd : Option Text → Text → Type 0
MaybeEnd None s = Unit {0}
MaybeEnd (Some rest) s = EndsIn rest s

pub maybe-if : (b : Bool) (x y : Option Text) (s : Text) → MaybeEnd x s → MaybeEnd y s → MaybeEnd (cond b x y) s
maybe-if true x y s p q = p
maybe-if false x y s p q = q

pub line_end-end : (s : Text) → MaybeEnd (after_line_end s) s
line_end-end s = maybe-if (begins_with line_feed s) (Some (drop 1 s)) _ s (end-drop 1 (end-same s)) (maybe-if (begins_crlf s) (Some (drop 2 s)) None s (end-drop 2 (end-same s)) tt)

-- within, and what the refusal tells is so
abbrev pub FairParts : {A : Type 0} → Reading A → Text → Type 0
FairParts (got a rest) s = EndsIn rest s
FairParts (refused fault) s = EndsIn fault.at s × Told fault.kind fault.at

pub record Fair {A : Type 0} (x : Reading A) (s : Text) : Type 0 where
  pub parts : FairParts x s

pub fair-got : {A : Type 0} (a : A) {rest s : Text} → EndsIn rest s → Fair (got a rest) s
fair-got a h = record { parts = h }

pub fair-refuse : {A : Type 0} (kind : Kind) {at s : Text} → EndsIn at s → Told kind at → Fair {A = A} (refuse kind at) s
fair-refuse kind h told = record { parts = (h, told) }

pub fair-if : {A : Type 0} (b : Bool) {x y : Reading A} {s : Text} → (b ≡ true → Fair x s) → (b ≡ false → Fair y s) → Fair (cond b x y) s
fair-if true p q = p refl
fair-if false p q = q refl

pub fair-bind : {A B : Type 0} (x : Reading A) (f : A × Text → Reading B) (s : Text) → Fair x s → ((a : A) (rest : Text) → EndsIn rest s → Fair (f (a, rest)) s) → Fair (x >>= f) s
fair-bind (got a rest) f s p q = q a rest p.parts
fair-bind (refused fault) f s p q = record { parts = p.parts }

pub fair-mapped : {A B : Type 0} (f : A → B) (x : Reading A) (s : Text) → Fair x s → Fair (mapped f x) s
fair-mapped f (got a rest) s p = record { parts = p.parts }
fair-mapped f (refused fault) s p = record { parts = p.parts }

pub ruleset ends = (end-same, end-drop, end-none, end-if, end-blank, end-spaces, end-separator, end-blank_block)

pub ruleset fairs = (fair-got, fair-refuse, fair-if, fair-bind, fair-mapped, ends)

pub identifier-fair : {s whole : Text} → EndsIn s whole → Fair (identifier_at s) whole
unfolding identifier_at
identifier-fair h = search fairs depth 9

pub digits-fair : {s whole : Text} → EndsIn s whole → Fair (digits_at s) whole
unfolding digits_at
digits-fair h = search fairs depth 9

pub fraction-fair : (s : Text) {u whole : Text} → EndsIn u whole → Fair (fraction_at s u) whole
unfolding fraction_at
fraction-fair s h = search (fairs, digits-fair) depth 9

pub number-fair : {s whole : Text} → EndsIn s whole → Fair (number_at s) whole
unfolding number_at
number-fair h = search (fairs, digits-fair, fraction-fair) depth 9

pub missing_hex-fair : {A : Type 0} {s whole : Text} → EndsIn s whole → Fair (missing_hex {A = A} s) whole
unfolding missing_hex
missing_hex-fair h = search fairs depth 9

pub accessor-fair : {s whole : Text} → EndsIn s whole → Fair (accessor_at s) whole
unfolding accessor_at
accessor-fair h = search (fairs, identifier-fair) depth 9

pub key-fair : {s whole : Text} → EndsIn s whole → Fair (key_at s) whole
unfolding key_at
key-fair h = search (fairs, identifier-fair, number-fair) depth 9

pub string-fair : (s : Text) {whole : Text} → EndsIn s whole → Fair (string_content s) whole
unfolding string_content
string-fair [] h = search fairs depth 9
string-fair (c ∷ []) h = search fairs depth 9
string-fair (c ∷ d ∷ ds) h = search (fairs, missing_hex-fair, string-fair ds (end-tail (end-tail h)), string-fair (d ∷ ds) (end-tail h), end-tail h, end-tail (end-tail h)) depth 12

pub text_run-fair : (s : Text) {whole : Text} → EndsIn s whole → Fair (text_run s) whole
unfolding text_run
text_run-fair [] h = search fairs depth 9
text_run-fair (c ∷ cs) h = search (fairs, text_run-fair cs (end-tail h), end-tail h) depth 12

pub literal-fair : {s whole : Text} → EndsIn s whole → Fair (literal_at s) whole
unfolding literal_at
literal-fair h = search (fairs, string-fair, number-fair) depth 9

-- what a refusal of a selector tells
unfoldable pub ToldIfAny : Option Kind → Text → Type 0
ToldIfAny None at = Unit {0}
ToldIfAny (Some kind) at = Told kind at

pub selector-told : (e : t.Inline) (at : Text) → ToldIfAny (selector_fault e) at
unfolding ToldIfAny
selector-told (t.string_literal s) at = tt
selector-told (t.number_literal s) at = tt
selector-told (t.function_reference s a) at = tt
selector-told (t.message_reference s None) at = tt
selector-told (t.message_reference s (Some a)) at = tt
selector-told (t.term_reference s None c) at = tt
selector-told (t.term_reference s (Some a) c) at = tt
selector-told (t.variable_reference s) at = tt
selector-told (t.nested e) at = tt

pub record FairReaders (inside : Readers) : Type 0 where
  pub inline : {s whole : Text} → EndsIn s whole → Fair (inside.inline s) whole
  pub arguments : (names : List Text) {s whole : Text} → EndsIn s whole → Fair (inside.arguments names s) whole
  pub variants : (marked : Bool) {s whole : Text} → EndsIn s whole → Fair (inside.variants marked s) whole
  pub line : {s whole : Text} → EndsIn s whole → Fair (inside.line s) whole
  pub pieces : {s whole : Text} → EndsIn s whole → Fair (inside.pieces s) whole

module _ (inside : Readers) (fair : FairReaders inside) where
  pub variants_after-fair : (e : t.Inline) {s whole : Text} (o : Option Text) → EndsIn s whole → MaybeEnd o s → Fair (g.variants_after inside e s o) whole
  unfolding g.variants_after
  variants_after-fair e None h k = search fairs depth 9
  variants_after-fair e (Some rest) h k = fair-mapped _ _ _ (fair.variants false (end-blank (end-trans k h)))

  pub select-fair : (e : t.Inline) (o : Option Kind) {s whole : Text} → ToldIfAny o s → EndsIn s whole → Fair (g.select_at inside e o s) whole
  unfolding g.select_at ToldIfAny
  select-fair e None {s} told h = variants_after-fair e _ (end-spaces (end-drop 2 h)) (line_end-end (skip_spaces (drop 2 s)))
  select-fair e (Some kind) told h = fair-refuse kind h told

  pub select_or_inline-fair : (e : t.Inline) {s whole : Text} → EndsIn s whole → Fair (g.select_or_inline_at inside e s) whole
  unfolding g.select_or_inline_at
  select_or_inline-fair e {s} h = search (fairs, select-fair e (selector_fault e) (selector-told e s) h) depth 9

  pub closing-fair : (e : t.Expression) {s whole : Text} → EndsIn s whole → Fair (g.closing_at inside e s) whole
  unfolding g.closing_at
  closing-fair e h = search fairs depth 9

  pub placeable-fair : {s whole : Text} → EndsIn s whole → Fair (g.placeable_at inside s) whole
  unfolding g.placeable_at
  placeable-fair h = search (fairs, fair.inline, select_or_inline-fair, closing-fair) depth 12

  pub term_arguments-fair : (id : Text) (attr : Option Text) {s whole : Text} → EndsIn s whole → Fair (g.term_arguments_at inside id attr s) whole
  unfolding g.term_arguments_at
  term_arguments-fair id attr h = search (fairs, fair.arguments) depth 9

  pub term-fair : {s whole : Text} → EndsIn s whole → Fair (g.term_at inside s) whole
  unfolding g.term_at
  term-fair h = search (fairs, identifier-fair, accessor-fair, term_arguments-fair) depth 12

  pub function-fair : (id : Text) (args : t.Arguments) {s whole : Text} → EndsIn s whole → Fair (g.function_of inside id args s) whole
  unfolding g.function_of
  function-fair id args h = search fairs depth 9

  pub called-fair : (id : Text) {s whole : Text} → EndsIn s whole → Fair (g.called_at inside id s) whole
  unfolding g.called_at
  called-fair id h = search (fairs, fair.arguments, function-fair, accessor-fair) depth 12

  pub named-fair : {s whole : Text} → EndsIn s whole → Fair (g.named_at inside s) whole
  unfolding g.named_at
  named-fair h = search (fairs, identifier-fair, called-fair) depth 9

  pub inline-fair : {s whole : Text} → EndsIn s whole → Fair (g.inline_at inside s) whole
  unfolding g.inline_at
  inline-fair h = search (fairs, string-fair, number-fair, term-fair, identifier-fair, named-fair, placeable-fair) depth 12

  pub positional-fair : (names : List Text) (e : t.Inline) {s whole : Text} → EndsIn s whole → Fair (g.positional_at inside names e s) whole
  unfolding g.positional_at
  positional-fair [] e h = search (fairs, fair.arguments) depth 9
  positional-fair (name ∷ names) e h = search fairs depth 9

  pub named_value-fair : (names : List Text) (name : Text) {s whole : Text} → EndsIn s whole → Fair (g.named_value_at inside names name s) whole
  unfolding g.named_value_at
  named_value-fair names name h = search (fairs, literal-fair, fair.arguments) depth 12

  pub argument-fair : (names : List Text) (e : t.Inline) (o : Option Text) {s whole : Text} → EndsIn s whole → Fair (g.argument_at inside names e o s) whole
  unfolding g.argument_at
  argument-fair names e (Some name) h = search (fairs, named_value-fair, positional-fair) depth 9
  argument-fair names e None h = positional-fair names e h

  pub arguments-fair : (names : List Text) {s whole : Text} → EndsIn s whole → Fair (g.arguments_at inside names s) whole
  unfolding g.arguments_at
  arguments-fair names h = search (fairs, inline-fair, argument-fair) depth 12

  pub after_text-fair : (b : Bool) {s whole : Text} → EndsIn s whole → Fair (g.after_text_at inside b s) whole
  unfolding g.after_text_at
  after_text-fair true h = fair.line h
  after_text-fair false h = fair.pieces h

  pub placeable_piece-fair : (z : Bool) {s whole : Text} → EndsIn s whole → Fair (g.placeable_piece_at inside z s) whole
  unfolding g.placeable_piece_at
  placeable_piece-fair z h = search (fairs, placeable-fair, fair.pieces) depth 12

  pub text_piece-fair : (piece : Text → Piece) {s whole : Text} → EndsIn s whole → Fair (g.text_piece_at inside piece s) whole
  unfolding g.text_piece_at
  text_piece-fair piece h = search (fairs, text_run-fair, after_text-fair) depth 12

  pub pieces-fair : {s whole : Text} → EndsIn s whole → Fair (g.pieces_at inside s) whole
  unfolding g.pieces_at
  pieces-fair h = search (fairs, placeable_piece-fair, text_piece-fair, fair.line) depth 12

  pub line-fair : {s whole : Text} → EndsIn s whole → Fair (g.line_at inside s) whole
  unfolding g.line_at
  line-fair h = search (fairs, placeable_piece-fair, text_piece-fair, pieces-fair) depth 12

  pub first_pieces-fair : {s whole : Text} (o : Option Text) → EndsIn s whole → MaybeEnd o s → Fair (g.first_pieces_at inside s o) whole
  unfolding g.first_pieces_at
  first_pieces-fair None h k = pieces-fair h
  first_pieces-fair (Some rest) h k = line-fair (end-blank_block (end-trans k h))

  pub pattern-fair : {s whole : Text} → EndsIn s whole → Fair (g.pattern_at inside s) whole
  unfolding g.pattern_at
  pattern-fair {s} h = fair-mapped _ _ _ (first_pieces-fair _ (end-spaces h) (line_end-end (skip_spaces s)))

  pub variants_behind-fair : (default : Bool) (key : t.VariantKey) (marked : Bool) (value : t.Elements) {s whole : Text} → EndsIn s whole → Fair (g.variants_behind inside default key marked value s) whole
  unfolding g.variants_behind
  variants_behind-fair default key marked t.no_elements h = search fairs depth 9
  variants_behind-fair default key marked (t.text x es) h = search (fairs, fair.variants) depth 9
  variants_behind-fair default key marked (t.placeable x es) h = search (fairs, fair.variants) depth 9

  pub variant_value-fair : (default : Bool) (key : t.VariantKey) (marked : Bool) {s whole : Text} → EndsIn s whole → Fair (g.variant_value_at inside default key marked s) whole
  unfolding g.variant_value_at
  variant_value-fair default key marked h = search (fairs, pattern-fair, variants_behind-fair) depth 12

  pub variant-fair : (default marked : Bool) {s whole : Text} → EndsIn s whole → Fair (g.variant_at inside default marked s) whole
  unfolding g.variant_at
  variant-fair default marked h = search (fairs, key-fair, variant_value-fair) depth 12

  pub variant_or_end-fair : (default marked : Bool) {s whole : Text} → EndsIn s whole → Fair (g.variant_or_end_at inside default marked s) whole
  unfolding g.variant_or_end_at
  variant_or_end-fair default marked h = search (fairs, variant-fair) depth 9

  pub variants-fair : (marked : Bool) {s whole : Text} → EndsIn s whole → Fair (g.variants_at inside marked s) whole
  unfolding g.variants_at
  variants-fair marked h = search (fairs, variant_or_end-fair) depth 9

pub step-fair : (inside : Readers) → FairReaders inside → FairReaders (step inside)
step-fair inside fair = record {
  inline = λ h. inline-fair inside fair h;
  arguments = λ names h. arguments-fair inside fair names h;
  variants = λ marked h. variants-fair inside fair marked h;
  line = λ h. line-fair inside fair h;
  pieces = λ h. pieces-fair inside fair h;
}

pub readers-fair : (n : ℕ) → FairReaders (readers n)
readers-fair zero = record {
  inline = λ h. fair-refuse _ h tt;
  arguments = λ names h. fair-refuse _ h tt;
  variants = λ marked h. fair-refuse _ h tt;
  line = λ h. fair-refuse _ h tt;
  pieces = λ h. fair-refuse _ h tt;
}
readers-fair (suc n) = step-fair (readers n) (readers-fair n)

pub attribute_of-fair : (id : Text) (value : t.Elements) {s whole : Text} → EndsIn s whole → Fair (g.attribute_of id value s) whole
attribute_of-fair id t.no_elements h = search fairs depth 9
attribute_of-fair id (t.text x es) h = search fairs depth 9
attribute_of-fair id (t.placeable x es) h = search fairs depth 9

pub read_pattern-fair : (n : ℕ) {s whole : Text} → EndsIn s whole → Fair (g.pattern_at (readers n) s) whole
read_pattern-fair n h = pattern-fair (readers n) (readers-fair n) h

pub attribute-fair : {s whole : Text} → EndsIn s whole → Fair (g.attribute_at s) whole
unfolding g.attribute_at
attribute-fair h = search (fairs, identifier-fair, read_pattern-fair, attribute_of-fair) depth 12

pub more_attributes-end : (left : Text → List t.Attribute × Text) (s whole : Text) (x : Reading t.Attribute) → ((u : Text) → EndsIn u whole → EndsIn (left u).1 whole) →
    EndsIn s whole → Fair x whole → EndsIn (g.more_attributes left s x).1 whole
more_attributes-end left s whole (refused fault) ih h f = h
more_attributes-end left s whole (got a rest) ih h f = ih rest f.parts

pub attributes-end : (n : ℕ) {s whole : Text} → EndsIn s whole → EndsIn (g.attributes_at n s).1 whole
unfolding g.attributes_at
attributes-end zero h = h
attributes-end (suc n) {s} {whole} h = elim (begins_with dot (skip_spaces s)) as (λ b. EndsIn (cond b (g.more_attributes (g.attributes_at n) s (g.attribute_at s)) ([], s)).1 whole) [
  | true ↦ more_attributes-end _ _ _ _ (λ u k. attributes-end n k) h (attribute-fair h)
  | false ↦ h
]

pub head-fair : {s whole : Text} → EndsIn s whole → Fair (g.head_at s) whole
unfolding g.head_at
head-fair h = search (fairs, identifier-fair, read_pattern-fair) depth 12

pub message_of-fair : (id : Text) (value : Option t.Elements) (attributes : List t.Attribute) {s whole : Text} → EndsIn s whole → Fair (g.message_of id value attributes s) whole
message_of-fair id None [] h = search fairs depth 9
message_of-fair id None (a ∷ more) h = search fairs depth 9
message_of-fair id (Some v) attributes h = search fairs depth 9

pub term_of-fair : (id : Text) (value : Option t.Elements) (attributes : List t.Attribute) {s whole : Text} → EndsIn s whole → Fair (g.term_of id value attributes s) whole
term_of-fair id None attributes h = search fairs depth 9
term_of-fair id (Some v) attributes h = search fairs depth 9

pub message-fair : {s whole : Text} → EndsIn s whole → Fair (g.message_at s) whole
unfolding g.message_at
message-fair h = search (fairs, head-fair, message_of-fair, attributes-end) depth 12

pub term_entry-fair : {s whole : Text} → EndsIn s whole → Fair (g.term_entry_at s) whole
unfolding g.term_entry_at
term_entry-fair h = search (fairs, head-fair, term_of-fair, attributes-end) depth 12

pub end-if_pair : {A : Type 0} (b : Bool) (x y : A × Text) {whole : Text} → EndsIn x.1 whole → EndsIn y.1 whole → EndsIn (cond b x y).1 whole
end-if_pair true x y p q = p
end-if_pair false x y p q = q

pub rest_of_line-end : (s : Text) {whole : Text} → EndsIn s whole → EndsIn (rest_of_line s).1 whole
rest_of_line-end [] h = h
rest_of_line-end (c ∷ cs) h =
    end-if_pair (c == line_feed) ([], cs) _ (end-tail h)
    (end-if_pair (c == carriage_return && begins_with line_feed cs) ([], drop 1 cs) (c ∷ (rest_of_line cs).0, (rest_of_line cs).1) (end-drop 1 (end-tail h)) (rest_of_line-end cs (end-tail h)))

pub comment_line-fair : {s whole : Text} → EndsIn s whole → Fair (g.comment_line_at s) whole
unfolding g.comment_line_at
comment_line-fair h = search (fairs, rest_of_line-end) depth 9

pub more_lines-end : (left : Text → List Text × Text) (s whole : Text) (x : Reading (List Text)) → ((u : Text) → EndsIn u whole → EndsIn (left u).1 whole) →
    EndsIn s whole → Fair x whole → EndsIn (g.more_lines left s x).1 whole
more_lines-end left s whole (refused fault) ih h f = h
more_lines-end left s whole (got a rest) ih h f = ih rest f.parts

pub comment_lines-end : (n level : ℕ) {s whole : Text} → EndsIn s whole → EndsIn (g.comment_lines n level s).1 whole
unfolding g.comment_lines
comment_lines-end zero level h = h
comment_lines-end (suc n) level {s} {whole} h = elim (comment_level s == level) as (λ b. EndsIn (cond b (g.more_lines (g.comment_lines n level) s (g.comment_line_at (drop level s))) ([], s)).1 whole) [
  | true ↦ more_lines-end _ _ _ _ (λ u k. comment_lines-end n level k) h (comment_line-fair (end-drop level h))
  | false ↦ h
]

pub comment-fair : {s whole : Text} → EndsIn s whole → Fair (g.comment_at s) whole
unfolding g.comment_at
comment-fair h = search (fairs, comment_line-fair, comment_lines-end) depth 12

pub entry-fair : {s whole : Text} → EndsIn s whole → Fair (g.entry_at s) whole
unfolding g.entry_at
entry-fair h = search (fairs, comment-fair, term_entry-fair, message-fair) depth 9
