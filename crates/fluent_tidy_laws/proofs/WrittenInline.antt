-- What is written of a well-formed inline expression spells it, where what is written of selects does.
use Rattle.std.proofs.Common.{◌≡◌, ℕ, Bool, true, false, cond, not, ◌||◌, List, [], ◌∷◌, ◌++◌, drop, Option, Some, None, refl, sym, ap, ◌∙◌, ◌*◌, ◌+◌, arith, append_assoc, replicate, zero, suc}
use Rattle.std.specs.Prelude.{◌==◌, ◌≢◌}
use Rattle.std.proofs.lemmas.Bool.Decides.{nat_tests}
use Rattle.fluent_grammar.specs.Words.{Text, line_feed, space, carriage_return, quote, dollar, comma, dot, colon, hyphen, open_paren, close_paren, open_brace, close_brace, is_letter, is_digit, is_name_byte, begins, begins_with, begins_arrow, is_among, spaces, skip_spaces, skip_blank, skip_separator}
use Rattle.fluent_grammar.specs.Tree as t
use Rattle.fluent_grammar.specs.Lexical.{no_blank, SpellsName, SpellsAccessor, no_accessor, SpellsLiteral, a_string, a_number}
use Rattle.fluent_grammar.specs.Spelling.{IsPositional, SpellsInline, a_string_literal, a_number_literal, a_variable_reference, a_term_reference, a_message_reference, a_function_reference, a_placeable, SpellsMaybeArguments, no_call, a_call, SpellsArguments, no_more, positional, named, SpellsPlaceable, in_braces, SpellsExpression, an_inline, a_select}
use Rattle.fluent_grammar.specs.Written.{Sign, sign, indent, ends_line, laid_out, inline_signs, expression_signs, maybe_arguments_signs, arguments_signs, inlines_signs, nameds_signs, accessor_signs, has_positional}
use Rattle.fluent_grammar.proofs.BlankWords.{blank_sound, blank_complete}
use Rattle.fluent_grammar.proofs.Words.{number-begins}
use Rattle.fluent_grammar.specs.Lines.{goes_on_at_column_zero, ends_behind_spaces}
use Rattle.fluent_grammar.proofs.Cases.{cases}
use Rattle.fluent_grammar.proofs.Got.{same}
use Rattle.fluent_tidy_laws.proofs.MovingWords.{Over, over_here, blank-replicate}
use Rattle.fluent_tidy_laws.specs.WellFormed.{IsName, IsAttribute}
use Rattle.fluent_tidy_laws.proofs.WrittenSoFar.{Enclosed, WellFormedInline, WellFormedMaybe, WellFormedArguments, WellFormedInlines, WellFormedNameds, WellFormedLiteral, WellFormedExpression}
use Rattle.fluent_tidy_laws.proofs.WrittenWords.{Follows, name-written, name-line, accessor-written, number-written, number-line, string-written, raw-line}
use Rattle.fluent_grammar.proofs.Blanks.{skip_spaces-spaced}

-- ---- signs within a line

-- a sign that ends no line, and what is laid out after it
pub within : (level : ℕ) (s : Text) (more : List Sign) → ends_line false s ≡ false → laid_out false (sign level s ∷ more) ≡ s ++ laid_out false more
within level s more h = ap (λ b. s ++ laid_out b more) h

name-within : (level : ℕ) (name : Text) (more : List Sign) → IsName name → laid_out false (sign level name ∷ more) ≡ name ++ laid_out false more
name-within level name more n = within level name more (name-line name n.bytes)

-- an expression that is spelled by what is written, up to what follows, with the blank after it or not
pub record Spelled (e : t.Inline) (s rest : Text) : Type 0 where
  pub end : Text
  pub spells : SpellsInline e s end
  pub same : skip_blank end ≡ skip_blank rest
  pub is_positional : IsPositional e end

spelled-at : {e : t.Inline} {s u rest : Text} → s ≡ u → Spelled e u rest → Spelled e s rest
spelled-at h d = rw h d

pub blank-twice : (s : Text) → skip_blank (skip_blank s) ≡ skip_blank s
blank-twice s = let b = blank_sound s (skip_blank s) refl in
    blank_complete (skip_blank s) (skip_blank s) ([], record { split = refl; is_blank = no_blank; no_space = b.1.no_space; no_line_end = b.1.no_line_end })

-- what begins with a byte that isn't blank
no_blank-first : (c : ℕ) (s : Text) → (c == space || c == line_feed) ≡ false → (c == carriage_return) ≡ false → skip_blank (c ∷ s) ≡ c ∷ s
no_blank-first c s h k = rw (h, k) refl

separator-same : (s u : Text) → skip_blank s ≡ skip_blank u → skip_separator s ≡ skip_separator u
separator-same s u h = ap (λ z. skip_blank (cond (begins_with comma z) (drop 1 z) z)) h

-- what follows directly: a comma, a closing parenthesis, a closing brace
pub follows-comma : (s : Text) → Follows (comma ∷ s)
follows-comma s = record { no_name = refl; no_dot = refl; no_attribute = refl; no_call = refl; no_colon = refl }

pub follows-paren : (s : Text) → Follows (close_paren ∷ s)
follows-paren s = record { no_name = refl; no_dot = refl; no_attribute = refl; no_call = refl; no_colon = refl }

pub follows-brace : (s : Text) → Follows (close_brace ∷ s)
follows-brace s = record { no_name = refl; no_dot = refl; no_attribute = refl; no_call = refl; no_colon = refl }

pub follows-space_brace : (s : Text) → Follows (space ∷ close_brace ∷ s)
follows-space_brace s = record { no_name = refl; no_dot = refl; no_attribute = refl; no_call = refl; no_colon = refl }

-- ---- references

message-written : (name : Text) (attribute : Option Text) (level : ℕ) (more : List Sign) → IsName name → IsAttribute attribute → Follows (laid_out false more) →
    Spelled (t.message_reference name attribute) (laid_out false (sign level name ∷ (accessor_signs level attribute ++ more))) (laid_out false more)
message-written name None level more n a f = spelled-at (name-within level name more n) (record {
  end = skip_blank (laid_out false more);
  spells = a_message_reference (name-written name (laid_out false more) n f.no_name) f.no_call (no_accessor f.no_attribute);
  same = blank-twice (laid_out false more);
  is_positional = f.no_colon;
})
message-written name (Some attribute) level more n a f =
    spelled-at (name-within level name (sign level (dot ∷ []) ∷ sign level attribute ∷ more) n ∙ ap (λ z. name ++ (dot ∷ z)) (name-within level attribute more a)) (record {
      end = laid_out false more;
      spells = a_message_reference (name-written name (dot ∷ (attribute ++ laid_out false more)) n refl) refl (accessor-written attribute (laid_out false more) a f.no_name);
      same = refl;
      is_positional = tt;
    })

-- a term's name and attribute, before call arguments or what follows
term-accessor : (attribute : Option Text) (level : ℕ) (more : List Sign) → IsAttribute attribute → begins is_name_byte (laid_out false more) ≡ false → begins_with dot (laid_out false more) ≡ false →
    SpellsAccessor attribute (laid_out false (accessor_signs level attribute ++ more)) (laid_out false more)
term-accessor None level more a h k = no_accessor k
term-accessor (Some attribute) level more a h k = rw (name-within level attribute more a) (accessor-written attribute (laid_out false more) a h)

accessor-no_name : (attribute : Option Text) (level : ℕ) (more : List Sign) → begins is_name_byte (laid_out false more) ≡ false → begins is_name_byte (laid_out false (accessor_signs level attribute ++ more)) ≡ false
accessor-no_name None level more h = h
accessor-no_name (Some attribute) level more h = refl

-- ---- what is spelled begins with no blank

pub letter-no_blank : (s : Text) → begins is_letter s ≡ true → skip_blank s ≡ s
letter-no_blank [] h = refl
letter-no_blank (c ∷ cs) h = no_blank-first c cs (grind (arith, nat_tests)) (grind (arith, nat_tests))

pub number-no_blank : (s : Text) → (begins is_digit s || begins_with hyphen s) ≡ true → skip_blank s ≡ s
number-no_blank [] h = refl
number-no_blank (c ∷ cs) h = no_blank-first c cs (grind (arith, nat_tests)) (grind (arith, nat_tests))

byte-no_blank : {c : ℕ} {s u : Text} → s ≡ c ∷ u → (c == space || c == line_feed) ≡ false → (c == carriage_return) ≡ false → skip_blank s ≡ s
byte-no_blank {c} {s} {u} e h k = rw e (no_blank-first c u h k)

pub inline-no_blank : {e : t.Inline} {s rest : Text} → SpellsInline e s rest → skip_blank s ≡ s
inline-no_blank (a_string_literal b d) = byte-no_blank b refl refl
inline-no_blank (a_number_literal {s = s} d) = number-no_blank s (number-begins d)
inline-no_blank (a_variable_reference b d) = byte-no_blank b refl refl
inline-no_blank (a_term_reference b d a c) = byte-no_blank b refl refl
inline-no_blank (a_message_reference {s = s} d o a) = letter-no_blank s d.letter_first
inline-no_blank (a_function_reference {s = s} d c p a) = letter-no_blank s d.letter_first
inline-no_blank (a_placeable (in_braces b d c)) = byte-no_blank b refl refl

literal-no_blank : {e : t.Inline} {s rest : Text} → SpellsLiteral e s rest → skip_blank s ≡ s
literal-no_blank (a_string d) = refl
literal-no_blank (a_number {s = s} d) = number-no_blank s (number-begins d)

arguments-moved : {names : List Text} {a : t.Arguments} {s u rest : Text} → s ≡ u → SpellsArguments names a u rest → SpellsArguments names a s rest
arguments-moved h d = rw h d

expression-moved : {e : t.Expression} {s u rest : Text} → s ≡ u → SpellsExpression e u rest → SpellsExpression e s rest
expression-moved h d = rw h d

expression-no_blank : {e : t.Expression} {s rest : Text} → SpellsExpression e s rest → skip_blank s ≡ s
expression-no_blank (an_inline d a m) = inline-no_blank d
expression-no_blank (a_select d a m n vs) = inline-no_blank d

arrow-none : (s u : Text) → s ≡ close_brace ∷ u → begins_arrow s ≡ false
arrow-none s u e = rw e refl

-- ---- everything, where selects are spelled

-- What is written of a select spells it, before what begins with a brace after blank.
abbrev pub SelectsAreWritten : Type 0
SelectsAreWritten = (i : t.Inline) (vs : t.Variants) (level : ℕ) (more : List Sign) (rest : Text) → WellFormedExpression (t.select i vs) → skip_blank (laid_out true more) ≡ close_brace ∷ rest → Over (laid_out true more) →
    Enclosed (t.select i vs) (laid_out false (expression_signs level (t.select i vs) ++ more)) rest

pub selects_are_written : SelectsAreWritten
selects_are_written i vs level more rest f k o = f.4 level more rest k o

pub enclosed-at : {e : t.Expression} {s u rest : Text} → s ≡ u → Enclosed e u rest → Enclosed e s rest
enclosed-at h d = rw h d

-- a brace after an indent ends a pattern
pub indented-spaces : (n : ℕ) (s : Text) → spaces (replicate n space ++ s) ≡ n + spaces s
indented-spaces zero s = omega arith
indented-spaces (suc n) s = ap (λ k. cond true (1 + k) 0) (indented-spaces n s) ∙ omega arith

pub indented-over : (n : ℕ) (s : Text) → begins goes_on_at_column_zero s ≡ false → begins ends_behind_spaces (skip_spaces s) ≡ true → Over (replicate n space ++ s)
indented-over n s h k = over_here some (cases (spaces (replicate n space ++ s) == 0)
    (λ z. rw z (zero-over n s h (same _ 0 z)))
    (λ z. rw (z, skip_spaces-spaced n s) k))
  where
    some : skip_spaces (replicate n space ++ s) ≢ []
    some e = let m : begins ends_behind_spaces (skip_spaces s) ≡ false = ap (begins ends_behind_spaces) (sym (skip_spaces-spaced n s) ∙ e) in absurd cc

    zero-over : (n : ℕ) (s : Text) → begins goes_on_at_column_zero s ≡ false → spaces (replicate n space ++ s) ≡ 0 → not (begins goes_on_at_column_zero (replicate n space ++ s)) ≡ true
    zero-over zero s h z = rw h refl
    zero-over (suc n) s h z = absurd (omega (arith, indented-spaces (suc n) s))

pub indent-over : (level : ℕ) (s : Text) → begins goes_on_at_column_zero s ≡ false → begins ends_behind_spaces (skip_spaces s) ≡ true → Over (indent level ++ s)
indent-over level s h k = indented-over (4 * level) s h k

pub placeable-of : {e : t.Expression} {s rest : Text} → Enclosed e s rest → SpellsPlaceable e (open_brace ∷ s) rest
placeable-of d = in_braces refl (expression-moved (expression-no_blank d.1) d.1) d.2

pub placeable-spaced : {e : t.Expression} {s rest : Text} → Enclosed e s rest → SpellsPlaceable e (open_brace ∷ space ∷ s) rest
placeable-spaced d = in_braces refl (expression-moved (expression-no_blank d.1) d.1) d.2

-- where a list of arguments goes on: after one, or at its first
start : Bool → Text → Text
start true s = skip_separator s
start false s = skip_blank s

pub follows-nameds : (ns : t.Nameds) (level : ℕ) (more : List Sign) → Follows (laid_out false (nameds_signs level true ns ++ sign level (close_paren ∷ []) ∷ more))
follows-nameds t.no_nameds level more = follows-paren _
follows-nameds (t.named name e ns) level more = follows-comma _

pub follows-inlines : (ps : t.Inlines) (ns : t.Nameds) (level : ℕ) (more : List Sign) →
    Follows (laid_out false (inlines_signs level true ps ++ (nameds_signs level true ns ++ sign level (close_paren ∷ []) ∷ more)))
follows-inlines t.no_inlines ns level more = follows-nameds ns level more
follows-inlines (t.positional e ps) ns level more = follows-comma _

-- call arguments that are written, or none
pub record MaybeSpelled (c : t.MaybeArguments) (s rest : Text) : Type 0 where
  pub no_name : begins is_name_byte s ≡ false
  pub no_dot : begins_with dot s ≡ false
  pub end : Text
  pub spells : SpellsMaybeArguments c (skip_blank s) end
  pub same : skip_blank end ≡ skip_blank rest

maybe-call : {a : t.Arguments} {s rest : Text} → (v : Text) × (s ≡ open_paren ∷ v) × SpellsArguments [] a (skip_blank v) rest → MaybeSpelled (t.with_arguments a) s rest
maybe-call {rest = rest} d = rw d.1 (record { no_name = refl; no_dot = refl; end = rest; spells = a_call refl d.2; same = refl })

positional-body : {e : t.Inline} {ps : t.Inlines} {ns : t.Nameds} {s u rest : Text} → Spelled e s u → SpellsArguments [] (t.arguments ps ns) (skip_separator u) rest →
    SpellsArguments [] (t.arguments (t.positional e ps) ns) (skip_blank s) rest
positional-body {u = u} d m =
    arguments-moved (inline-no_blank d.spells) (positional d.spells d.is_positional (arguments-moved (separator-same d.end u d.same) m))

module _ (selects : SelectsAreWritten) where
  literal-written : (e : t.Inline) (level : ℕ) (more : List Sign) → WellFormedLiteral e → begins is_name_byte (laid_out false more) ≡ false → begins_with dot (laid_out false more) ≡ false →
      SpellsLiteral e (laid_out false (inline_signs level e ++ more)) (laid_out false more)
  literal-written (t.string_literal raw) level more n h k =
      rw (within level raw (sign level (quote ∷ []) ∷ more) (raw-line raw n)) (a_string (string-written raw (laid_out false more) n))
  literal-written (t.number_literal number) level more n h k = rw (within level number more (number-line number n)) (a_number (number-written number (laid_out false more) n h k))
  literal-written (t.function_reference name a) level more n h k = absurd n
  literal-written (t.message_reference name a) level more n h k = absurd n
  literal-written (t.term_reference name a c) level more n h k = absurd n
  literal-written (t.variable_reference name) level more n h k = absurd n
  literal-written (t.nested e) level more n h k = absurd n

  -- one named argument, and those that follow
  named-body : (name : Text) (e : t.Inline) (ns : t.Nameds) (names : List Text) (level : ℕ) (more : List Sign) → IsName name → is_among name names ≡ false → WellFormedLiteral e →
      SpellsArguments (name ∷ names) (t.arguments t.no_inlines ns) (skip_separator (laid_out false (nameds_signs level true ns ++ sign level (close_paren ∷ []) ∷ more))) (laid_out false more) →
      SpellsArguments names (t.arguments t.no_inlines (t.named name e ns))
      (skip_blank (laid_out false (sign level name ∷ sign level (colon ∷ space ∷ []) ∷ (inline_signs level e ++ (nameds_signs level true ns ++ sign level (close_paren ∷ []) ∷ more))))) (laid_out false more)
  named-body name e ns names level more n f l d =
      let f' = follows-nameds ns level more in
      let l' = literal-written e level (nameds_signs level true ns ++ sign level (close_paren ∷ []) ∷ more) l f'.no_name f'.no_dot in
      let text : Text = colon ∷ space ∷ laid_out false (inline_signs level e ++ (nameds_signs level true ns ++ sign level (close_paren ∷ []) ∷ more)) in
      let n' : SpellsName name (name ++ text) text = name-written name text n refl in
      arguments-moved (ap skip_blank (name-within level name (sign level (colon ∷ space ∷ []) ∷ (inline_signs level e ++ (nameds_signs level true ns ++ sign level (close_paren ∷ []) ∷ more))) n) ∙ letter-no_blank (name ++ text) n'.letter_first)
      (named n' refl f (literal-moved (literal-no_blank l') l') d)
    where
      literal-moved : {e : t.Inline} {s u rest : Text} → s ≡ u → SpellsLiteral e u rest → SpellsLiteral e s rest
      literal-moved h d = rw h d

  nameds-written : (ns : t.Nameds) (names : List Text) (level : ℕ) (after : Bool) (more : List Sign) → WellFormedNameds ns names →
      SpellsArguments names (t.arguments t.no_inlines ns) (start after (laid_out false (nameds_signs level after ns ++ sign level (close_paren ∷ []) ∷ more))) (laid_out false more)
  unfolding start
  nameds-written t.no_nameds names level true more f = no_more refl
  nameds-written t.no_nameds names level false more f = no_more refl
  nameds-written (t.named name e ns) names level true more f =
      arguments-moved (ap (λ z. skip_blank (laid_out false (sign level name ∷ sign level (colon ∷ space ∷ []) ∷ z))) (append_assoc (inline_signs level e) (nameds_signs level true ns) _))
      (named-body name e ns names level more f.0 f.1 f.2 (nameds-written ns (name ∷ names) level true more f.3))
  nameds-written (t.named name e ns) names level false more f =
      arguments-moved (ap (λ z. skip_blank (laid_out false (sign level name ∷ sign level (colon ∷ space ∷ []) ∷ z))) (append_assoc (inline_signs level e) (nameds_signs level true ns) _))
      (named-body name e ns names level more f.0 f.1 f.2 (nameds-written ns (name ∷ names) level true more f.3))

  nameds-first : (ns : t.Nameds) (level : ℕ) (more : List Sign) → WellFormedNameds ns [] →
      SpellsArguments [] (t.arguments t.no_inlines ns) (skip_blank (laid_out false (nameds_signs level false ns ++ sign level (close_paren ∷ []) ∷ more))) (laid_out false more)
  unfolding start
  nameds-first ns level more f = nameds-written ns [] level false more f

  nameds-behind : (ns : t.Nameds) (level : ℕ) (more : List Sign) → WellFormedNameds ns [] →
      SpellsArguments [] (t.arguments t.no_inlines ns) (skip_separator (laid_out false (nameds_signs level true ns ++ sign level (close_paren ∷ []) ∷ more))) (laid_out false more)
  unfolding start
  nameds-behind ns level more f = nameds-written ns [] level true more f

  mutual
    pub inline-written : (e : t.Inline) (level : ℕ) (more : List Sign) → WellFormedInline e → Follows (laid_out false more) →
        Spelled e (laid_out false (inline_signs level e ++ more)) (laid_out false more)
    inline-written (t.string_literal raw) level more n f =
        spelled-at (ap (λ z. quote ∷ z) (within level raw (sign level (quote ∷ []) ∷ more) (raw-line raw n)))
        (record { end = laid_out false more; spells = a_string_literal refl (string-written raw (laid_out false more) n); same = refl; is_positional = tt })
    inline-written (t.number_literal number) level more n f =
        spelled-at (within level number more (number-line number n))
        (record { end = laid_out false more; spells = a_number_literal (number-written number (laid_out false more) n f.no_name f.no_dot); same = refl; is_positional = tt })
    inline-written (t.variable_reference name) level more n f =
        spelled-at (ap (λ z. dollar ∷ z) (name-within level name more n))
        (record { end = laid_out false more; spells = a_variable_reference refl (name-written name (laid_out false more) n f.no_name); same = refl; is_positional = tt })
    inline-written (t.message_reference name attribute) level more n f = message-written name attribute level more n.0 n.1 f
    inline-written (t.function_reference name a) level more n f =
        let a' = arguments-written a level more n.2 in
        spelled-at (name-within level name (arguments_signs level a ++ more) n.0 ∙ ap (λ z. name ++ z) a'.1)
        (record { end = laid_out false more; spells = a_function_reference (name-written name (open_paren ∷ a'.0) n.0 refl) n.1 refl a'.2; same = refl; is_positional = tt })
    inline-written (t.term_reference name attribute c) level more n f =
        let c' = maybe-written c level more n.2 f in
        let a' = term-accessor attribute level (maybe_arguments_signs level c ++ more) n.1 c'.no_name c'.no_dot in
        spelled-at
        (ap (λ z. hyphen ∷ laid_out false (sign level name ∷ z)) (append_assoc (accessor_signs level attribute) (maybe_arguments_signs level c) more)
        ∙ ap (λ z. hyphen ∷ z) (name-within level name (accessor_signs level attribute ++ (maybe_arguments_signs level c ++ more)) n.0))
        (record {
          end = c'.end;
          spells = a_term_reference refl (name-written name _ n.0 (accessor-no_name attribute level (maybe_arguments_signs level c ++ more) c'.no_name)) a' c'.spells;
          same = c'.same;
          is_positional = tt;
        })
    inline-written (t.nested e) level more n f =
        let d = expression-written e level (sign level (close_brace ∷ []) ∷ more) (laid_out false more) n (follows-brace _) refl (blank-replicate (4 * level) (close_brace ∷ laid_out false more)) (indent-over level (close_brace ∷ laid_out false more) refl refl) in
        spelled-at (ap (λ z. open_brace ∷ laid_out false z) (append_assoc (expression_signs level e) (sign level (close_brace ∷ []) ∷ []) more))
        (record { end = laid_out false more; spells = a_placeable (placeable-of d); same = refl; is_positional = tt })

    pub maybe-written : (c : t.MaybeArguments) (level : ℕ) (more : List Sign) → WellFormedMaybe c → Follows (laid_out false more) → MaybeSpelled c (laid_out false (maybe_arguments_signs level c ++ more)) (laid_out false more)
    maybe-written t.no_arguments level more n f = record {
      no_name = f.no_name;
      no_dot = f.no_dot;
      end = skip_blank (laid_out false more);
      spells = no_call f.no_call;
      same = blank-twice (laid_out false more);
    }
    maybe-written (t.with_arguments a) level more n f = maybe-call (arguments-written a level more n)

    pub arguments-written : (a : t.Arguments) (level : ℕ) (more : List Sign) → WellFormedArguments a →
        (v : Text) × (laid_out false (arguments_signs level a ++ more) ≡ open_paren ∷ v) × SpellsArguments [] a (skip_blank v) (laid_out false more)
    arguments-written (t.arguments ps ns) level more n = (
      laid_out false (inlines_signs level false ps ++ (nameds_signs level (has_positional ps) ns ++ sign level (close_paren ∷ []) ∷ more)),
      ap (λ z. open_paren ∷ laid_out false z) (append_assoc (inlines_signs level false ps ++ nameds_signs level (has_positional ps) ns) (sign level (close_paren ∷ []) ∷ []) more
          ∙ append_assoc (inlines_signs level false ps) (nameds_signs level (has_positional ps) ns) (sign level (close_paren ∷ []) ∷ more)),
      first-written ps ns level more n.0 n.1,
    )

    -- at the first argument
    first-written : (ps : t.Inlines) (ns : t.Nameds) (level : ℕ) (more : List Sign) → WellFormedInlines ps → WellFormedNameds ns [] →
        SpellsArguments [] (t.arguments ps ns) (skip_blank (laid_out false (inlines_signs level false ps ++ (nameds_signs level (has_positional ps) ns ++ sign level (close_paren ∷ []) ∷ more)))) (laid_out false more)
    first-written t.no_inlines ns level more f g = nameds-first ns level more g
    first-written (t.positional e ps) ns level more f g =
        arguments-moved (ap (λ z. skip_blank (laid_out false z)) (append_assoc (inline_signs level e) (inlines_signs level true ps) _))
        (positional-body (inline-written e level (inlines_signs level true ps ++ (nameds_signs level true ns ++ sign level (close_paren ∷ []) ∷ more)) f.0 (follows-inlines ps ns level more))
        (behind-written ps ns level more f.1 g))

    -- after a positional argument
    behind-written : (ps : t.Inlines) (ns : t.Nameds) (level : ℕ) (more : List Sign) → WellFormedInlines ps → WellFormedNameds ns [] →
        SpellsArguments [] (t.arguments ps ns) (skip_separator (laid_out false (inlines_signs level true ps ++ (nameds_signs level true ns ++ sign level (close_paren ∷ []) ∷ more)))) (laid_out false more)
    behind-written t.no_inlines ns level more f g = nameds-behind ns level more g
    behind-written (t.positional e ps) ns level more f g =
        arguments-moved (ap (λ z. skip_blank (laid_out false z)) (append_assoc (inline_signs level e) (inlines_signs level true ps) _))
        (positional-body (inline-written e level (inlines_signs level true ps ++ (nameds_signs level true ns ++ sign level (close_paren ∷ []) ∷ more)) f.0 (follows-inlines ps ns level more))
        (behind-written ps ns level more f.1 g))

    pub expression-written : (e : t.Expression) (level : ℕ) (more : List Sign) (rest : Text) → WellFormedExpression e → Follows (laid_out false more) → skip_blank (laid_out false more) ≡ close_brace ∷ rest →
        skip_blank (laid_out true more) ≡ close_brace ∷ rest → Over (laid_out true more) → Enclosed e (laid_out false (expression_signs level e ++ more)) rest
    expression-written (t.select i vs) level more rest n f h k o = selects i vs level more rest n k o
    expression-written (t.inline i) level more rest n f h k o =
        let d = inline-written i level more n.0 f in
        let c : skip_blank d.end ≡ close_brace ∷ rest = d.same ∙ h in
        (skip_blank d.end, an_inline d.spells (arrow-none (skip_blank d.end) rest c) n.1, blank-twice d.end ∙ c)
