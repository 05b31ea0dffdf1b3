-- What is written of a select spells it, where what is written of the selects inside does.
use Rattle.std.proofs.Common.{◌≡◌, ℕ, ◌+◌, ◌-◌, ◌*◌, ◌<◌, Bool, true, false, cond, List, [], ◌∷◌, ◌++◌, refl, ap, ◌∙◌, arith, append_assoc}
use Rattle.fluent_grammar.specs.Words.{Text, space, hyphen, greater, asterisk, open_bracket, close_bracket, close_brace, begins_with, skip_blank}
use Rattle.fluent_grammar.specs.Tree as t
use Rattle.fluent_grammar.specs.Lexical.{SpellsKey, number_key, identifier_key}
use Rattle.fluent_grammar.specs.Spelling.{may_be_selector, a_select, SpellsVariants, all_read, a_variant, the_default, SpellsVariant, keyed, SpellsPattern}
use Rattle.fluent_grammar.specs.Written.{Sign, sign, default_mark, laid_out, new_line, mark, key_text, pattern_signs, pattern_start, elements_signs, variants_signs, inline_signs, expression_signs}
use Rattle.fluent_grammar.proofs.Words.{number-begins}
use Rattle.fluent_tidy_laws.specs.WellFormed.{IsName, IsNumber, IsKey, EndsWell, default_count}
use Rattle.fluent_tidy_laws.specs.WellFormed as s
use Rattle.fluent_tidy_laws.proofs.WrittenSoFar.{SelectIsWritten, WellFormedInline, WellFormedMaybe, WellFormedArguments, WellFormedInlines, WellFormedNameds, WellFormedLiteral, WellFormedExpression, WellFormedPattern, WellFormedVariants, WellFormedElements}
use Rattle.fluent_tidy_laws.proofs.MovingWords.{Over, blank-replicate}
use Rattle.fluent_tidy_laws.proofs.WrittenWords.{Follows, name-written, name-line, number-written, number-line}
use Rattle.fluent_tidy_laws.proofs.WrittenInline.{selects_are_written, blank-twice, inline-written, within, letter-no_blank, number-no_blank, indented-over, indent-over, enclosed-at}
use Rattle.fluent_tidy_laws.proofs.WrittenPatterns.{pattern-written, ends-some}

-- the signs of variants after their first line feed, up to those that follow
abbrev key_signs : ℕ → t.VariantKey → List Sign → List Sign
key_signs level key more = sign (level + 1) (open_bracket ∷ []) ∷ sign (level + 1) (key_text key) ∷ sign (level + 1) (close_bracket ∷ []) ∷ more

abbrev variants_from : ℕ → t.Variants → List Sign → List Sign
variants_from level t.no_variants more = more
variants_from level (t.variant key es default vs) more = mark (level + 1) default ++ key_signs level key (pattern_signs (level + 2) es ++ new_line ∷ variants_from level vs more)

variants-are : (vs : t.Variants) (level : ℕ) (more : List Sign) → variants_signs level vs ++ new_line ∷ more ≡ new_line ∷ variants_from level vs more
variants-are t.no_variants level more = refl
variants-are (t.variant key es true vs) level more =
    ap (λ z. new_line ∷ default_mark (level + 1) ∷ key_signs level key (pattern_start (level + 2) es ∷ z))
    (append_assoc (elements_signs (level + 2) es) (variants_signs level vs) (new_line ∷ more) ∙ ap (λ z. elements_signs (level + 2) es ++ z) (variants-are vs level more))
variants-are (t.variant key es false vs) level more =
    ap (λ z. new_line ∷ key_signs level key (pattern_start (level + 2) es ∷ z))
    (append_assoc (elements_signs (level + 2) es) (variants_signs level vs) (new_line ∷ more) ∙ ap (λ z. elements_signs (level + 2) es ++ z) (variants-are vs level more))

-- ---- keys

key-line : (key : t.VariantKey) (level : ℕ) (more : List Sign) → IsKey key → laid_out false (sign level (key_text key) ∷ more) ≡ key_text key ++ laid_out false more
key-line (t.identifier_key name) level more n = within level name more (name-line name n.bytes)
key-line (t.number_key number) level more n = within level number more (number-line number n)

key-written : (key : t.VariantKey) (rest : Text) → IsKey key → SpellsKey key (key_text key ++ close_bracket ∷ rest) (close_bracket ∷ rest)
key-written (t.identifier_key name) rest n = identifier_key (name-written name (close_bracket ∷ rest) n refl)
key-written (t.number_key number) rest n = number_key (number-written number (close_bracket ∷ rest) n refl refl)

key-no_blank : {key : t.VariantKey} {s rest : Text} → SpellsKey key s rest → skip_blank s ≡ s
key-no_blank (number_key {s = s} d) = number-no_blank s (number-begins d)
key-no_blank (identifier_key {s = s} d) = letter-no_blank s d.letter_first

key-is : {key : t.VariantKey} {s u rest : Text} → s ≡ u → SpellsKey key u rest → SpellsKey key s rest
key-is h d = rw h d

variants-is : {marked : Bool} {vs : t.Variants} {s u rest : Text} → s ≡ u → SpellsVariants marked vs u rest → SpellsVariants marked vs s rest
variants-is h d = rw h d

variant-is : {key : t.VariantKey} {es : t.Elements} {s u rest : Text} → s ≡ u → SpellsVariant key es u rest → SpellsVariant key es s rest
variant-is h d = rw h d

-- what stands at the start of a variant's line
head-text : (key : t.VariantKey) (level : ℕ) (more : List Sign) → IsKey key → laid_out false (key_signs level key more) ≡ open_bracket ∷ (key_text key ++ close_bracket ∷ laid_out false more)
head-text key level more n = ap (λ z. open_bracket ∷ z) (key-line key (level + 1) (sign (level + 1) (close_bracket ∷ []) ∷ more) n)

from-over : (vs : t.Variants) (level : ℕ) (more : List Sign) → Over (laid_out true more) → Over (laid_out true (variants_from level vs more))
from-over t.no_variants level more o = o
from-over (t.variant key es true vs) level more o = indented-over (4 * (level + 1) - 1) (asterisk ∷ laid_out false (key_signs level key (pattern_signs (level + 2) es ++ new_line ∷ variants_from level vs more))) refl refl
from-over (t.variant key es false vs) level more o = indent-over (level + 1) (laid_out false (key_signs level key (pattern_signs (level + 2) es ++ new_line ∷ variants_from level vs more))) refl refl

all-read : (s rest : Text) → s ≡ close_brace ∷ rest → SpellsVariants true t.no_variants s s
all-read s rest e = all_read (ap (begins_with asterisk) e) (ap (begins_with open_bracket) e)

variant-written : (key : t.VariantKey) (es : t.Elements) (level : ℕ) (more : List Sign) → IsKey key → WellFormedPattern es → Over (laid_out true more) →
    SpellsVariant key es (laid_out false (key_signs level key (pattern_signs (level + 2) es ++ new_line ∷ more))) (laid_out true more)
variant-written key es level more n f o =
    let p : SpellsPattern es (laid_out false (pattern_signs (level + 2) es ++ new_line ∷ more)) (laid_out true more) = pattern-written selects_are_written (level + 2) (omega arith) more o es f in
    let k = key-written key (laid_out false (pattern_signs (level + 2) es ++ new_line ∷ more)) n in
    variant-is (head-text key level (pattern_signs (level + 2) es ++ new_line ∷ more) n) (keyed refl (key-is (key-no_blank k) k) refl p (ends-some es f.1))

variants-written : (vs : t.Variants) (marked : Bool) (level : ℕ) (more : List Sign) (rest : Text) → WellFormedVariants vs → default_count vs ≡ cond marked 0 1 → Over (laid_out true more) →
    skip_blank (laid_out true more) ≡ close_brace ∷ rest → SpellsVariants marked vs (skip_blank (laid_out true (variants_from level vs more))) (skip_blank (laid_out true more))
variants-written t.no_variants true level more rest f c o h = all-read _ rest h
variants-written t.no_variants false level more rest f c o h = absurd (omega (arith, c))
variants-written (t.variant key es true vs) true level more rest f c o h = absurd (omega (arith, c))
variants-written (t.variant key es true vs) false level more rest f c o h =
    variants-is (blank-replicate (4 * (level + 1) - 1) (asterisk ∷ laid_out false (key_signs level key (pattern_signs (level + 2) es ++ new_line ∷ variants_from level vs more))))
    (the_default refl (variant-written key es level (variants_from level vs more) f.0 f.1 (from-over vs level more o))
    (variants-written vs true level more rest f.2 (omega (arith, c)) o h))
variants-written (t.variant key es false vs) marked level more rest f c o h =
    variants-is (blank-replicate (4 * (level + 1)) (laid_out false (key_signs level key (pattern_signs (level + 2) es ++ new_line ∷ variants_from level vs more))))
    (a_variant (variant-written key es level (variants_from level vs more) f.0 f.1 (from-over vs level more o))
    (variants-written vs marked level more rest f.2 c o h))

-- a select is written so that it is spelled, where those inside are
arrow-follows : (s : Text) → Follows (space ∷ hyphen ∷ greater ∷ s)
arrow-follows s = record { no_name = refl; no_dot = refl; no_attribute = refl; no_call = refl; no_colon = refl }

select-signs : (i : t.Inline) (vs : t.Variants) (level : ℕ) (more : List Sign) → expression_signs level (t.select i vs) ++ more ≡ inline_signs level i ++ sign level (space ∷ hyphen ∷ greater ∷ []) ∷ new_line ∷ variants_from level vs more
select-signs i vs level more =
    append_assoc (inline_signs level i) (sign level (space ∷ hyphen ∷ greater ∷ []) ∷ (variants_signs level vs ++ new_line ∷ [])) more
    ∙ ap (λ z. inline_signs level i ++ sign level (space ∷ hyphen ∷ greater ∷ []) ∷ z) (append_assoc (variants_signs level vs) (new_line ∷ []) more ∙ variants-are vs level more)

select-written : (i : t.Inline) (vs : t.Variants) → WellFormedInline i → may_be_selector i ≡ true → WellFormedVariants vs → default_count vs ≡ 1 → SelectIsWritten i vs
select-written i vs f m g c level more rest h o =
    let d = inline-written selects_are_written i level (sign level (space ∷ hyphen ∷ greater ∷ []) ∷ new_line ∷ variants_from level vs more) f (arrow-follows _) in
    enclosed-at (ap (laid_out false) (select-signs i vs level more))
    (skip_blank (laid_out true more), a_select d.spells d.same m refl (variants-written vs false level more rest g c o h), blank-twice (laid_out true more) ∙ h)

-- ---- every well-formed tree is

literal-well_formed : (e : t.Inline) → s.WellFormedLiteral e → WellFormedLiteral e
literal-well_formed (t.string_literal raw) f = f
literal-well_formed (t.number_literal number) f = f
literal-well_formed (t.function_reference name a) f = f
literal-well_formed (t.message_reference name a) f = f
literal-well_formed (t.term_reference name a c) f = f
literal-well_formed (t.variable_reference name) f = f
literal-well_formed (t.nested e) f = f

nameds-well_formed : (ns : t.Nameds) (names : List Text) → s.WellFormedNameds ns names → WellFormedNameds ns names
nameds-well_formed t.no_nameds names f = tt
nameds-well_formed (t.named name e ns) names f = (f.0, f.1, literal-well_formed e f.2, nameds-well_formed ns (name ∷ names) f.3)

mutual
  pub inline-well_formed : (e : t.Inline) → s.WellFormedInline e → WellFormedInline e
  inline-well_formed (t.string_literal raw) f = f
  inline-well_formed (t.number_literal number) f = f
  inline-well_formed (t.function_reference name a) f = (f.0, f.1, arguments-well_formed a f.2)
  inline-well_formed (t.message_reference name attribute) f = f
  inline-well_formed (t.term_reference name attribute c) f = (f.0, f.1, maybe-well_formed c f.2)
  inline-well_formed (t.variable_reference name) f = f
  inline-well_formed (t.nested e) f = expression-well_formed e f

  maybe-well_formed : (c : t.MaybeArguments) → s.WellFormedMaybe c → WellFormedMaybe c
  maybe-well_formed t.no_arguments f = tt
  maybe-well_formed (t.with_arguments a) f = arguments-well_formed a f

  arguments-well_formed : (a : t.Arguments) → s.WellFormedArguments a → WellFormedArguments a
  arguments-well_formed (t.arguments ps ns) f = (inlines-well_formed ps f.0, nameds-well_formed ns [] f.1)

  inlines-well_formed : (ps : t.Inlines) → s.WellFormedInlines ps → WellFormedInlines ps
  inlines-well_formed t.no_inlines f = tt
  inlines-well_formed (t.positional e ps) f = (inline-well_formed e f.0, inlines-well_formed ps f.1)

  pub expression-well_formed : (e : t.Expression) → s.WellFormedExpression e → WellFormedExpression e
  expression-well_formed (t.select i vs) f =
      let g = inline-well_formed i f.0 in
      let h = variants-well_formed vs f.2 in
      (g, f.1, h, f.3, select-written i vs g f.1 h f.3)
  expression-well_formed (t.inline i) f = (inline-well_formed i f.0, f.1)

  variants-well_formed : (vs : t.Variants) → s.WellFormedVariants vs → WellFormedVariants vs
  variants-well_formed t.no_variants f = tt
  variants-well_formed (t.variant key es default vs) f = (f.0, (f.1.0, f.1.1, elements-well_formed es f.1.2), variants-well_formed vs f.2)

  pub elements-well_formed : (es : t.Elements) → s.WellFormedElements es → WellFormedElements es
  elements-well_formed t.no_elements f = tt
  elements-well_formed (t.text x es) f = elements-well_formed es f
  elements-well_formed (t.placeable e es) f = (expression-well_formed e f.0, elements-well_formed es f.1)

-- A well-formed pattern is spelled by what is written of it, at any level and before any place where a pattern is over.
pub pattern_is_written : (es : t.Elements) (level : ℕ) (behind : List Sign) → 0 < level → s.WellFormedPattern es → Over (laid_out true behind) →
    SpellsPattern es (laid_out false (pattern_signs level es ++ new_line ∷ behind)) (laid_out true behind)
pattern_is_written es level behind h f o = pattern-written selects_are_written level (omega (arith, h)) behind o es (f.0, f.1, elements-well_formed es f.2)
