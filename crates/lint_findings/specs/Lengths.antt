-- Texts that are empty or much longer than those of the reference.
use Rattle.std.specs.Prelude.{ℕ, ◌*◌, ◌==◌, nat_le, Bool, true, false, not, ◌&&◌, ◌||◌, if◌then◌else◌, List, [], ◌∷◌}
use Rattle.std.specs.List.{flat_map, list_all}
use Rattle.fluent_grammar.specs.Words.{Text}
use Rattle.fluent_grammar.specs.Tree as t
use Rattle.fluent_grammar.specs.Tree.{Elements, Expression, Variants}
use Rattle.lint_findings.specs.Doubts.{Doubt, Spotted, empty_text, empty_variant, long_text, on_text}
use Rattle.lint_findings.specs.Keys.{characters}
use Rattle.lint_findings.specs.Runs.{own_text, placeable_text, runs}
use Rattle.lint_findings.specs.Tags.{is_blank_byte}

-- ---- empty texts

abbrev pub is_blank : Text → Bool
is_blank s = list_all is_blank_byte s

abbrev mutual
  -- whether a pattern may be nothing but blanks, by some variants
  pub may_be_blank : Elements → Bool
  may_be_blank t.no_elements = true
  may_be_blank (t.text s es) = is_blank s && may_be_blank es
  may_be_blank (t.placeable e es) = expression_may_be_blank e && may_be_blank es

  pub expression_may_be_blank : Expression → Bool
  expression_may_be_blank (t.select i vs) = some_blank vs
  expression_may_be_blank (t.inline i) = is_blank (placeable_text (t.inline i))

  pub some_blank : Variants → Bool
  some_blank t.no_variants = false
  some_blank (t.variant k es d vs) = may_be_blank es || some_blank vs

-- whether it always is
abbrev pub empty_doubt : Elements → Doubt
empty_doubt es = if is_blank (own_text es) then empty_text else empty_variant

abbrev pub empty_beside : Elements → Elements → List Spotted
empty_beside es os =
    if may_be_blank es && not (may_be_blank os) then on_text (empty_doubt es) ∷ [] else []

-- ---- long texts

-- in all of these texts
abbrev pub characters_of : List Text → ℕ
characters_of texts = characters (flat_map (λ s. s) texts)

-- Of the text only what no select chooses counts, and of the reference all.
abbrev pub is_long : Elements → Elements → Bool
is_long es os =
    nat_le 120 (characters (own_text es)) && nat_le (5 * characters_of (runs os)) (characters (own_text es))

abbrev pub long_beside : Elements → Elements → List Spotted
long_beside es os = if is_long es os then on_text long_text ∷ [] else []
