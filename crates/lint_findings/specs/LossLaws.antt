-- What each loss of a message means, as statements.
use Rattle.std.specs.Prelude.{◌≡◌, ℕ, ◌<◌, ◌≤◌, ◌++◌, Bool, true, List, length, All, Option, Some, None}
use Rattle.std.specs.List.{Contains}
use Rattle.fluent_grammar.specs.Words.{Text}
use Rattle.fluent_grammar.specs.Tree as t
use Rattle.fluent_grammar.specs.Tree.{Elements, Expression, Variants, VariantKey, Inline, MaybeArguments}
use Rattle.fluent_meaning.specs.Ids.{Ids, message, term, find}
use Rattle.fluent_plurals.specs.declared.plurals.LanguagePlurals.{LanguagePlurals}
use Rattle.lint_findings.specs.Comparison.{message_patterns}
use Rattle.lint_findings.specs.FactLaws.{InlinesShow, MessageShows, Shows}
use Rattle.lint_findings.specs.FlawWords.{key_text}
use Rattle.lint_findings.specs.Losses.{Loss, lacking_variant, dropped_plural, written_term, losses, message_nodes}
use Rattle.lint_findings.specs.Nodes.{Node, expression, select}

-- ---- variables that are always shown

mutual
  -- A pattern shows a variable, whichever variants are chosen.
  pub data AlwaysShows : Elements → Text → Type 0 where
    in_placeable : {e : Expression} {es : Elements} {x : Text} → ExpressionAlwaysShows e x → AlwaysShows (t.placeable e es) x
    after_placeable : {e : Expression} {es : Elements} {x : Text} → AlwaysShows es x → AlwaysShows (t.placeable e es) x
    after_text : {s : Text} {es : Elements} {x : Text} → AlwaysShows es x → AlwaysShows (t.text s es) x

  pub data ExpressionAlwaysShows : Expression → Text → Type 0 where
    in_variants : {i : Inline} {vs : Variants} {x : Text} → AllShow vs x → ExpressionAlwaysShows (t.select i vs) x
    in_inline : {i : Inline} {x : Text} → InlineAlwaysShows i x → ExpressionAlwaysShows (t.inline i) x

  -- each of these variants does
  pub data AllShow : Variants → Text → Type 0 where
    no_more : {x : Text} → AllShow t.no_variants x
    this_and : {k : VariantKey} {es : Elements} {d : Bool} {vs : Variants} {x : Text} → AlwaysShows es x → AllShow vs x → AllShow (t.variant k es d vs) x

  pub data InlineAlwaysShows : Inline → Text → Type 0 where
    itself : {x : Text} → InlineAlwaysShows (t.variable_reference x) x
    in_nested : {e : Expression} {x : Text} → ExpressionAlwaysShows e x → InlineAlwaysShows (t.nested e) x
    given_to : {id : Text} {a : t.Arguments} {x : Text} → ArgumentsShow a x → InlineAlwaysShows (t.function_reference id a) x

  pub data ArgumentsShow : t.Arguments → Text → Type 0 where
    positional : {ps : t.Inlines} {ns : t.Nameds} {x : Text} → InlinesShow ps x → ArgumentsShow (t.arguments ps ns) x

-- ---- variants

-- These are among some variants: one with this key, this pattern, and that is the default or isn't.
pub data IsVariantOf : VariantKey → Elements → Bool → Variants → Type 0 where
  this_one : {k : VariantKey} {es : Elements} {d : Bool} {vs : Variants} → IsVariantOf k es d (t.variant k es d vs)
  later : {k l : VariantKey} {es fs : Elements} {d e : Bool} {vs : Variants} → IsVariantOf k es d vs → IsVariantOf k es d (t.variant l fs e vs)

-- some default of these variants always shows a variable
abbrev pub DefaultShows : Variants → Text → Type 0
DefaultShows vs x = (k : VariantKey) × (es : Elements) × IsVariantOf k es true vs × AlwaysShows es x

-- a variant with this key never does
abbrev pub VariantLacks : Variants → Text → Text → Type 0
VariantLacks vs key x = (k : VariantKey) × (es : Elements) × (d : Bool) × IsVariantOf k es d vs × (key_text k ≡ key) × (Shows es x → ⊥)

-- ---- losses

-- In a select of a message, the default variant always shows this variable, and one with this key never.
abbrev pub LacksVariant : t.Message → Text → Text → Type 0
LacksVariant m key x =
    (i : Inline) × (vs : Variants) × Contains (message_nodes m) (select i vs) × DefaultShows vs x × VariantLacks vs key x

-- A message has a choice: a select with two variants.
abbrev pub HasChoice : t.Message → Type 0
HasChoice m =
    (i : Inline) × (k l : VariantKey) × (es fs : Elements) × (d e : Bool) × (vs : Variants)
    × Contains (message_nodes m) (select i (t.variant k es d (t.variant l fs e vs)))

-- a message refers to a term
abbrev pub RefersToTerm : t.Message → Text → Type 0
RefersToTerm m id = (a : Option Text) × (c : MaybeArguments) × Contains (message_nodes m) (expression (t.term_reference id a c))

mutual
  -- a text stands in a pattern
  pub data HasText : Elements → Text → Type 0 where
    here : (pre post : Text) {s : Text} {es : Elements} → HasText (t.text (pre ++ (s ++ post)) es) s
    past_text : {x s : Text} {es : Elements} → HasText es s → HasText (t.text x es) s
    past_placeable : {e : Expression} {s : Text} {es : Elements} → HasText es s → HasText (t.placeable e es) s
    in_variant : {i : Inline} {vs : Variants} {s : Text} {es : Elements} → VariantsHaveText vs s → HasText (t.placeable (t.select i vs) es) s

  pub data VariantsHaveText : Variants → Text → Type 0 where
    in_this : {k : VariantKey} {es : Elements} {d : Bool} {vs : Variants} {s : Text} → HasText es s → VariantsHaveText (t.variant k es d vs) s
    in_later : {k : VariantKey} {es : Elements} {d : Bool} {vs : Variants} {s : Text} → VariantsHaveText vs s → VariantsHaveText (t.variant k es d vs) s

abbrev pub MessageHasText : t.Message → Text → Type 0
MessageHasText m s = (es : Elements) × Contains (message_patterns m) es × HasText es s

-- The message o refers to a term of the reference that has a text, and m doesn't refer to it and has that text.
abbrev pub WritesTerm : {F : Type 0} → Ids F → t.Message → t.Message → Text → Text → Type 0
WritesTerm reference m o id s =
    RefersToTerm o id × (RefersToTerm m id → ⊥) × MessageHasText m s
    × (k : t.Term) × (find reference id ≡ Some (term k)) × HasText k.value s

-- what is so of m and of o in the reference if m has this loss
abbrev pub IsLossOf : {F : Type 0} → Ids F → t.Message → t.Message → Loss → Type 0
IsLossOf reference m o (lacking_variant k x) = LacksVariant m k x
IsLossOf reference m o (dropped_plural v) = MessageShows m v × HasChoice o × (HasChoice m → ⊥)
IsLossOf reference m o (written_term id s) = WritesTerm reference m o id s

-- Each loss of a message is so, compared with the message of its id in the reference.
abbrev pub LossesAreTrue : Type 0 → Type 0
LossesAreTrue F =
    (reference : Ids F) (plurals : Option LanguagePlurals) (m : t.Message) (loss : Loss) → Contains (losses reference plurals m) loss →
    (o : t.Message) × (find reference m.id ≡ Some (message o)) × IsLossOf reference m o loss
