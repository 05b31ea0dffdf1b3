-- Well-formed trees whose selects are spelled by what is written of them: what goes down the tree in the proof.
use Rattle.std.specs.Prelude.{◌≡◌, ℕ, true, false, List, [], ◌∷◌, ◌++◌}
use Rattle.std.specs.List.{list_all}
use Rattle.fluent_grammar.specs.Words.{Text, close_brace, is_callee_byte, skip_blank, is_among}
use Rattle.fluent_grammar.specs.Tree as t
use Rattle.fluent_grammar.specs.Spelling.{may_stand_alone, may_be_selector, SpellsExpression}
use Rattle.fluent_grammar.specs.Written.{Sign, laid_out, expression_signs, is_many_lined}
use Rattle.fluent_tidy_laws.specs.WellFormed.{IsName, IsNumber, IsRaw, IsAttribute, IsKey, are_texts, EndsWell, default_count}
use Rattle.fluent_tidy_laws.proofs.MovingWords.{Over}

-- an expression that is spelled by what is written, and the closing brace after it
abbrev pub Enclosed : t.Expression → Text → Text → Type 0
Enclosed e s rest = (end : Text) × SpellsExpression e s end × (skip_blank end ≡ close_brace ∷ rest)

-- What is written of a select spells it, before what begins with a brace after blank.
abbrev pub SelectIsWritten : t.Inline → t.Variants → Type 0
SelectIsWritten i vs = (level : ℕ) (more : List Sign) (rest : Text) → skip_blank (laid_out true more) ≡ close_brace ∷ rest → Over (laid_out true more) →
    Enclosed (t.select i vs) (laid_out false (expression_signs level (t.select i vs) ++ more)) rest

abbrev mutual
  pub WellFormedInline : t.Inline → Type 0
  WellFormedInline (t.string_literal raw) = IsRaw raw
  WellFormedInline (t.number_literal number) = IsNumber number
  WellFormedInline (t.function_reference name a) = IsName name × (list_all is_callee_byte name ≡ true) × WellFormedArguments a
  WellFormedInline (t.message_reference name attribute) = IsName name × IsAttribute attribute
  WellFormedInline (t.term_reference name attribute c) = IsName name × IsAttribute attribute × WellFormedMaybe c
  WellFormedInline (t.variable_reference name) = IsName name
  WellFormedInline (t.nested e) = WellFormedExpression e

  pub WellFormedMaybe : t.MaybeArguments → Type 0
  WellFormedMaybe t.no_arguments = Unit {0}
  WellFormedMaybe (t.with_arguments a) = WellFormedArguments a

  pub WellFormedArguments : t.Arguments → Type 0
  WellFormedArguments (t.arguments ps ns) = WellFormedInlines ps × WellFormedNameds ns []

  pub WellFormedInlines : t.Inlines → Type 0
  WellFormedInlines t.no_inlines = Unit {0}
  WellFormedInlines (t.positional e ps) = WellFormedInline e × WellFormedInlines ps

  -- after named arguments of these names
  pub WellFormedNameds : t.Nameds → List Text → Type 0
  WellFormedNameds t.no_nameds names = Unit {0}
  WellFormedNameds (t.named name e ns) names = IsName name × (is_among name names ≡ false) × WellFormedLiteral e × WellFormedNameds ns (name ∷ names)

  pub WellFormedLiteral : t.Inline → Type 0
  WellFormedLiteral (t.string_literal raw) = IsRaw raw
  WellFormedLiteral (t.number_literal number) = IsNumber number
  WellFormedLiteral (t.function_reference name a) = ⊥
  WellFormedLiteral (t.message_reference name a) = ⊥
  WellFormedLiteral (t.term_reference name a c) = ⊥
  WellFormedLiteral (t.variable_reference name) = ⊥
  WellFormedLiteral (t.nested e) = ⊥

  pub WellFormedExpression : t.Expression → Type 0
  WellFormedExpression (t.select i vs) = WellFormedInline i × (may_be_selector i ≡ true) × WellFormedVariants vs × (default_count vs ≡ 1) × SelectIsWritten i vs
  WellFormedExpression (t.inline i) = WellFormedInline i × (may_stand_alone i ≡ true)

  pub WellFormedVariants : t.Variants → Type 0
  WellFormedVariants t.no_variants = Unit {0}
  WellFormedVariants (t.variant key es default vs) = IsKey key × ((are_texts (is_many_lined es) es ≡ true) × EndsWell es × WellFormedElements es) × WellFormedVariants vs

  -- the placeables of a pattern
  pub WellFormedElements : t.Elements → Type 0
  WellFormedElements t.no_elements = Unit {0}
  WellFormedElements (t.text s es) = WellFormedElements es
  WellFormedElements (t.placeable e es) = WellFormedExpression e × WellFormedElements es

abbrev pub WellFormedPattern : t.Elements → Type 0
WellFormedPattern es = (are_texts (is_many_lined es) es ≡ true) × EndsWell es × WellFormedElements es
