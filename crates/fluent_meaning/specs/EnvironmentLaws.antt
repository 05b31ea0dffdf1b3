-- Nothing but what a pattern is given decides what it gives.
use Rattle.std.specs.Prelude.{◌≡◌, ℕ, List}
use Rattle.fluent_grammar.specs.Words.{Text}
use Rattle.fluent_grammar.specs.Tree.{Elements}
use Rattle.fluent_number.specs.declared.plural.PluralOperands.{PluralOperands}
use Rattle.fluent_number.specs.declared.plural.PluralRuleType.{PluralRuleType}
use Rattle.fluent_value.specs.Value.{Value}
use Rattle.fluent_meaning.specs.Environment.{Environment}
use Rattle.fluent_meaning.specs.Substitution.{formatted}

-- Two environments do the same: each id stands for the same, each function gives the same for the same arguments, and settings,
-- formatter, transform and plural source answer alike.
pub record DoTheSame (S : Type 0) (F : Type 0) (a : Environment S F) (b : Environment S F) : Type 0 where
  pub find : (id : Text) → a.find id ≡ b.find id
  pub call : (f : F) (values : List (Value S)) (pairs : List (Text × Value S)) → a.call f values pairs ≡ b.call f values pairs
  pub isolating : a.isolating ≡ b.isolating
  pub transformed : (s : Text) → a.transformed s ≡ b.transformed s
  pub formatted : (v : Value S) → a.formatted v ≡ b.formatted v
  pub plurals : (rule : PluralRuleType) (operands : PluralOperands) → a.plurals rule operands ≡ b.plurals rule operands
  pub shown : (v : S) → a.shown v ≡ b.shown v

-- They give the same texts and errors for one pattern and equal arguments.
abbrev pub EqualEnvironments : Type 0 → Type 0 → Type 0
EqualEnvironments S F = (a b : Environment S F) → DoTheSame S F a b → (k : ℕ) (args : List (Text × Value S)) (es : Elements) → formatted a k args es ≡ formatted b k args es
