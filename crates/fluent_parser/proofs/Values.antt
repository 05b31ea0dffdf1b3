-- The values of named arguments.
use Rattle.std.proofs.Common.{◌≡◌, Bool, true, false, cond, ◌||◌, List, drop, refl, sym, ap, ◌∙◌}
use Rattle.fluent_grammar.specs.Words as w
use Rattle.fluent_grammar.specs.Words.{Text, skip_blank, begins_with}
use Rattle.fluent_grammar.specs.Refusal.{refuse}
use Rattle.fluent_grammar.specs.Refusal as r
use Rattle.fluent_grammar.specs.Reading as g
use Rattle.fluent_tokens.specs.Counted.{begins_value}
use Rattle.fluent_parser.specs.Reads.{string_or_number_at, argument_value_at}

value_choice : {A : Type 0} (q d : Bool) (a b x : A) → (q || d) ≡ true → cond q a (cond d b x) ≡ cond q a b
value_choice true d a b x h = refl
value_choice false true a b x h = refl
value_choice false false a b x h = absurd cc

no_choice : {A : Type 0} (q d : Bool) (a b x : A) → (q || d) ≡ false → cond q a (cond d b x) ≡ x
no_choice true d a b x h = absurd cc
no_choice false true a b x h = absurd cc
no_choice false false a b x h = refl

literal_read : (s : Text) → begins_value s ≡ true → g.literal_at s ≡ string_or_number_at s
unfolding g.literal_at
literal_read s h = value_choice (begins_with w.quote s) (w.begins w.is_digit s || begins_with w.hyphen s) _ _ _ h

literal_none : (s : Text) → begins_value s ≡ false → g.literal_at s ≡ refuse r.expected_literal s
unfolding g.literal_at
literal_none s h = no_choice (begins_with w.quote s) (w.begins w.is_digit s || begins_with w.hyphen s) _ _ _ h

pub value_read : (names : List Text) (name s u : Text) → w.is_among name names ≡ false → u ≡ skip_blank (drop 1 s) → begins_value u ≡ true → string_or_number_at u ≡ argument_value_at names name s
value_read names name s u h e b = sym (rw h (ap g.literal_at (sym e) ∙ literal_read u b))

pub value_none : (names : List Text) (name s u : Text) → w.is_among name names ≡ false → u ≡ skip_blank (drop 1 s) → begins_value u ≡ false → argument_value_at names name s ≡ refuse r.expected_literal u
value_none names name s u h e b = rw h (ap g.literal_at (sym e) ∙ literal_none u b)
