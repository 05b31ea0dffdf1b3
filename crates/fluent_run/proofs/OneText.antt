-- A pattern that is one text gives that text, whatever the arguments are.
use Rattle.std.proofs.Common.{◌≡◌, List, [], Some, ap₂, map}
use Rattle.fluent_answers.specs.Answers.{told}
use Rattle.fluent_resolver.proofs.Asking.{lone-errors, lone-value}
use Rattle.fluent_resolver.specs.Asked.{lone_text}
use Rattle.fluent_errors.specs.Texts.{resolver_text}
use Rattle.fluent_grammar.specs.Tree.{Elements}
use Rattle.fluent_grammar.specs.Words.{Text}
use Rattle.fluent_meaning.specs.Environment.{Environment}
use Rattle.fluent_meaning.specs.Substitution.{answer_written, most_placeables, outset}
use Rattle.fluent_serve.specs.Frames.{Reply}
use Rattle.fluent_value.specs.Value.{Value}

pub lone-told : {S F : Type 0} (env : Environment S F) (args : List (Text × Value S)) (es : Elements) (x : Text) → lone_text es ≡ Some x →
    let r : Reply = record { text = env.transformed x; errors = [] } in told (answer_written env args es) ≡ r
lone-told env args es x h =
    ap₂ (λ s errors. let r : Reply = record { text = s; errors = map resolver_text errors } in r)
    (lone-value env (outset args) most_placeables es x h) (lone-errors env (outset args) most_placeables es x h)
