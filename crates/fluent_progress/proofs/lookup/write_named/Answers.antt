use Rattle.std.proofs.Common.{subst}
use Rattle.std.specs.Prelude.{◌≡◌, ◌++◌, OnOk, string_bytes}
use Rattle.fluent_value.specs.Args.{argument}
use Rattle.fluent_progress.proofs.TextGiven.{text_given}
use Rattle.fluent_progress.proofs.lookup.write_named.Goals as goal

pub returns-clause-text : goal.returns-clause-text
returns-clause-text g c =
    let args = c.args in
    let value = argument args.name.now (g.A.Lookup.arguments args.arguments.now) in
    subst (λ t. OnOk c.write_argument.result (string_bytes c.write_argument.new.out ≡ string_bytes args.out.now ++ t))
    (text_given (g.E.Context.environment args.context.now) (g.E.ValueScope.formatted args.context.now) (g.E.ValueScope.shown args.context.now) (g.met.E.Context.shows args.context.now) value) c.write_argument.ensures.text
