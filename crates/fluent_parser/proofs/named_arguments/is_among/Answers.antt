use Rattle.std.proofs.Common.{sym, ap, ◌∙◌}
use Rattle.std.specs.List.{list_any}
use Rattle.std.specs.Str.{bytes_eq}
use Rattle.std.proofs.lemmas.List.{take_all}
use Rattle.std.proofs.lemmas.List.Folds.{list_any_at}
use Rattle.fluent_ast.specs.View.{named_view}
use Rattle.fluent_parser.proofs.named_arguments.is_among.Goals as goal

pub returns-then-has_name : goal.returns-then-has_name
returns-then-has_name g c =
    let view = named_view g.row.S.Denot g.T.Texts.text in
    let name = c.args.name.now in
    let here = ap (λ x. bytes_eq (view x).name name) (sym c.argument-item.is) ∙ sym c.has_name.ensures ∙ c.if-has_name.true in
    sym (list_any_at (λ x. bytes_eq (view x).name name) c.args.arguments.now c.loop-argument.argument-index c.argument-item.result c.loop-argument-test.true here)

pub returns : goal.returns
returns g c =
    let view = named_view g.row.S.Denot g.T.Texts.text in
    let name = c.args.name.now in
    sym (sym (ap (list_any (λ x. bytes_eq (view x).name name)) (take_all c.loop-argument.argument-index c.args.arguments.now c.loop-argument-test.false)) ∙ c.loop-argument.invariant)
