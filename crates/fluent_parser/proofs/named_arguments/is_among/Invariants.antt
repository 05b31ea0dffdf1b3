use Rattle.std.proofs.Common.{◌≡◌, take}
use Rattle.std.specs.Prelude.{false}
use Rattle.std.specs.List.{list_any}
use Rattle.std.specs.Str.{bytes_eq}
use Rattle.fluent_ast.specs.View.{named_view}
use Rattle.fluent_parser.proofs.named_arguments.is_among.Given as goal

abbrev pub invariant-loop-argument : goal.invariant-loop-argument
invariant-loop-argument g l = list_any (λ x. bytes_eq (named_view g.row.S.Denot g.T.Texts.text x).name l.name) (take l.argument-index l.arguments) ≡ false
