use Rattle.std.proofs.Common.{◌≡◌, length, take, min, ap, ◌∙◌, arith}
use Rattle.std.specs.List.{list_any}
use Rattle.std.specs.Str.{bytes_eq}
use Rattle.std.proofs.lemmas.List.{take_min}
use Rattle.fluent_parser.specs.declared.named_arguments.TheConstants.{FEW}
use Rattle.fluent_ast.specs.View.{named_view}
use Rattle.fluent_parser.proofs.Indexed.{found_first, found_later}
use Rattle.fluent_parser.proofs.named_arguments.NamedArguments.has_name.Goals as goal

pub returns-then-is_among : goal.returns-then-is_among
returns-then-is_among g c =
    let view = named_view g.row.S.Denot g.T.Texts.text in
    let name = c.args.name.now in
    let xs = c.args.self.now.all.items in
    let whole : c.min-few.result ≡ min FEW (length xs) = omega (arith, c.min-few.ensures, c.len.ensures) in
    let few = ap (λ n. take n c.deref.result.now) whole ∙ ap (take (min FEW (length xs))) c.deref.ensures.value ∙ take_min FEW xs in
    found_first view name FEW xs c.is_among.result (c.is_among.ensures ∙ ap (list_any (λ x. bytes_eq (view x).name name)) few) c.if-is_among.true

pub returns-else-is_among : goal.returns-else-is_among
returns-else-is_among g c =
    let view = named_view g.row.S.Denot g.T.Texts.text in
    let name = c.args.name.now in
    let xs = c.args.self.now.all.items in
    let whole : c.min-few.result ≡ min FEW (length xs) = omega (arith, c.min-few.ensures, c.len.ensures) in
    let few = ap (λ n. take n c.deref.result.now) whole ∙ ap (take (min FEW (length xs))) c.deref.ensures.value ∙ take_min FEW xs in
    found_later view name FEW xs c.is_among.result c.contains.result (c.is_among.ensures ∙ ap (list_any (λ x. bytes_eq (view x).name name)) few) (c.contains.ensures ∙ c.requires name) c.if-is_among.false
