use Rattle.std.proofs.Common.{◌<◌, ◌≤◌, [], ◌∷◌, ◌++◌, length, sym, ap, ◌∙◌, arith}
use Rattle.std.specs.Ordering.{nat_cmp}
use Rattle.std.specs.Cmp.Lexicographic.{slice_cmp}
use Rattle.std.specs.Str.{bytes_eq}
use Rattle.std.specs.BTreeSet.{contains_by}
use Rattle.fluent_parser.specs.declared.named_arguments.NamedArguments.{NamedArguments}
use Rattle.fluent_parser.specs.declared.named_arguments.TheConstants.{FEW}
use Rattle.fluent_ast.specs.View.{named_view}
use Rattle.fluent_parser.proofs.Indexed.{few_more, one_more}
use Rattle.fluent_parser.proofs.named_arguments.NamedArguments.push.Goals as goal
use Rattle.fluent_parser.proofs.named_arguments.NamedArguments.push.Goals.{then-len-ge-FEW+in_ok-insert, else-len-ge-FEW}

pub returns-clause-indexed : goal.returns-clause-indexed
returns-clause-indexed g c = λ text_of named indexed name.
    let view = named_view g.row.S.Denot text_of in
    let xs = c.args.self.now.all.items in
    let x = c.args.argument in
    let added = λ (n : NamedArguments g.row.S.Denot). n.all.items ++ x ∷ [] in
    let has = λ (n : NamedArguments g.row.S.Denot). contains_by (λ k. slice_cmp nat_cmp name k.now) n.later in
    elim c.if-len-ge-FEW.branch [
      | then-len-ge-FEW+in_ok-insert w ↦
          let all_given : FEW ≤ length xs = omega (arith, c.len.ensures, w.if-len-ge-FEW.true) in
          ap has w.self-is ∙ one_more view FEW xs c.push.new.self.items x c.args.name c.args.self.now.later w.insert.new.self all_given (c.in_ok-push.ensures.items ∙ ap added w.self-is) named w.in_ok-insert.ensures.updates indexed name
      | else-len-ge-FEW w ↦
          let few_given : length xs < FEW = omega (arith, c.len.ensures, w.if-len-ge-FEW.false) in
          ap has w.self-is ∙ indexed name ∙ sym (few_more (λ x. bytes_eq (view x).name name) FEW xs c.push.new.self.items x few_given (c.in_ok-push.ensures.items ∙ ap added w.self-is))
    ]
