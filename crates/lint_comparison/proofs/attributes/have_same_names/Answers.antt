use Rattle.std.proofs.Common.{◌∙◌, sym}
use Rattle.std.proofs.lemmas.List.{length-map}
use Rattle.fluent_ast.specs.Borrowed.{attribute_of, attributes_of}
use Rattle.lint_comparison.proofs.SameNames.{differ_in_length}
use Rattle.lint_comparison.proofs.attributes.have_same_names.Goals as goal

pub returns-then-attributes-others : goal.returns-then-attributes-others
returns-then-attributes-others c =
    let xs = c.args.attributes.now in
    let ys = c.args.others.now in
    sym (differ_in_length (attributes_of xs) (attributes_of ys) (λ e. c.if-attributes-others.true (sym (length-map xs attribute_of) ∙ e ∙ length-map ys attribute_of)))
