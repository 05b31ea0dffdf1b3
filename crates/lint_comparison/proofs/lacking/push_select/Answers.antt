use Rattle.std.proofs.Common.{◌∙◌, ◌++◌, ap, sym, map}
use Rattle.std.proofs.lemmas.Result.{on_ok_weaker}
use Rattle.fluent_ast.specs.Borrowed.{elements_of, variants_of}
use Rattle.lint_nodes.specs.HasNames.{texts}
use Rattle.lint_comparison.specs.LossView.{found_pattern, loss_view, nodes_of}
use Rattle.lint_comparison.proofs.LossesAdded.{default_found}
use Rattle.lint_comparison.proofs.lacking.push_select.Goals as goal

pub returns : goal.returns
returns c =
    let names = ap texts c.deref.ensures.value ∙ c.in_ok-names.ensures.listed in
    let default = sym (ap found_pattern c.in-Some.is) ∙ c.default_of.ensures in
    on_ok_weaker c.push_names.result
    (λ added. added ∙ ap (λ l. map loss_view c.args.losses.now.items ++ l)
    (default_found (nodes_of c.args.others.now) c.args.number.now (variants_of c.args.variants.now) (elements_of c.in-Some.default.now) (texts c.deref.result.now) names default))
    c.push_names.ensures
