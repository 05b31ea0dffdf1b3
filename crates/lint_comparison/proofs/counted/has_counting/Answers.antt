use Rattle.std.proofs.Common.{◌∙◌, rules}
use Rattle.std.proofs.lemmas.Iterator.{YieldsList-from_slice}
use Rattle.std.proofs.lemmas.Iterator.Search.{any_from_yields_List}
use Rattle.fluent_ast.specs.Borrowed.{key_of}
use Rattle.lint_findings.specs.Losses.{is_counting_key}
use Rattle.lint_comparison.proofs.VariantKeys.{any_key}
use Rattle.lint_comparison.proofs.counted.has_counting.Goals as goal

pub returns : goal.returns
returns c =
    any_from_yields_List (λ variant. is_counting_key (key_of variant.key)) _ _ c.any.result c.any.ensures.ran
    (YieldsList-from_slice c.args.variants.now cc) (λ x b q called. search rules)
    ∙ any_key is_counting_key c.args.variants.now
