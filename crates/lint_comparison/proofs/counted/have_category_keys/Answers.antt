use Rattle.std.proofs.Common.{◌∙◌, rules}
use Rattle.std.proofs.lemmas.Iterator.{YieldsList-from_slice}
use Rattle.std.proofs.lemmas.Iterator.Search.{all_from_yields_List}
use Rattle.fluent_ast.specs.Borrowed.{key_of}
use Rattle.lint_findings.specs.Losses.{is_category_key}
use Rattle.lint_comparison.proofs.VariantKeys.{all_keys}
use Rattle.lint_comparison.proofs.counted.have_category_keys.Goals as goal

pub returns : goal.returns
returns c =
    all_from_yields_List (λ variant. is_category_key (key_of variant.key)) _ _ c.all.result c.all.ensures.ran
    (YieldsList-from_slice c.args.variants.now cc) (λ x b q called. search rules)
    ∙ all_keys is_category_key c.args.variants.now
