use Rattle.std.proofs.Common.{◌∙◌, refl}
use Rattle.lint_findings.specs.EntryFindings.{category_remark}
use Rattle.lint_flaws.proofs.Said.{one_more}
use Rattle.lint_flaws.proofs.remarks.push_missing.Goals as goal

pub loop-category-preserved : goal.loop-category-preserved
loop-category-preserved c =
    one_more (category_remark c.args.is_shown) c.args.categories.now c.loop-category.category-index _ _ c.loop-category.found.items c.push.new.self.items c.in_ok-category_remark.field-0
    c.loop-category-test.true refl c.in_ok-push.ensures.items c.in_ok-category_remark.ensures
    ∙ c.loop-category.invariant
