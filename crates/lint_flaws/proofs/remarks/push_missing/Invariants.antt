use Rattle.std.proofs.Common.{◌≡◌, ◌++◌, map, drop}
use Rattle.lint_findings.specs.View.{remark_view}
use Rattle.lint_findings.specs.EntryFindings.{category_remark}
use Rattle.lint_flaws.proofs.remarks.push_missing.Given as goal

abbrev pub invariant-loop-category : goal.invariant-loop-category
invariant-loop-category l =
    map remark_view l.found.items ++ map (category_remark l.is_shown) (drop l.category-index l.categories)
    ≡ map remark_view l.initial.found.items ++ map (category_remark l.is_shown) l.categories
