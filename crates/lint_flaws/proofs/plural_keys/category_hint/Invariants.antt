use Rattle.std.proofs.Common.{◌≡◌, ◌++◌, drop, string_bytes}
use Rattle.lint_findings.specs.Facts.{category_list}
use Rattle.lint_flaws.proofs.plural_keys.category_hint.Given as goal

abbrev pub invariant-loop-category : goal.invariant-loop-category
invariant-loop-category l =
    string_bytes l.hint ++ category_list (drop l.category-index l.categories) ≡ string_bytes l.initial.hint ++ category_list l.categories
