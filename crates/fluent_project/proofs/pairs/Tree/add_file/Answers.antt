use Rattle.std.proofs.Common.{◌≡◌, false, rules}
use Rattle.std.specs.Prelude.{nat_eq}
use Rattle.std.specs.List.{starts_with}
use Rattle.fluent_project.specs.Folders.{folder}
use Rattle.fluent_project.specs.Pairs.{has_translation, is_kept}
use Rattle.fluent_project.specs.PairViews.{rule_view, tree_view}
use Rattle.fluent_project.proofs.AddsOne.{adds_other, has_none}
use Rattle.fluent_project.proofs.pairs.Tree.add_file.Goals as goal
use Rattle.fluent_project.proofs.pairs.Tree.add_file.Goals.{then-not-starts_with-via-then-not-starts_with, then-not-starts_with-via-else-not-starts_with+then-not-has_translation}

pub returns-then-not-starts_with : goal.returns-then-not-starts_with
returns-then-not-starts_with c =
    let locale = c.args.locale.now in
    let kept = is_kept (tree_view c.args.self.now) locale in
    let rule = rule_view c.args.rule.now in
    let file = c.args.file.now in
    let value = c.starts_with.ensures.value in
    elim c.then-not-starts_with.branch [
      | then-not-starts_with-via-then-not-starts_with w ↦
          let apart : starts_with nat_eq file (folder locale rule.l10n) ≡ false = search rules in
          adds_other kept locale rule file c.args.pairs.now (has_none kept locale rule file apart)
      | then-not-starts_with-via-else-not-starts_with+then-not-has_translation w ↦
          let none : has_translation locale file rule ≡ false = search rules in
          adds_other kept locale rule file c.args.pairs.now none
    ]
