use Rattle.std.proofs.Common.{◌≡◌, None, rules, true}
use Rattle.std.specs.Prelude.{string_bytes}
use Rattle.std.specs.BTreeMap.{get_by_text}
use Rattle.fluent_project.specs.Pairs.{is_kept}
use Rattle.fluent_project.specs.PairViews.{tree_view}
use Rattle.fluent_project.proofs.Inserted.{adds_new}
use Rattle.fluent_project.proofs.pairs.Tree.add.Goals as goal

pub returns : goal.returns
returns c =
    let may : is_kept (tree_view c.args.self.now) c.args.locale.now (string_bytes c.args.path) ≡ true = search rules in
    let none : get_by_text c.args.pairs.now (string_bytes c.args.path) ≡ None = search rules in
    adds_new (is_kept (tree_view c.args.self.now) c.args.locale.now) c.args.path c.args.source c.args.pairs.now c.insert.new.self may none c.in_ok-insert.ensures.entries
