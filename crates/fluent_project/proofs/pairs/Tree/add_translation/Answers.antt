use Rattle.std.proofs.Common.{subst}
use Rattle.std.proofs.lemmas.Result.{on_ok_weaker}
use Rattle.fluent_project.specs.Pairs.{is_kept}
use Rattle.fluent_project.specs.PairViews.{IsTranslation, tree_view}
use Rattle.fluent_project.proofs.AddsOne.{adds_translation, adds_untranslated}
use Rattle.fluent_project.proofs.pairs.Tree.add_translation.Goals as goal

pub returns-in-Some : goal.returns-in-Some
returns-in-Some c =
    let p = c.args.patterns in
    let file = c.args.file.now in
    let kept = is_kept (tree_view c.args.self.now) p.locale.now in
    on_ok_weaker c.add.result
    (adds_translation kept p c.args.number file c.in-Some.path c.args.pairs.now c.add.new.pairs
    (subst (IsTranslation p file) c.in-Some.is c.in_ok-path.ensures))
    c.add.ensures

pub returns-in-None : goal.returns-in-None
returns-in-None c =
    let p = c.args.patterns in
    let file = c.args.file.now in
    let kept = is_kept (tree_view c.args.self.now) p.locale.now in
    adds_untranslated kept p c.args.number file c.args.pairs.now (subst (IsTranslation p file) c.in-None.is c.in_ok-path.ensures)
