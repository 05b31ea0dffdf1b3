use Rattle.fluent_project.specs.PairViews.{tree_view}
use Rattle.fluent_project.specs.Pairs.{is_kept}
use Rattle.fluent_project.proofs.Adding.{leads_on, leads_to, translations_last, translations_next}
use Rattle.fluent_project.proofs.pairs.Tree.add_from.Goals as goal

pub loop-number-init : goal.loop-number-init
loop-number-init c = λ new adds. adds

pub loop-number-preserved : goal.loop-number-preserved
loop-number-preserved c =
    let p = c.args.patterns in
    leads_on (is_kept (tree_view c.args.self.now) p.locale.now) _ _ _ _ c.args.pairs.now c.loop-number.pairs c.add_translation.new.pairs
    (translations_next p.locale.now p.reference.now p.l10n.now c.args.self.now.references.now c.loop-number.number _ c.loop-number-test.true)
    c.loop-number.invariant c.in_ok-add_translation.ensures

pub returns : goal.returns
returns c =
    let p = c.args.patterns in
    leads_to (is_kept (tree_view c.args.self.now) p.locale.now) _ _ c.args.pairs.now c.loop-number.pairs
    (translations_last p.locale.now p.reference.now p.l10n.now c.args.self.now.references.now c.loop-number.number c.loop-number-test.false)
    c.loop-number.invariant
