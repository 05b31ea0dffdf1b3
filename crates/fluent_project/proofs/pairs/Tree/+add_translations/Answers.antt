use Rattle.std.proofs.Common.{subst}
use Rattle.std.proofs.lemmas.Result.{on_ok_weaker}
use Rattle.fluent_project.specs.PairViews.{AddsAll, tree_view}
use Rattle.fluent_project.specs.Pairs.{is_kept}
use Rattle.fluent_project.proofs.AddsMore.{translations_more}
use Rattle.fluent_project.proofs.SaidOf.{adds_both}
use Rattle.fluent_project.proofs.pairs.Tree.+add_translations.Goals as goal

pub returns-in_ok-add_translations-in-len1-up : goal.returns-in_ok-add_translations-in-len1-up
returns-in_ok-add_translations-in-len1-up t c =
    let tree = tree_view c.args.self.now in
    let locale = c.args.locale.now in
    let rules = c.args.rules.now in
    on_ok_weaker c.add_by.result
    (λ adds. subst (λ more. AddsAll (is_kept tree locale) more c.args.pairs.now c.add_by.new.pairs)
    (translations_more tree locale rules c.rule-item.result c.in-len1-up.len_at_least c.rule-item.is)
    (adds_both (is_kept tree locale) _ _ c.args.pairs.now c.add_translations.new.pairs c.add_by.new.pairs c.in_ok-add_translations-in-len1-up.ensures adds))
    c.add_by.ensures
