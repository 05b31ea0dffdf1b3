use Rattle.std.proofs.Common.{rules, subst, sym}
use Rattle.std.specs.Cmp.Lexicographic.{slice_cmp}
use Rattle.std.specs.Ordering.{nat_cmp}
use Rattle.std.proofs.lemmas.Fn.{always_returns_same}
use Rattle.fluent_project.specs.Views.{plain}
use Rattle.ftl_project.specs.FilesRead.{IsPlaceOf}
use Rattle.ftl_project.proofs.Places.{place_found}
use Rattle.ftl_project.proofs.reference.index_of.Goals as goal

pub returns : goal.returns
returns c =
    let path = c.args.path.now in
    let ps = c.args.paths.now in
    let found = c.binary_search_by.ensures.position (λ p. slice_cmp nat_cmp p.now path) (always_returns_same _ _ _ (λ a r f' k. (search rules, search rules))) in
    subst (λ place. IsPlaceOf path (plain ps) place) (sym c.ok.ensures.value)
    (place_found path ps c.binary_search_by.result c.binary_search_by.ensures.bound found)
