use Rattle.std.proofs.Common.{◌≡◌, ◌∙◌, [], ap, inl, inr, map, refl, string_bytes, subst}
use Rattle.fluent_serve.specs.Texts.{texts}
use Rattle.lint_findings.specs.Comparison.{union}
use Rattle.ftl_files.specs.Listed.{each_once}
use Rattle.ftl_files.specs.States.{state_of}
use Rattle.ftl_files.specs.Tidying.{GoesThrough}
use Rattle.ftl_files.specs.TidyView.{listed_view, said_view}
use Rattle.ftl_files.proofs.TidyLemmas.{all_through, on_err}
use Rattle.ftl_files.proofs.tidying.tidy_files.Goals as goal

pub returns-in_err-listed-clause-stopped : goal.returns-in_err-listed-clause-stopped
returns-in_err-listed-clause-stopped g c = on_err c.from_residual.result (inl c.list_paths.ensures.kept)

pub returns-in_err-names-clause-stopped : goal.returns-in_err-names-clause-stopped
returns-in_err-names-clause-stopped g c = on_err c.from_residual-in_err-names.result (inl c.in_ok-listed.ensures.kept)

pub returns-in_err-add_listed-clause-stopped : goal.returns-in_err-add_listed-clause-stopped
returns-in_err-add_listed-clause-stopped g c =
    let listed = listed_view c.in_ok-listed.listed in
    let middle = state_of g.F.Folder c.list_paths.new.folder in
    let there = state_of g.F.Folder c.tidy_all.new.folder in
    let said = said_view c.in_ok-tidied.tidied in
    let same : texts c.deref-2.result.now ≡ each_once listed =
    ap texts c.deref-2.ensures.value ∙ (c.in_ok-names.ensures ∙ ap (λ names. union [] (map string_bytes names)) c.deref.ensures.value) in
    on_err c.from_residual-in_err-add_listed.result (inr (record {
      listed = listed;
      middle = middle;
      lists = c.in_ok-listed.ensures.listed;
      through = all_through c.args.check middle there there (each_once listed) said (subst (λ names. GoesThrough c.args.check middle names said there) same c.in_ok-tidied.ensures.tidied) refl;
    }))
