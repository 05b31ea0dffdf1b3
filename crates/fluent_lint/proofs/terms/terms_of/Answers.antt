use Rattle.std.proofs.Common.{◌∙◌, ap, map, sym}
use Rattle.std.proofs.lemmas.Result.{IfOk-weaker}
use Rattle.fluent_ast.specs.Borrowed.{entries_of}
use Rattle.fluent_grammar.specs.Words.{is_among}
use Rattle.fluent_lint.specs.Reading.{sources_of}
use Rattle.fluent_lint.proofs.Trees.{sources_viewed}
use Rattle.fluent_resource.specs.Sources.{texts}
use Rattle.lint_findings.specs.UnusedTerms.{referred_terms}
use Rattle.fluent_lint.proofs.terms.terms_of.Goals as goal

pub returns : goal.returns
returns c =
    let files = c.args.files.now.files.now in
    let ids = ap texts c.deref-2.ensures.value ∙ c.in_ok-ids.ensures (sources_of files) (ap (map entries_of) c.deref.ensures.value ∙ c.requires.trees) in
    IfOk-weaker c.of.result _ _ (λ terms are. λ id. are id ∙ ap (is_among id) (ids ∙ ap referred_terms (sym (sources_viewed files)))) c.of.ensures
