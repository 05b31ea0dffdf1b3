use Rattle.std.proofs.Common.{◌∙◌, ◌++◌, ap, ap₂, map}
use Rattle.std.proofs.lemmas.List.{map-append}
use Rattle.lint_findings.specs.View.{finding_view}
use Rattle.lint_findings.specs.Finding.{Finding}
use Rattle.fluent_lint.specs.Pairs.{by_place}
use Rattle.fluent_lint.specs.Silence.{unused_among}
use Rattle.fluent_lint.specs.SilenceView.{silences_view}
use Rattle.fluent_lint.proofs.InOrder.{map-in_order}
use Rattle.fluent_lint.proofs.silence.leave_out.Goals as goal

pub returns : goal.returns
returns c =
    let ss = silences_view c.args.silences.now in
    ap (map finding_view) c.in_ok-order.ensures
    ∙ map-in_order finding_view (λ (f : Finding). f.offset) c.append.new.self.items
    ∙ ap by_place
    (ap (map finding_view) c.in_ok-append.ensures.items
    ∙ map-append finding_view c.keep_unsilenced.new.findings.items c.in_ok-unused.unused.items
    ∙ ap₂ (λ kept unused. kept ++ unused) c.keep_unsilenced.ensures
    (c.in_ok-unused.ensures ∙ ap (λ fs. unused_among c.args.looked (map finding_view fs) ss) c.deref.ensures.value))
