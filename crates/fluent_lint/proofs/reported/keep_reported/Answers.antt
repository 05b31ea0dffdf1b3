use Rattle.std.proofs.Common.{◌≡◌, ◌≤◌, ◌+◌, ◌++◌, ◌∙◌, ap, sym, arith, length, map, take, drop, append-nil}
use Rattle.std.proofs.lemmas.List.{map-set, length-map, take_all, drop_all}
use Rattle.std.proofs.Math.ListN.{get_or-map}
use Rattle.fluent_resource.specs.Sources.{texts}
use Rattle.lint_findings.specs.View.{file_findings_view}
use Rattle.fluent_lint.specs.Reported.{kept_of}
use Rattle.fluent_lint.proofs.Kept.{kept_of_each}
use Rattle.fluent_lint.proofs.Lists.{one_changed}
use Rattle.fluent_lint.proofs.reported.keep_reported.Goals as goal

pub loop-file-preserved : goal.loop-file-preserved
loop-file-preserved c =
    let keep = kept_of (texts c.args.ignored.now) in
    let fs = c.loop-file.found in
    let i = c.loop-file.file-index in
    let d = c.file-item.result in
    ap (λ z. take (i + 1) z ++ map keep (drop (i + 1) z)) (map-set file_findings_view fs i c.keep_of_file.new.file)
    ∙ one_changed keep (map file_findings_view fs) i (file_findings_view d) (file_findings_view c.keep_of_file.new.file) (omega (arith, length-map fs file_findings_view, c.loop-file-test.true))
    (c.keep_of_file.ensures ∙ ap keep (sym (get_or-map file_findings_view fs i d)))
    ∙ c.loop-file.invariant

pub returns : goal.returns
returns c =
    let ignored = texts c.args.ignored.now in
    let now = c.loop-file.found in
    let i = c.loop-file.file-index in
    let shown = map file_findings_view now in
    let past : length shown ≤ i = omega (arith, length-map now file_findings_view, c.loop-file-test.false) in
    let all : shown ≡ map (kept_of ignored) (map file_findings_view c.args.found.now) =
    sym (ap (λ l. l ++ map (kept_of ignored) (drop i shown)) (take_all i shown past) ∙ ap (λ l. shown ++ map (kept_of ignored) l) (drop_all i shown past) ∙ append-nil shown)
    ∙ c.loop-file.invariant in
    kept_of_each ignored c.args.found.now now all
