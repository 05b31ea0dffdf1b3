use Rattle.std.proofs.Common.{◌≡◌, ◌∙◌, ◌<◌, ◌≤◌, List, Option, [], ◌∷◌, ◌++◌, ap, arith, get_or, length, map, refl, rules as steps, subst, sym}
use Rattle.std.proofs.lemmas.List.{take_all}
use Rattle.std.proofs.lemmas.Option.{unwrap_or-slice_get}
use Rattle.std.specs.List.{slice_get}
use Rattle.std.specs.Prelude.{unwrap_or}
use Rattle.lint_entries.specs.First.{AreFirst}
use Rattle.lint_files.specs.RulesView.{rules_view}
use Rattle.lint_findings.specs.View.{file_view}
use Rattle.lint_findings.specs.declared.records.FileFindings.{FileFindings}
use Rattle.fluent_lint.specs.FileTiles.{files_of, files_view}
use Rattle.fluent_lint.specs.Languages.{catalogs_of}
use Rattle.fluent_lint.specs.ReferenceView.{files_found}
use Rattle.fluent_lint.specs.Silence.{heard, looked_in}
use Rattle.fluent_lint.specs.declared.looked.Looked.{Looked}
use Rattle.lint_findings.specs.View.{finding_view}
use Rattle.fluent_lint.specs.Taken.{declared_with}
use Rattle.fluent_lint.specs.Translated.{LanguageFile, found_for, original_ids}
use Rattle.fluent_lint.specs.declared.original.Original.{Original}
use Rattle.fluent_lint.specs.declared.original.Original.TheVariants as of
use Rattle.fluent_lint.specs.declared.tiles.FileTiles.{FileTiles}
use Rattle.fluent_lint.proofs.EachFound.{findings_in, findings_pushed, none_left, one_each}
use Rattle.fluent_lint.proofs.Loops.{one_pushed}
use Rattle.fluent_lint.proofs.Parallel.{same_at}
use Rattle.fluent_lint.proofs.language.found_in_files.Goals as goal

pub loop-index-init : goal.loop-index-init
loop-index-init c = ([], c.new-others.ensures, search steps, search steps, search steps)

pub loop-index-preserved : goal.loop-index-preserved
loop-index-preserved c =
    let rules = rules_view c.args.rules.now in
    let reference = files_found c.args.reference.now.found.items in
    let tiled = c.args.own.now.tiles.items in
    let catalogs = catalogs_of c.args.reference.now (files_of tiled) in
    let i = c.loop-index.index in
    let item = c.tiles-item.result in
    let inside : i < length tiled = subst (λ (ts : List FileTiles). i < length ts) c.deref-tiles-items.ensures.value c.loop-index-test.true in
    let is_there : item ≡ get_or tiled i item = c.tiles-item.is ∙ ap (λ (ts : List FileTiles). get_or ts i item) c.deref-tiles-items.ensures.value in
    let inv = c.loop-index.invariant in
    let before = inv.0 in
    let original = c.unwrap_or-original.result in
    let from : original ≡ unwrap_or (slice_get c.args.originals.now i) of.Unasked = c.unwrap_or-original.ensures
    ∙ ap (λ (o : Option Original). unwrap_or o of.Unasked) c.copied.ensures
    ∙ c.get.ensures.lookup.4 (omega arith) of.Unasked
    ∙ sym (unwrap_or-slice_get c.args.originals.now i of.Unasked) in
    let same : c.file.result.tiles.now ≡ item = c.file.ensures.tiles
    ∙ same_at (λ x. x) (λ x. x) tiled tiled refl i c.file.result.tiles.now item inside
    ∙ sym is_there in
    let is = c.in_ok-found.ensures (files_view (files_of tiled)) c.file.ensures.wide in (
      declared_with (original_ids reference original) (file_view item.file) before,
      subst (λ (t : FileTiles). AreFirst c.found_for.new.others (declared_with (original_ids reference original) (file_view t.file) before)) same (is.declared before inv.1),
      one_pushed tiled i item inside is_there
          (λ (f : FileFindings). f.file) (λ (t : FileTiles). t.file) c.loop-index.files.items c.push.new.self.items _ c.in_ok-push.ensures.items refl inv.2,
      one_each rules catalogs reference c.args.originals.now (λ (l : LanguageFile). l.findings) before tiled i item
          (findings_in c.loop-index.files.items) (findings_in c.push.new.self.items) original
          inside is_there from
          (findings_pushed c.loop-index.files.items c.push.new.self.items _ c.in_ok-push.ensures.items
          ∙ ap (λ fs. findings_in c.loop-index.files.items ++ fs ∷ [])
          (c.in_ok-hear.ensures
          ∙ ap (λ (looked : Looked). heard looked (file_view item.file).source (map finding_view c.in_ok-found.found.findings.items)) c.in_language-looked.ensures
          ∙ ap (λ (l : LanguageFile). heard (looked_in rules.plurals original) (file_view item.file).source l.findings) (is.found_is before inv.1)
          ∙ ap (λ (t : FileTiles). heard (looked_in rules.plurals original) (file_view item.file).source (found_for rules catalogs before (file_view t.file) reference original).findings) same))
          inv.3,
      one_each rules catalogs reference c.args.originals.now (λ (l : LanguageFile). l.messages) before tiled i item
          c.loop-index.messages.items c.push-in-loop-index.new.self.items original
          inside is_there from
          (c.in_ok-push-2.ensures.items
          ∙ ap (λ (l : LanguageFile). c.loop-index.messages.items ++ l.messages ∷ []) (is.found_is before inv.1)
          ∙ ap (λ (t : FileTiles). c.loop-index.messages.items ++ (found_for rules catalogs before (file_view t.file) reference original).messages ∷ []) same)
          inv.4,
    )

pub returns : goal.returns
returns c =
    let rules = rules_view c.args.rules.now in
    let reference = files_found c.args.reference.now.found.items in
    let tiled = c.args.own.now.tiles.items in
    let catalogs = catalogs_of c.args.reference.now (files_of tiled) in
    let i = c.loop-index.index in
    let inv = c.loop-index.invariant in
    let over : length tiled ≤ i = subst (λ (ts : List FileTiles). length ts ≤ i) c.deref-tiles-items.ensures.value c.loop-index-test.false in
    record {
      named = inv.2 ∙ ap files_of (take_all i tiled over);
      findings = none_left rules catalogs reference c.args.originals.now (λ (l : LanguageFile). l.findings) inv.0 tiled i
          (findings_in c.loop-index.files.items) over inv.3;
      messages = none_left rules catalogs reference c.args.originals.now (λ (l : LanguageFile). l.messages) inv.0 tiled i
          c.loop-index.messages.items over inv.4;
    }
