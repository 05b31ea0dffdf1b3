use Rattle.std.proofs.Common.{◌≡◌, ◌∙◌, List, Option, Some, None, ap, length, refl, sym}
use Rattle.std.proofs.lemmas.Option.{slice_get_past, slice_get_read}
use Rattle.std.proofs.lemmas.List.{length-map}
use Rattle.std.specs.List.{slice_get}
use Rattle.std.specs.Option.{option_map_or}
use Rattle.lint_findings.specs.View.{file_view}
use Rattle.fluent_lint.specs.Pairs.{message_ids}
use Rattle.fluent_lint.specs.declared.tiles.FileTiles.{FileTiles}
use Rattle.fluent_lint.proofs.ReferenceFiles.{said_at}
use Rattle.fluent_lint.proofs.reference.ReferenceCatalog.message_count.Goals as goal

pub returns-in_ok-ids-in-Some : goal.returns-in_ok-ids-in-Some
returns-in_ok-ids-in-Some c =
    let tiled = c.args.self.now.own.tiles.items in
    let seen = c.deref.result.now in
    let i = c.args.index in
    let lookup = c.in-Some.ensures.lookup in
    let tiles = c.in-Some.tiles.now in
    let there : slice_get tiled i ≡ Some tiles = ap (λ (ts : List FileTiles). slice_get ts i) (sym c.deref.ensures.value) ∙ slice_get_read seen (length seen) i tiles refl lookup.3.0 lookup.1 in
    let ids = c.in_ok-ids-in-Some.ids.list in
    c.len.ensures ∙ ids.ok.0 ∙ sym (length-map ids.items (λ s. s.now)) ∙ ap length c.in_ok-ids-in-Some.ensures.listed
    ∙ sym (said_at c.args.self.now c.requires i (λ file. length (message_ids file)) 0
    ∙ ap (λ (o : Option FileTiles). option_map_or (λ (t : FileTiles). length (message_ids (file_view t.file))) o 0) there)

pub returns-in-None : goal.returns-in-None
returns-in-None c =
    let tiled = c.args.self.now.own.tiles.items in
    let seen = c.deref.result.now in
    let i = c.args.index in
    let there : slice_get tiled i ≡ None = ap (λ (ts : List FileTiles). slice_get ts i) (sym c.deref.ensures.value) ∙ slice_get_past seen i c.in-None.ensures.lookup.3 in
    sym (said_at c.args.self.now c.requires i (λ file. length (message_ids file)) 0
    ∙ ap (λ (o : Option FileTiles). option_map_or (λ (t : FileTiles). length (message_ids (file_view t.file))) o 0) there)
