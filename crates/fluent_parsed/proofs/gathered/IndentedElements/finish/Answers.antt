use Rattle.std.proofs.Common.{◌≡◌, ◌<◌, ◌∙◌, ap, sym, arith, Some, map, take, length}
use Rattle.std.proofs.lemmas.List.{take-map, length-map, length-take, with_items_is}
use Rattle.std.specs.Vec.{with_items}
use Rattle.fluent_ast.specs.View.{element_view, elements_of}
use Rattle.fluent_ast.proofs.Views.{pattern_view-roll}
use Rattle.fluent_parsed.specs.Elements.{kept_of, dedented_from, last_trimmed}
use Rattle.fluent_parsed.proofs.Ends.{value_there}
use Rattle.fluent_parsed.proofs.gathered.IndentedElements.finish.Goals as goal

pub returns : goal.returns
returns g c =
    let view = element_view g.row.S.Denot g.T.Texts.text in
    let all = c.args.self.elements.items in
    let line = c.args.self.begins_line in
    let common = c.args.self.common_indent in
    let count = c.kept_len-kept.result in
    let front = ap (λ z. take count (map view z)) (sym c.as_slice.ensures.value) ∙ c.kept_len-kept.ensures.kept ∙ ap (λ z. kept_of (map view z)) c.as_slice.ensures.value in
    let kept = ap (map view) c.truncate.ensures.items ∙ sym (take-map view count all) ∙ front in
    let dedented = c.in_ok-dedent_all.ensures ∙ ap (λ z. dedented_from line common (map view z)) c.deref_mut.ensures.value ∙ ap (dedented_from line common) kept in
    let first = with_items c.truncate.new.self c.dedent_all.new.elements in
    let n : length c.dedent_all.new.elements ≡ c.truncate.new.self.len = omega (arith, c.dedent_all.auto.elements, c.deref_mut.ensures.len, c.deref_mut.ensures.value, c.truncate.new.self.ok.0) in
    let m : length c.trim_last.new.elements ≡ first.len = omega (arith, c.trim_last.auto.elements, c.deref_mut-2.ensures.len, c.truncate.new.self.ok.0, n) in
    let same = with_items_is c.truncate.new.self c.dedent_all.new.elements n in
    let trimmed = c.trim_last.ensures ∙ ap (λ z. last_trimmed (map view z)) (c.deref_mut-2.ensures.value ∙ same) ∙ ap last_trimmed dedented in
    let there : 0 < length (kept_of (map view all)) = omega (arith, ap length front, length-take count (map view all), length-map all view, c.kept_len-kept.ensures.within, ap length c.as_slice.ensures.value, c.if-kept-eq0.false) in
    ap Some (pattern_view-roll g.row.S.Denot g.T.Texts.text (record { elements = c.shrink_short.new.list }))
    ∙ ap (λ z. Some (elements_of (map view z))) (c.shrink_short.ensures ∙ with_items_is first c.trim_last.new.elements m)
    ∙ ap (λ z. Some (elements_of z)) trimmed
    ∙ value_there line common (kept_of (map view all)) there
