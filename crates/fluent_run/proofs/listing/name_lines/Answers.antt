use Rattle.std.proofs.Common.{◌++◌, map, ap, sym, ◌∙◌, append_assoc, append-nil, string_bytes}
use Rattle.fluent_ids.specs.AttributesLeft.{attributes_left}
use Rattle.fluent_serve.specs.Frames.{ended}
use Rattle.fluent_run.specs.Listing.{lines}
use Rattle.fluent_run.proofs.listing.name_lines.Goals as goal

pub loop-attribute-init : goal.loop-attribute-init
loop-attribute-init c =
    ap (λ s. s ++ lines (map (λ a. a.id) (attributes_left c.into_iter-attribute-iterator.result))) c.new-text.ensures.bytes
    ∙ ap (λ it. lines (map (λ a. a.id) (attributes_left it))) c.into_iter-attribute-iterator.ensures.into_iter_gives
    ∙ ap (λ left. lines (map (λ a. a.id) left)) c.attributes-attribute-items.ensures

pub loop-attribute-preserved : goal.loop-attribute-preserved
loop-attribute-preserved c =
    let text = string_bytes c.loop-attribute.text in
    let rest = lines (map (λ a. a.id) (attributes_left c.next.new.self)) in
    ap (λ s. s ++ rest) c.in_ok-push_line.ensures
    ∙ append_assoc text (ended c.id.result.now) rest
    ∙ ap (λ name. text ++ (ended name ++ rest)) c.id.ensures
    ∙ ap (λ left. text ++ lines (map (λ a. a.id) left)) (sym c.in-Some.ensures.steps)
    ∙ c.loop-attribute.invariant

pub returns : goal.returns
returns c =
    sym (append-nil (string_bytes c.loop-attribute.text))
    ∙ ap (λ left. string_bytes c.loop-attribute.text ++ lines (map (λ a. a.id) left)) (sym c.in-None.ensures.steps.0)
    ∙ c.loop-attribute.invariant
