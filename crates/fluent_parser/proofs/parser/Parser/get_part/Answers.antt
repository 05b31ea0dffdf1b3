use Rattle.std.proofs.Common.{◌≡◌, ◌∙◌, ◌+◌, ◌-◌, ◌<◌, ◌++◌, ℕ, List, length, drop, map, sym, ap, arith, subst}
use Rattle.fluent_grammar.specs.Words.{Text}
use Rattle.fluent_grammar.specs.Reading.{entry_at}
use Rattle.fluent_grammar.specs.Tiling.{errors_of, behind_junk}
use Rattle.fluent_tokens.specs.Counted.{Cuts}
use Rattle.fluent_parsed.specs.ErrorView.{ErrorView, error_view, error_told, kind_view}
use Rattle.fluent_parser.specs.Places.{error_by}
use Rattle.fluent_parser.specs.Reads.{Refuses}
use Rattle.fluent_parser.specs.Parts.{behind_piece}
use Rattle.fluent_parsed.proofs.CollectedEntries.{told_more}
use Rattle.fluent_parser.proofs.Parts.{junk_cuts, junk_less, junk_rest, junk_behind, junk_told, entry_less}
use Rattle.fluent_parser.proofs.parser.Parser.get_part.Goals as goal

pub take-requires : goal.take-requires
take-requires g c =
    let s = c.args.self.now.rest.now in
    let place = c.get_entry.new.self.rest.now in
    let h : Refuses c.in-Err-Refused.kind place (entry_at s) = rw c.in-Err-Refused.field-0-is at c.in-Err-Refused.ensures.gives in
    let e : c.rest.result.now ≡ behind_junk s place = c.rest.ensures ∙ c.skip_to_next_entry_start.ensures.rest ∙ ap (λ (z : Text). behind_junk z place) c.rest-start.ensures in
    let cut : Cuts s (length s - length c.rest.result.now) = junk_cuts s c.rest.result.now c.in-Err-Refused.kind place h c.requires.some e c.rest.utf8 in
    let at_start : Cuts c.rest-start.result.now (length c.rest-start.result.now - length c.rest.result.now) = subst (λ (z : Text). Cuts z (length z - length c.rest.result.now)) (sym c.rest-start.ensures) cut in
    subst (λ (z : Text). Cuts z (length c.rest-start.result.now - length c.rest.result.now)) (sym c.set_rest.ensures.rest) at_start

pub returns-in_ok-push_entry-in-Ok-clause-less : goal.returns-in_ok-push_entry-in-Ok-clause-less
returns-in_ok-push_entry-in-Ok-clause-less g c = entry_less c.args.self.now.rest.now _ _ c.in-Ok.ensures.gives

pub returns-in_ok-push_junk-in-Err-Refused-clause-less : goal.returns-in_ok-push_junk-in-Err-Refused-clause-less
returns-in_ok-push_junk-in-Err-Refused-clause-less g c =
    let s = c.args.self.now.rest.now in
    let place = c.get_entry.new.self.rest.now in
    let h : Refuses c.in-Err-Refused.kind place (entry_at s) = rw c.in-Err-Refused.field-0-is at c.in-Err-Refused.ensures.gives in
    let e : c.rest.result.now ≡ behind_junk s place = c.rest.ensures ∙ c.skip_to_next_entry_start.ensures.rest ∙ ap (λ (z : Text). behind_junk z place) c.rest-start.ensures in
    let less : length c.rest.result.now < length s = junk_less s c.rest.result.now c.in-Err-Refused.kind place h c.requires.some e in
    let n : c.take.new.self.rest.now ≡ behind_piece s (entry_at s) = c.take.ensures.rest ∙ ap (λ (z : Text). drop (length c.rest-start.result.now - length c.rest.result.now) z) (c.set_rest.ensures.rest ∙ c.rest-start.ensures)
    ∙ ap (λ (z : Text). drop (length z - length c.rest.result.now) s) c.rest-start.ensures ∙ junk_rest s c.rest.result.now c.in-Err-Refused.kind place h c.requires.some e in
    let same : behind_piece s (entry_at s) ≡ c.rest.result.now = junk_behind s c.rest.result.now c.in-Err-Refused.kind place h e in
    omega (arith, ap length (n ∙ same), less)

pub returns-in_ok-push_junk-in-Err-Refused-clause-errors : goal.returns-in_ok-push_junk-in-Err-Refused-clause-errors
returns-in_ok-push_junk-in-Err-Refused-clause-errors g c = λ pieces.
    let s = c.args.self.now.rest.now in
    let text = c.args.self.now.text.now in
    let old = c.args.collected.now.errors.items in
    let place = c.get_entry.new.self.rest.now in
    let behind = c.rest.result.now in
    let end = c.place-slice_start.result + (length c.rest-start.result.now - length behind) in
    let h : Refuses c.in-Err-Refused.kind place (entry_at s) = rw c.in-Err-Refused.field-0-is at c.in-Err-Refused.ensures.gives in
    let e : behind ≡ behind_junk s place = c.rest.ensures ∙ c.skip_to_next_entry_start.ensures.rest ∙ ap (λ (z : Text). behind_junk z place) c.rest-start.ensures in
    let start : length c.rest-start.result.now ≡ length s = ap length c.rest-start.ensures in
    let here : length c.get_entry.new.self.text.now ≡ length text = ap length c.get_entry.ensures.advances.text in
    told_more error_view old c.push_junk.new.self.errors.items c.error_at-error.result (map error_told (errors_of pieces)) c.in_ok-push_junk-in-Err-Refused.ensures.errors
    ∙ ap (λ (told : List ErrorView). map error_view old ++ told) (junk_told (length text - length s) c.args.apart s behind c.in-Err-Refused.kind place (error_view c.error_at-error.result) c.place-place.result end pieces h e
    (c.error_at-error.ensures ∙ ap (λ (n : ℕ). error_by (kind_view c.in-Err-Refused.kind) n c.place-place.result end) c.place-slice_start.ensures.value)
    (omega (arith, c.place-place.ensures.value, here, c.get_entry.ensures.advances.onward, c.place-slice_start.ensures.within))
    (omega (arith, c.place-slice_start.ensures.value, start)))

pub returns-in_ok-push_junk-in-Err-Refused-clause-rest : goal.returns-in_ok-push_junk-in-Err-Refused-clause-rest
returns-in_ok-push_junk-in-Err-Refused-clause-rest g c =
    let s = c.args.self.now.rest.now in
    let place = c.get_entry.new.self.rest.now in
    let h : Refuses c.in-Err-Refused.kind place (entry_at s) = rw c.in-Err-Refused.field-0-is at c.in-Err-Refused.ensures.gives in
    let e : c.rest.result.now ≡ behind_junk s place = c.rest.ensures ∙ c.skip_to_next_entry_start.ensures.rest ∙ ap (λ (z : Text). behind_junk z place) c.rest-start.ensures in
    c.take.ensures.rest ∙ ap (λ (z : Text). drop (length c.rest-start.result.now - length c.rest.result.now) z) (c.set_rest.ensures.rest ∙ c.rest-start.ensures)
    ∙ ap (λ (z : Text). drop (length z - length c.rest.result.now) s) c.rest-start.ensures ∙ junk_rest s c.rest.result.now c.in-Err-Refused.kind place h c.requires.some e
