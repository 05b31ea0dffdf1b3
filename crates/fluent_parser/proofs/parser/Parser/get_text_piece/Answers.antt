use Rattle.std.proofs.Common.{◌≡◌, ◌+◌, ℕ, List, drop, take, sym, refl, ap, subst, ◌∙◌}
use Rattle.fluent_grammar.specs.Lines.{ends_line, indent_of}
use Rattle.fluent_grammar.specs.Reading.{text_run}
use Rattle.fluent_grammar.specs.Refusal.{got}
use Rattle.fluent_tokens.specs.Counted.{Cuts}
use Rattle.fluent_parser.specs.Steps.{text_piece}
use Rattle.fluent_parser.proofs.Runs.{cut_behind_indent, text_shorter}
use Rattle.fluent_parser.proofs.PutPieces.{text_put}
use Rattle.fluent_parser.proofs.parser.Parser.get_text_piece.Goals as goal

pub take-requires : goal.take-requires
take-requires g c =
    let s = c.args.self.now.rest.now in
    subst (λ (z : List ℕ). Cuts z (c.args.indent + c.in-Ok.count)) (sym c.in-Ok.ensures.stays.rest) (cut_behind_indent c.args.at_line_start s (drop c.args.indent s) c.args.indent c.in-Ok.count c.requires.indent refl c.in-Ok.ensures.value.1)

pub advance-requires : goal.advance-requires
advance-requires g c =
    let s = c.args.self.now.rest.now in
    subst (λ (z : List ℕ). Cuts z (c.args.indent + c.in-Err.count)) (sym c.in-Err.ensures.stays.rest) (cut_behind_indent c.args.at_line_start s (drop c.args.indent s) c.args.indent c.in-Err.count c.requires.indent refl c.in-Err.ensures.value.1)

pub returns-in_ok-push-in-Ok-clause-gives : goal.returns-in_ok-push-in-Ok-clause-gives
returns-in_ok-push-in-Ok-clause-gives g c =
    let n = c.args.indent + c.in-Ok.count in
    let same = c.in-Ok.ensures.stays.rest in
    let behind = c.from-behind.ensures ∙ ap (drop c.args.indent) c.bytes.ensures.value in
    let run = subst (λ (z : List ℕ). text_run z ≡ got (take c.in-Ok.count z) (drop c.in-Ok.count z)) (sym behind) c.in-Ok.ensures.value.0 in
    text_put g.row.S.Denot g.T.Texts.text c.args.gathered.now c.push.new.self c.args.self.now.rest.now c.from-behind.result.now c.take.new.self.rest.now c.in_ok-value-in-Ok.value
    c.args.at_line_start c.ends_line.result c.args.indent c.in-Ok.count c.said_by-said.result c.requires.indent behind run (c.ends_line.ensures ∙ ap ends_line c.front-text.ensures)
    (c.take.ensures.rest ∙ ap (drop n) same) (c.in_ok-value-in-Ok.ensures.value ∙ ap (take n) same)
    (c.said_by-said.ensures ∙ ap (λ z. indent_of (text_piece c.args.at_line_start c.args.indent z)) c.front-text.ensures)
    (record { elements = c.in_ok-push-in-Ok.ensures.elements; begins_line = c.push.ensures.begins_line; common_indent = c.push.ensures.common_indent })

pub returns-in_ok-push-in-Ok-clause-less : goal.returns-in_ok-push-in-Ok-clause-less
returns-in_ok-push-in-Ok-clause-less g c =
    let s = c.args.self.now.rest.now in
    text_shorter s (drop c.args.indent s) c.take.new.self.rest.now c.args.indent c.in-Ok.count refl c.in-Ok.ensures.value.0 c.requires.some
    (c.take.ensures.rest ∙ ap (drop (c.args.indent + c.in-Ok.count)) c.in-Ok.ensures.stays.rest)
