use Rattle.std.proofs.Common.{◌≡◌, ℕ, suc, List, drop, sym, ap, ◌∙◌, arith, add-one}
use Rattle.std.proofs.lemmas.List.{drop-drop}
use Rattle.fluent_grammar.specs.Refusal.{got}
use Rattle.fluent_tokens.proofs.Counted.{cut_hex}
use Rattle.fluent_parser.proofs.Failing.{string_unknown, string_missing}
use Rattle.fluent_parser.proofs.parser.Parser.get_string_content.Goals as goal

pub advance-requires-in-MissingDigit-2 : goal.advance-requires-in-MissingDigit-2
advance-requires-in-MissingDigit-2 g c =
    let f = rw c.bytes.ensures.value at c.in-MissingDigit.ensures in
    rw c.advance-in-MissingDigit.ensures.rest (cut_hex _ _ (omega (arith, f.1)))

pub returns-in_ok-content-in-Quote-clause-gives : goal.returns-in_ok-content-in-Quote-clause-gives
returns-in_ok-content-in-Quote-clause-gives g c =
    let s = c.args.self.now.rest.now in
    let n = c.in-Quote.count in
    let f = rw c.bytes.ensures.value at c.in-Quote.ensures in
    let rest : c.advance.new.self.rest.now ≡ drop (suc n) s = c.advance.ensures.rest ∙ ap (λ (z : List ℕ). drop 1 z) c.take.ensures.rest ∙ drop-drop 1 n s ∙ ap (λ (k : ℕ). drop k s) (add-one n) in
    f.0 ∙ ap (λ (z : List ℕ). got z (drop (suc n) s)) (sym c.in_ok-content-in-Quote.ensures.value) ∙ ap (got (g.T.Texts.text c.in_ok-content-in-Quote.content)) (sym rest)

pub returns-in-UnknownEscape-clause-gives : goal.returns-in-UnknownEscape-clause-gives
returns-in-UnknownEscape-clause-gives g c =
    let f = rw c.bytes.ensures.value at c.in-UnknownEscape.ensures in
    string_unknown c.args.self.now.rest.now _ c.in-UnknownEscape.count _ c.advance-in-UnknownEscape.ensures.rest c.unknown_escape.ensures f.0

pub returns-in-MissingDigit-clause-gives : goal.returns-in-MissingDigit-clause-gives
returns-in-MissingDigit-clause-gives g c =
    let f = rw c.bytes.ensures.value at c.in-MissingDigit.ensures in
    string_missing c.args.self.now.rest.now _ _ c.in-MissingDigit.start c.in-MissingDigit.end _ c.advance-in-MissingDigit.ensures.rest c.missing_digit-fault.ensures c.advance-in-MissingDigit-2.ensures.rest f.0 f.1
