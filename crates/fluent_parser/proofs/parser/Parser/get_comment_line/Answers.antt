use Rattle.std.proofs.Common.{◌≡◌, ◌∙◌, List, ℕ, true, false, length, take, drop, refl, sym, ap, rules, ◌∷◌, [], unwrap_or}
use Rattle.std.specs.Prelude.{◌==◌}
use Rattle.fluent_grammar.specs.Refusal.{got}
use Rattle.fluent_grammar.specs.Words.{after_line_end}
use Rattle.fluent_tokens.specs.Counted.{is_comment_line}
use Rattle.fluent_parser.proofs.Comments.{comment_line_is, comment_line_refused, no_line_left}
use Rattle.fluent_parser.proofs.parser.Parser.get_comment_line.Goals as goal

pub returns-then-is_empty-clause-gives : goal.returns-then-is_empty-clause-gives
returns-then-is_empty-clause-gives g c =
    let h : (length c.args.self.now.rest.now == 0) ≡ true = search rules in
    no_line_left c.args.self.now.rest.now h

pub returns-then-not-is_comment_line-clause-gives : goal.returns-then-not-is_comment_line-clause-gives
returns-then-not-is_comment_line-clause-gives g c =
    let s = c.args.self.now.rest.now in
    let h : is_comment_line s ≡ false = ap is_comment_line (sym c.bytes-2.ensures.value) ∙ sym c.is_comment_line.ensures ∙ c.if-not-is_comment_line.true in
    rw (comment_line_refused s h) (refl, refl)

pub returns-clause-gives : goal.returns-clause-gives
returns-clause-gives g c =
    let s = c.args.self.now.rest.now in
    let u = c.take_byte_if.new.self.rest.now in
    let n = c.line_len-count.result in
    let h : is_comment_line s ≡ true = ap is_comment_line (sym c.bytes-2.ensures.value) ∙ sym c.is_comment_line.ensures ∙ c.if-not-is_comment_line.false in
    let z : (length s == 0) ≡ false = search rules in
    let same = c.line_len-count.ensures.stays.rest in
    comment_line_is s u n z h c.take_byte_if.ensures.rest c.line_len-count.ensures.value
    ∙ ap (λ (x : List ℕ). got (x ∷ []) (unwrap_or (after_line_end (drop n u)) (drop n u))) (ap (take n) (sym same) ∙ sym c.in_ok-line.ensures.value)
    ∙ ap (got (g.T.Texts.text c.in_ok-line.line ∷ [])) (ap (λ (x : List ℕ). unwrap_or (after_line_end x) x) (ap (drop n) (sym same) ∙ sym c.take.ensures.rest) ∙ sym c.skip_eol.ensures.rest)
