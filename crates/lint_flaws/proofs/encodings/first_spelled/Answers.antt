use Rattle.std.proofs.Common.{◌≡◌, ◌∙◌, ◌+◌, List, ℕ, drop, Some, None, option_map, sym, ap, subst}
use Rattle.memchr.specs.Find.{IsFirstByte, is_byte}
use Rattle.lint_findings.specs.Encodings.{spelled_at}
use Rattle.lint_flaws.specs.Letters.{spelled_view}
use Rattle.lint_flaws.proofs.Spelled.{found_at, none_is, not_there, spelled_is_character, there}
use Rattle.lint_flaws.proofs.encodings.first_spelled.Goals as goal

pub returns-in-Some-spelled_at-clause-first : goal.returns-in-Some-spelled_at-clause-first
returns-in-Some-spelled_at-clause-first c =
    let s = c.args.text.now in
    let i = c.loop-next.place in
    let k = c.in-Some.next in
    let x = spelled_view c.in-Some-spelled_at.spelled in
    let found = found_at s i k (subst (λ (t : List ℕ). IsFirstByte (is_byte 0xC3) t (Some k)) c.skip.ensures c.in-Some.ensures) in
    let at : spelled_at (drop (i + k) s) ≡ Some x = ap spelled_at (sym c.skip-in-Some.ensures) ∙ sym c.spelled_at.ensures ∙ ap (option_map spelled_view) c.in-Some-spelled_at.is in
    sym c.loop-next.invariant ∙ found.1 ∙ there s (i + k) x found.0 at

pub returns-in-Some-spelled_at-clause-is_character : goal.returns-in-Some-spelled_at-clause-is_character
returns-in-Some-spelled_at-clause-is_character c =
    let s = c.args.text.now in
    let i = c.loop-next.place in
    let k = c.in-Some.next in
    let x = spelled_view c.in-Some-spelled_at.spelled in
    let at : spelled_at (drop (i + k) s) ≡ Some x = ap spelled_at (sym c.skip-in-Some.ensures) ∙ sym c.spelled_at.ensures ∙ ap (option_map spelled_view) c.in-Some-spelled_at.is in
    spelled_is_character (drop (i + k) s) x at

pub loop-next-preserved : goal.loop-next-preserved
loop-next-preserved c =
    let s = c.args.text.now in
    let i = c.loop-next.place in
    let k = c.in-Some.next in
    let found = found_at s i k (subst (λ (t : List ℕ). IsFirstByte (is_byte 0xC3) t (Some k)) c.skip.ensures c.in-Some.ensures) in
    let at : spelled_at (drop (i + k) s) ≡ None = ap spelled_at (sym c.skip-in-Some.ensures) ∙ sym c.spelled_at.ensures ∙ ap (option_map spelled_view) c.in_default-spelled_at.is in
    sym (not_there s (i + k) found.0 at) ∙ sym found.1 ∙ c.loop-next.invariant

pub returns-clause-first : goal.returns-clause-first
returns-clause-first c =
    let s = c.args.text.now in
    let i = c.loop-next.place in
    sym c.loop-next.invariant ∙ none_is i (drop i s) (subst (λ (t : List ℕ). IsFirstByte (is_byte 0xC3) t None) c.skip.ensures c.in_default.ensures)
