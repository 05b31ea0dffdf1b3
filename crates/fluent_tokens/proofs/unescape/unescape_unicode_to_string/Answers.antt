use Rattle.std.proofs.Common.{sym, subst, List, ℕ}
use Rattle.memchr.specs.Find.{IsFirstByte, is_byte}
use Rattle.fluent_tokens.proofs.Unescaped.{no_escape, no_backslash, none_found}
use Rattle.fluent_tokens.proofs.unescape.unescape_unicode_to_string.Goals as goal

pub returns-then-is_none-clause-value : goal.returns-then-is_none-clause-value
returns-then-is_none-clause-value c =
    let s = c.args.text.now in
    let found = subst (λ (x : List ℕ). IsFirstByte (is_byte 92) x c.memchr.result) c.as_bytes.ensures.value c.memchr.ensures in
    sym (no_escape s (none_found s c.memchr.result c.if-is_none.ensures found))

pub returns-then-is_none-clause-borrowed : goal.returns-then-is_none-clause-borrowed
returns-then-is_none-clause-borrowed c =
    let s = c.args.text.now in
    let found = subst (λ (x : List ℕ). IsFirstByte (is_byte 92) x c.memchr.result) c.as_bytes.ensures.value c.memchr.ensures in
    (λ _. no_backslash s (none_found s c.memchr.result c.if-is_none.ensures found), λ _. tt)
