use Rattle.std.proofs.Common.{◌≡◌, ◌∙◌, ◌++◌, ap, sym, subst, arith, take, drop, Some, None, List, ℕ, get_or}
use Rattle.std.proofs.lemmas.Str.{IsCharBoundary-after_ascii}
use Rattle.std.proofs.lemmas.Grind.{common_steps}
use Rattle.memchr.specs.Find.{IsFirstByte, is_byte}
use Rattle.fluent_grammar.specs.Escapes.{unescaped, escape_at}
use Rattle.fluent_tokens.proofs.Scanned.{test_of}
use Rattle.fluent_tokens.proofs.Unescaped.{Took, took_plain, took_character, took_prefix, took_all, no_escape, on_err, on_ok}
use Rattle.fluent_tokens.proofs.unescape.unescape_unicode.Goals as goal

pub range_from-escaped-requires : goal.range_from-escaped-requires
range_from-escaped-requires g c =
    let s = c.loop-place.rest.now in
    let found = subst (λ (x : List ℕ). IsFirstByte (is_byte 92) x (Some c.in-Some.place)) c.as_bytes.ensures.value c.in-Some.ensures in
    let sign : get_or s c.in-Some.place 0 ≡ 92 = test_of _ 92 found.1 in
    λ _. IsCharBoundary-after_ascii s c.in-Some.place c.loop-place.invariant.0 found.0.high (omega arith)

pub returns-in_err-write_str-2-clause-refused : goal.returns-in_err-write_str-2-clause-refused
returns-in_err-write_str-2-clause-refused g c =
    let text = g.W.TextWrite.text in
    let s = c.loop-place.rest.now in
    let found = subst (λ (x : List ℕ). IsFirstByte (is_byte 92) x (Some c.in-Some.place)) c.as_bytes.ensures.value c.in-Some.ensures in
    let whole = unescaped c.args.text.now in
    let front : c.range.result.now ≡ take c.in-Some.place s = grind (arith, common_steps, c.range.ensures.value) in
    let plain = took_plain (text c.args.w.now) (text c.loop-place.w) (text c.write_str.new.self) whole s c.range.result.now c.in-Some.place found c.loop-place.invariant.1 front c.in_ok-write_str.ensures.taken in
    on_err _ _ (took_prefix (text c.args.w.now) (text c.write_str.new.self) (text c.write_str-in-Some.new.self) whole _ plain c.in_err-write_str-2.ensures.refused)

pub loop-place-preserved : goal.loop-place-preserved
loop-place-preserved g c =
    let text = g.W.TextWrite.text in
    let s = c.loop-place.rest.now in
    let found = subst (λ (x : List ℕ). IsFirstByte (is_byte 92) x (Some c.in-Some.place)) c.as_bytes.ensures.value c.in-Some.ensures in
    let whole = unescaped c.args.text.now in
    let front : c.range.result.now ≡ take c.in-Some.place s = grind (arith, common_steps, c.range.ensures.value) in
    let plain = took_plain (text c.args.w.now) (text c.loop-place.w) (text c.write_str.new.self) whole s c.range.result.now c.in-Some.place found c.loop-place.invariant.1 front c.in_ok-write_str.ensures.taken in
    let escaped = c.range_from-escaped.result.now in
    let before = subst (λ (z : List ℕ). Took (text c.args.w.now) (text c.write_str.new.self) whole ((escape_at z).stands_for ++ unescaped (drop (escape_at z).len z))) (sym c.range_from-escaped.ensures.value) plain in (
      c.range_from-rest.utf8,
      took_character (text c.args.w.now) (text c.write_str.new.self) (text c.write_str-in-Some.new.self) whole escaped c.encode_utf8.result.now c.range_from-rest.result.now c.escape_at-escape.result.len before
          (c.encode_utf8.ensures.value ∙ c.escape_at-escape.ensures.character) c.in_ok-write_str-2.ensures.taken c.escape_at-escape.ensures.len c.range_from-rest.ensures.value,
    )

pub returns-clause-taken : goal.returns-clause-taken
returns-clause-taken g c =
    let text = g.W.TextWrite.text in
    let s = c.loop-place.rest.now in
    let none = subst (λ (x : List ℕ). IsFirstByte (is_byte 92) x None) c.as_bytes.ensures.value c.in_default.ensures in
    on_ok _ _ _ (λ e. took_all (text c.args.w.now) (text c.loop-place.w) (text c.write_str-2.new.self) (unescaped c.args.text.now) (unescaped s) c.loop-place.invariant.1 (e ∙ ap (λ z. text c.loop-place.w ++ z) (sym (no_escape s none)))) c.write_str-2.ensures.taken
