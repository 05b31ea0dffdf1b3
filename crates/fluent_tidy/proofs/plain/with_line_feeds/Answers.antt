use Rattle.std.proofs.Common.{◌≡◌, ◌∙◌, ◌++◌, ◌∷◌, [], ◌-◌, take, List, ℕ, Some, None, ap, subst, arith, string_bytes}
use Rattle.memchr.specs.Find.{IsFirstByte, is_byte}
use Rattle.fluent_grammar.specs.Words.{line_feed}
use Rattle.fluent_tidy.specs.TidyText.{with_line_feeds}
use Rattle.fluent_tidy.proofs.LineFeeds.{feed_ends, line_found, lines_done, lines_go_on}
use Rattle.fluent_tidy.proofs.plain.with_line_feeds.Goals as goal

pub without_return-requires : goal.without_return-requires
without_return-requires c =
    let found : IsFirstByte (is_byte 10) c.lines.rest.now (Some c.in-Some.end) = subst (λ (x : List ℕ). IsFirstByte (is_byte 10) x (Some c.in-Some.end)) c.as_bytes.ensures.value (subst (λ r. IsFirstByte (is_byte 10) c.as_bytes.result.now r) c.in-Some.is c.memchr.ensures) in
    let whole : c.in-Some.end - 0 ≡ c.in-Some.end = omega arith in
    line_found c.lines.rest.now c.range.result.now c.in-Some.end found (c.range.ensures.value ∙ ap (λ n. take n c.lines.rest.now) whole)

pub range_from-rest-requires : goal.range_from-rest-requires
range_from-rest-requires c =
    let found : IsFirstByte (is_byte 10) c.lines.rest.now (Some c.in-Some.end) = subst (λ (x : List ℕ). IsFirstByte (is_byte 10) x (Some c.in-Some.end)) c.as_bytes.ensures.value (subst (λ r. IsFirstByte (is_byte 10) c.as_bytes.result.now r) c.in-Some.is c.memchr.ensures) in
    λ _. feed_ends c.lines.rest.now c.in-Some.end c.lines.invariant.utf8 found

pub lines-preserved : goal.lines-preserved
lines-preserved c =
    let found : IsFirstByte (is_byte 10) c.lines.rest.now (Some c.in-Some.end) = subst (λ (x : List ℕ). IsFirstByte (is_byte 10) x (Some c.in-Some.end)) c.as_bytes.ensures.value (subst (λ r. IsFirstByte (is_byte 10) c.as_bytes.result.now r) c.in-Some.is c.memchr.ensures) in
    let whole : c.in-Some.end - 0 ≡ c.in-Some.end = omega arith in
    record {
      utf8 = c.range_from-rest.utf8;
      done = lines_go_on (string_bytes c.lines.new) (string_bytes c.push.new.self) (with_line_feeds c.args.text.now) c.lines.rest.now c.range.result.now c.without_return.result.now c.range_from-rest.result.now c.in-Some.end
          c.lines.invariant.done found (c.range.ensures.value ∙ ap (λ n. take n c.lines.rest.now) whole) c.range_from-rest.ensures.value c.without_return.ensures
          (c.in_ok-push.ensures.bytes ∙ ap (λ z. string_bytes c.push_str.new.self ++ z) (c.in_ok-push.ensures.ascii (omega arith)) ∙ ap (λ z. z ++ line_feed ∷ []) c.in_ok-push_str.ensures.bytes);
    }

pub returns : goal.returns
returns c =
    let none : IsFirstByte (is_byte 10) c.lines.rest.now None = subst (λ (x : List ℕ). IsFirstByte (is_byte 10) x None) c.as_bytes.ensures.value (subst (λ r. IsFirstByte (is_byte 10) c.as_bytes.result.now r) c.in_default.is c.memchr.ensures) in
    lines_done (string_bytes c.lines.new) (string_bytes c.push_str-2.new.self) (with_line_feeds c.args.text.now) c.lines.rest.now c.lines.invariant.done none c.in_ok-push_str-2.ensures.bytes
