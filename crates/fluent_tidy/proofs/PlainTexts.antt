-- Texts with a byte order mark.
use Rattle.std.proofs.Common.{◌≡◌, Bool, true, false, ◌==◌, [], ◌∷◌, drop, refl, arith}
use Rattle.std.specs.Char.{encode_utf8}
use Rattle.std.specs.Prelude.{◌&&◌}
use Rattle.std.specs.Str.{IsUtf8, IsCharBoundary}
use Rattle.std.proofs.lemmas.Str.{IsCharBoundary-past_char}
use Rattle.fluent_grammar.specs.Words.{Text}
use Rattle.fluent_tokens.proofs.Scanned.{test_of}
use Rattle.fluent_tidy.specs.TidyText.{begins_with_mark}

both : (a b : Bool) → (a && b) ≡ true → (a ≡ true) × (b ≡ true)
both true b h = (refl, h)
both false b h = absurd cc

-- the bytes of a mark at the front
pub mark_front : (s : Text) → begins_with_mark s ≡ true → s ≡ 239 ∷ 187 ∷ 191 ∷ drop 3 s
mark_front [] h = absurd cc
mark_front (a ∷ []) h = absurd cc
mark_front (a ∷ b ∷ []) h = absurd cc
mark_front (a ∷ b ∷ c ∷ cs) h =
    let first = both (a == 239) (b == 187 && c == 191) (both _ (a == 239 && (b == 187 && c == 191)) h).1 in
    let more = both (b == 187) (c == 191) first.1 in
    rw (test_of a 239 first.0, test_of b 187 more.0, test_of c 191 more.1) refl

-- a character begins after it
pub mark_ends : (s : Text) → begins_with_mark s ≡ true → IsUtf8 s → IsCharBoundary s 3
unfolding encode_utf8
mark_ends s h u = IsCharBoundary-past_char s (drop 3 s) 0 65279 (omega arith) u (mark_front s h)
