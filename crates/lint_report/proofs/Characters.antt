-- Texts that are written character by character.
use Rattle.std.proofs.Common.{◌≡◌, ◌∙◌, ℕ, List, [], ◌∷◌, ◌++◌, map, refl, sym, ap, append_assoc, true, Option, Some, None, option_map, Result, Ok, Err, OnOk, is_ok, if◌then◌else◌, codes, String, string_bytes}
use Rattle.std.specs.List.{flat_map}
use Rattle.std.specs.Str.{chars, IsUtf8, is_utf8, encode_utf8_all}
use lib.Utf8.{encode}
use Rattle.std.specs.Prelude.{encode_utf8}
use Rattle.std.proofs.lemmas.Str.{encodes-append, encodes-chars, chars-append, IsUtf8-nil, IsUtf8-append, IsUtf8-string_bytes, IsUtf8-from_is_utf8}
use Rattle.std.proofs.lemmas.List.{flat_map_more, map-append, map-id}
use Rattle.std.proofs.lemmas.List.Concat.{flat_map-append}
use Rattle.fluent_grammar.specs.Words.{Text}
use Rattle.lint_report.specs.View.{entry_label}
use Rattle.lint_findings.specs.ShownLine.{masked_character, masked_text}

-- `piece` is what is written for a character, or for another item
pub written_next : {X : Type 0} (piece : X → Text) (old text more : Text) (xs : List X) (x : X) → text ≡ old ++ flat_map piece xs →
    more ≡ text ++ piece x → more ≡ old ++ flat_map piece (xs ++ x ∷ [])
written_next piece old text more xs x so_far pushed =
    pushed ∙ ap (λ t. t ++ piece x) so_far ∙ flat_map_more piece old xs x

-- ---- masked

abbrev pub masked_piece : ℕ → Text
masked_piece c = encode_utf8 (masked_character c)

masked_pieces : (cs : List ℕ) → encode_utf8_all (map masked_character cs) ≡ flat_map masked_piece cs
masked_pieces [] = refl
masked_pieces (c ∷ cs) = ap (λ t. masked_piece c ++ t) (masked_pieces cs)

pub masked_is : (s : Text) → masked_text s ≡ flat_map masked_piece (chars s)
masked_is s = masked_pieces (chars s)

pub masked_append : (s t : Text) → IsUtf8 s → masked_text (s ++ t) ≡ masked_text s ++ masked_text t
masked_append s t utf8 =
    ap (λ cs. encode_utf8_all (map masked_character cs)) (chars-append s t utf8)
    ∙ ap encode_utf8_all (map-append masked_character (chars s) (chars t))
    ∙ encodes-append (map masked_character (chars s)) (map masked_character (chars t))

-- ---- byte by byte

pub of_characters : (f : ℕ → Text) (cs : List ℕ) → flat_map f (encode_utf8_all cs) ≡ flat_map (λ c. flat_map f (encode_utf8 c)) cs
of_characters f [] = refl
of_characters f (c ∷ cs) =
    flat_map-append f (encode_utf8 c) (encode_utf8_all cs) ∙ ap (λ t. flat_map f (encode_utf8 c) ++ t) (of_characters f cs)

pub of_text : (f : ℕ → Text) (s : Text) → IsUtf8 s → flat_map f s ≡ flat_map (λ c. flat_map f (encode_utf8 c)) (chars s)
of_text f s utf8 = ap (flat_map f) (sym (encodes-chars s utf8)) ∙ of_characters f (chars s)

-- ---- one call after another

-- all characters were written
pub all_written : {X : Type 0} (piece : X → Text) (old text : Text) (xs all : List X) → text ≡ old ++ flat_map piece xs → map (λ x. x) xs ≡ all →
    text ≡ old ++ flat_map piece all
all_written piece old text xs all so_far end = so_far ∙ ap (λ l. old ++ flat_map piece l) (sym (map-id xs) ∙ end)

-- a text was pushed
pub pushed : {A E : Type 0} (r : Result A E) (new old more whole : Text) → new ≡ (if is_ok r then old ++ more else old) → more ≡ whole →
    OnOk r (new ≡ old ++ whole)
pushed (Ok a) new old more whole is same = is ∙ ap (λ t. old ++ t) same
pushed (Err e) new old more whole is same = tt

-- two pieces, of which the second was pushed
pub pushed_second : {A E : Type 0} (r : Result A E) (new between old first second whole : Text) →
    new ≡ (if is_ok r then between ++ second else between) → between ≡ old ++ first → whole ≡ first ++ second → OnOk r (new ≡ old ++ whole)
pushed_second (Ok a) new between old first second whole is before same =
    is ∙ ap (λ t. t ++ second) before ∙ append_assoc old first second ∙ ap (λ t. old ++ t) (sym same)
pushed_second (Err e) new between old first second whole is before same = tt

-- and of which a call wrote the second
pub wrote_second : {A E : Type 0} (r : Result A E) (new between old first second whole : Text) →
    OnOk r (new ≡ between ++ second) → between ≡ old ++ first → whole ≡ first ++ second → OnOk r (new ≡ old ++ whole)
wrote_second (Ok a) new between old first second whole is before same =
    is ∙ ap (λ t. t ++ second) before ∙ append_assoc old first second ∙ ap (λ t. old ++ t) (sym same)
wrote_second (Err e) new between old first second whole is before same = tt

-- ---- the label of a finding

masked_colon : masked_text (codes ": ") ≡ codes ": "
unfolding chars encode
masked_colon = refl

pub masked_entry : (id : Text) → IsUtf8 id → masked_text (id ++ codes ": ") ≡ masked_text id ++ codes ": "
masked_entry id utf8 = masked_append id (codes ": ") utf8 ∙ ap (λ t. masked_text id ++ t) masked_colon

colon_is_text : is_utf8 (codes ": ") ≡ true
unfolding is_utf8 chars encode
colon_is_text = refl

pub entry_is_text : {Z : Type 0} (entry : Option (String Z)) → IsUtf8 (entry_label (option_map string_bytes entry))
entry_is_text None = IsUtf8-nil
entry_is_text (Some id) = IsUtf8-append (string_bytes id) (codes ": ") (IsUtf8-string_bytes id) (IsUtf8-from_is_utf8 (codes ": ") colon_is_text)
