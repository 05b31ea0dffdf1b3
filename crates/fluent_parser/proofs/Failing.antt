-- How refusals are handed on.
use Rattle.std.proofs.Common.{◌≡◌, ℕ, suc, ◌+◌, ◌-◌, ◌++◌, take, drop, refl, sym, ap, ◌∙◌, arith, subst, add-one, Result, Ok, Err}
use Rattle.std.specs.Prelude.{IsErrAnd}
use Rattle.std.specs.List.{prefix_len}
use Rattle.std.proofs.lemmas.List.{drop-drop}
use Rattle.fluent_tokens.specs.Counted.{character_or_space}
use Rattle.fluent_grammar.specs.Words.{Text, is_hex_digit}
use Rattle.fluent_grammar.specs.Refusal.{Kind, Reading, got, refused, refuse, mapped, ◌>>=◌}
use Rattle.fluent_grammar.specs.Refusal as r
use Rattle.fluent_grammar.specs.Reading.{string_content, missing_hex, first_char}
use Rattle.fluent_parser.specs.declared.fault.Fault.{Fault}
use Rattle.fluent_parser.specs.declared.fault.Fault.TheVariants as fault
use Rattle.fluent_parser.specs.Reads.{Fails, Gives, Tells}

pub tells_fails : {A : Type 0} (e : Fault) (rest at : Text) (k : Kind) (read : Reading A) → read ≡ refuse k at → rest ≡ at → Tells e k → Fails e rest read
tells_fails fault.Memory rest at k read f g t = tt
tells_fails fault.TooDeep rest at k read f g t = tt
tells_fails (fault.Refused kind) rest at k read f g t = rw f (t, g)

pub fails_bind : {A B : Type 0} (e : Fault) (rest : Text) (x : Reading A) (f : A × Text → Reading B) → Fails e rest x → Fails e rest (x >>= f)
fails_bind fault.Memory rest x f h = tt
fails_bind fault.TooDeep rest x f h = tt
fails_bind (fault.Refused kind) rest (got a u) f h = absurd h
fails_bind (fault.Refused kind) rest (refused x) f h = h

pub fails_mapped : {A B : Type 0} (e : Fault) (rest : Text) (f : A → B) (x : Reading A) → Fails e rest x → Fails e rest (mapped f x)
fails_mapped fault.Memory rest f x h = tt
fails_mapped fault.TooDeep rest f x h = tt
fails_mapped (fault.Refused kind) rest f (got a u) h = absurd h
fails_mapped (fault.Refused kind) rest f (refused x) h = h

pub fails_same : {A : Type 0} (e : Fault) (rest : Text) (x y : Reading A) → x ≡ y → Fails e rest x → Fails e rest y
fails_same e rest x y h f = subst (Fails e rest) h f

pub string_unknown : (s rest : Text) (n : ℕ) (e : Fault) → rest ≡ drop n s → Tells e (r.unknown_escape_sequence (character_or_space (drop 1 rest)))
    → string_content s ≡ refuse (r.unknown_escape_sequence (character_or_space (drop (suc n) s))) (drop n s) → Fails e rest (string_content s)
string_unknown s rest n e h t f =
    let p : drop 1 rest ≡ drop (suc n) s = ap (λ (z : Text). drop 1 z) h ∙ drop-drop 1 n s ∙ ap (λ (k : ℕ). drop k s) (add-one n) in
    tells_fails e rest (drop n s) _ (string_content s) f h (subst (λ (z : Text). Tells e (r.unknown_escape_sequence (character_or_space z))) p t)

missing_is : {A : Type 0} (s : Text) (n : ℕ) → n ≡ prefix_len is_hex_digit s → missing_hex {A = A} s ≡ refuse (r.invalid_unicode_escape_sequence (take n s ++ first_char (drop n s))) (drop n s)
unfolding missing_hex
missing_is s n e = rw e refl

pub string_missing : (s rest behind : Text) (start stop : ℕ) (e : Fault) → rest ≡ drop start s
    → Tells e (r.invalid_unicode_escape_sequence (take (stop - start) rest ++ first_char (drop (stop - start) rest))) → behind ≡ drop (stop - start) rest
    → string_content s ≡ missing_hex (drop start s) → start + prefix_len is_hex_digit (drop start s) ≡ stop → Fails e behind (string_content s)
string_missing s rest behind start stop e h t b f g =
    let n : stop - start ≡ prefix_len is_hex_digit (drop start s) = omega arith in
    let m = missing_is {A = Text} (drop start s) (stop - start) n in
    tells_fails e behind (drop (stop - start) (drop start s)) _ (string_content s) (f ∙ m) (b ∙ ap (λ (z : Text). drop (stop - start) z) h)
    (subst (λ (z : Text). Tells e (r.invalid_unicode_escape_sequence (take (stop - start) z ++ first_char (drop (stop - start) z)))) h t)

-- a refusal that `?` hands on
pub handed_on : {X Y : Type 0} (view : X → Y) (rest : Text) (result : Result X Fault) (e : Fault) (read : Reading Y) → IsErrAnd result (λ y. y ≡ e) → Fails e rest read → Gives view rest result read
handed_on view rest (Ok x) e read h f = absurd h
handed_on view rest (Err y) e read h f = subst (λ z. Fails z rest read) (sym h) f

pub ruleset handed = (fails_bind, fails_mapped, fails_same, tells_fails)
