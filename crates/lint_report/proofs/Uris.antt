-- Which bytes of a path a URI escapes.
use Rattle.std.proofs.Common.{◌≡◌, ◌∙◌, ℕ, zero, suc, ◌<◌, Bool, true, false, if◌then◌else◌, not, ◌&&◌, List, [], ◌∷◌, ◌++◌, refl, sym, ap}
use Rattle.std.proofs.Math.Bool.{beq}
use Rattle.std.specs.Cmp.{booleans_Decides}
use Rattle.std.proofs.lemmas.Bool.Decides.{Decides-below_and, Decides-ltb}
use Rattle.std.specs.Char.{is_ascii}
use Rattle.std.specs.List.{flat_map}
use Rattle.fluent_grammar.specs.Words.{Text}
use Rattle.lint_findings.specs.SarifReport.{is_uri_byte, uri_byte}
use Rattle.percent_encoding.specs.AsciiSet.{contains, should_percent_encode}
use Rattle.percent_encoding.specs.Percent.{encode_byte, percent_encode, percent_encode_byte}
use Rattle.lint_report.specs.declared.sarif.TheConstants.{ESCAPED}

-- the set has the byte, or a URI has it as it is
agrees : ℕ → Bool
agrees b = beq (should_percent_encode ESCAPED b) (not (is_uri_byte b))

all_agree : ℕ → Bool
all_agree zero = true
all_agree (suc n) = agrees n && all_agree n

of_ascii : (b : ℕ) → b < 128 → should_percent_encode ESCAPED b ≡ not (is_uri_byte b)
unfolding should_percent_encode agrees all_agree
of_ascii = (Decides-below_and agrees (λ b. should_percent_encode ESCAPED b ≡ not (is_uri_byte b)) all_agree
    (λ b. booleans_Decides (should_percent_encode ESCAPED b) (not (is_uri_byte b))) refl (λ _. refl) 128).0 refl

agree : (b : ℕ) → should_percent_encode ESCAPED b ≡ not (is_uri_byte b)
unfolding should_percent_encode
agree b = by (is_ascii b) refl
  where
    by : (t : Bool) → is_ascii b ≡ t → should_percent_encode ESCAPED b ≡ not (is_uri_byte b)
    by true e = of_ascii b ((Decides-ltb b 128).0 e)
    by false e = rw (e) refl

byte_is : (b : ℕ) → encode_byte ESCAPED b ≡ uri_byte b
byte_is b = rw (agree b) (by (is_uri_byte b))
  where
    by : (t : Bool) → (if not t then percent_encode_byte b else b ∷ []) ≡ (if t then b ∷ [] else percent_encode_byte b)
    by true = refl
    by false = refl

bytes_are : (bs : Text) → flat_map (encode_byte ESCAPED) bs ≡ flat_map uri_byte bs
bytes_are [] = refl
bytes_are (b ∷ bs) = ap (λ t. t ++ flat_map (encode_byte ESCAPED) bs) (byte_is b) ∙ ap (λ t. uri_byte b ++ t) (bytes_are bs)

pub escaped_is : (bs : Text) → percent_encode ESCAPED bs ≡ flat_map uri_byte bs
unfolding percent_encode
escaped_is bs = bytes_are bs
