-- A number in four hex digits, written as two bytes.
use Rattle.std.proofs.Common.{◌≡◌, ℕ, ◌/◌, ◌%◌, ◌<◌, ◌∷◌, ◌++◌, [], List, true, codes, refl, arith}
use Rattle.std.specs.Fmt.{digit_glyph}
use Rattle.lint_findings.specs.Scripts.{number_text}

abbrev pub two_glyphs : ℕ → List ℕ
two_glyphs n = digit_glyph true (n / 16) ∷ digit_glyph true (n % 16) ∷ []

pub four_glyphs : (n : ℕ) → n < 65536 → codes "U+" ++ (two_glyphs (n / 256) ++ two_glyphs (n % 256)) ≡ number_text n
four_glyphs n low =
    let first : n / 256 / 16 ≡ n / 4096 % 16 = omega (arith, low) in
    let third : n % 256 / 16 ≡ n / 16 % 16 = omega (arith, low) in
    let fourth : n % 256 % 16 ≡ n % 16 = omega (arith, low) in
    rw (first, third, fourth) refl
