-- The first place of a piece in a text.
use Rattle.std.proofs.Common.{◌≡◌, ◌∙◌, ℕ, ◌-◌, ◌<◌, Bool, true, false, if◌then◌else◌, [], ◌∷◌, length, drop, take, Option, Some, None, refl, ap, sym, arith, length-drop}
use Rattle.std.specs.Prelude.{unwrap_or}
use Rattle.std.specs.Str.{bytes_eq}
use Rattle.memchr.specs.Find.{FindsNeedle}
use Rattle.fluent_grammar.specs.Words.{Text, skip_blank}
use Rattle.lint_findings.specs.Runs.{from_piece, place_of}
use Rattle.lint_findings.specs.Typing.{from_text}
use Rattle.lint_texts.proofs.FoundTexts.{is_found, nowhere_is}

module _ (p otherwise : Text) where
  here : (s : Text) (b : Bool) (x : Text) (y : Option Text) → x ≡ unwrap_or y otherwise → (if b then s else x) ≡ unwrap_or (if b then Some s else y) otherwise
  here s true x y same = refl
  here s false x y same = same

  pub from_is : (s : Text) → from_piece p otherwise s ≡ unwrap_or (from_text p s) otherwise
  from_is [] = refl
  from_is (c ∷ s) = here (c ∷ s) (bytes_eq (take (length p) (c ∷ s)) p) (from_piece p otherwise s) (from_text p s) (from_is s)

-- at the place that was found, or where the text begins
pub place_is : (p s : Text) (found : Option ℕ) → 0 < length p → FindsNeedle s p 0 found → unwrap_or found (length s - length (skip_blank s)) ≡ place_of p s
place_is [] s found some finds = absurd (omega (arith, some))
place_is (c ∷ p) s None some finds =
    ap (λ x. length s - length x) (sym (from_is (c ∷ p) (skip_blank s) s ∙ ap (λ x. unwrap_or x (skip_blank s)) (nowhere_is (c ∷ p) s finds)))
place_is (c ∷ p) s (Some k) some finds =
    let there : from_text (c ∷ p) s ≡ Some (drop k s) = is_found (c ∷ p) some s k finds.1 (λ j lt. finds.0.before j (omega arith) lt) in
    let counted : k ≡ length s - length (drop k s) = omega (arith, finds.1.fits, length-drop k s) in
    counted ∙ ap (λ x. length s - length x) (sym (from_is (c ∷ p) (skip_blank s) s ∙ ap (λ x. unwrap_or x (skip_blank s)) there))
