-- What is left to do while sources are joined.
use Rattle.std.proofs.Common.{◌≡◌, ℕ, zero, suc, ◌+◌, ◌<◌, ◌≤◌, true, List, [], ◌∷◌, ◌++◌, length, drop, get_or, refl, sym, ap, ◌∙◌, arith, append_assoc, append-nil, subst}
use denote.Ref.{Bor}
use Rattle.std.specs.Str.{IsUtf8}
use Rattle.std.proofs.Math.Seq.{drop-cons}
use Rattle.fluent_grammar.specs.Words.{Text}
use Rattle.fluent_tidy_laws.specs.Cut.{cut}
use Rattle.fluent_tidy_laws.specs.Joined.{joined, line_ended, AreUtf8}
use Rattle.fluent_tidy.specs.Sources.{texts}
use Rattle.fluent_tidy.proofs.LinesEnded.{are_lines, line_ended-lines, line_ended-behind}

-- what was written, with the sources from this place on, is the joined text
pub record Gathering (sources : List Text) (now : Text) (place : ℕ) : Type 0 where
  pub holds : now ++ joined (drop place sources) ≡ joined sources
  pub lines : are_lines now ≡ true
  pub utf8 : AreUtf8 (drop place sources) → AreUtf8 sources

pub gathering_begins : (sources : List Text) (now : Text) → now ≡ [] → Gathering sources now 0
gathering_begins sources now e = rw e (record { holds = refl; lines = refl; utf8 = λ u. u })

pub gathering_goes_on : (sources : List Text) (now cut_behind next : Text) (place : ℕ) (source : Text) → Gathering sources now place → place < length sources → source ≡ get_or sources place source →
    cut_behind ≡ now ++ cut source → next ≡ line_ended cut_behind → IsUtf8 source → Gathering sources next (place + 1)
gathering_goes_on sources now cut_behind next place source g lt is behind ended u =
    let d : drop place sources ≡ source ∷ drop (suc place) sources = drop-cons sources place source lt ∙ ap (λ z. z ∷ drop (suc place) sources) (sym is) in
    let e : next ≡ now ++ line_ended (cut source) = ended ∙ ap line_ended behind ∙ line_ended-behind now (cut source) g.lines in
    let one : place + 1 ≡ suc place = omega arith in
    record {
      holds = ap (λ i. next ++ joined (drop i sources)) one ∙ ap (λ z. z ++ joined (drop (suc place) sources)) e ∙ append_assoc now (line_ended (cut source)) (joined (drop (suc place) sources))
          ∙ ap (λ z. now ++ joined z) (sym d) ∙ g.holds;
      lines = ap are_lines ended ∙ line_ended-lines cut_behind;
      utf8 = λ more. g.utf8 (subst AreUtf8 (sym d) (u, subst (λ i. AreUtf8 (drop i sources)) one more));
    }

over : (n : ℕ) (sources : List Text) → length sources ≤ n → drop n sources ≡ []
over zero [] h = refl
over (suc n) [] h = refl
over zero (x ∷ xs) h = absurd (omega (arith, h))
over (suc n) (x ∷ xs) h = over n xs (omega (arith, h))

pub gathering_ends : (sources : List Text) (now : Text) (place : ℕ) → Gathering sources now place → length sources ≤ place → (now ≡ joined sources) × AreUtf8 sources
gathering_ends sources now place g h =
    let d = over place sources h in
    (sym (append-nil now) ∙ ap (λ z. now ++ joined z) (sym d) ∙ g.holds, g.utf8 (subst AreUtf8 (sym d) tt))

-- a source among references
pub text_at : (sources : List (Bor Text)) (place : ℕ) (d : Bor Text) (s : Text) → place < length sources → (get_or sources place d).now ≡ get_or (texts sources) place s
text_at [] place d s lt = absurd (omega (arith, lt))
text_at (x ∷ xs) zero d s lt = refl
text_at (x ∷ xs) (suc place) d s lt = text_at xs place d s (omega (arith, lt))

pub texts-length : (sources : List (Bor Text)) → length (texts sources) ≡ length sources
texts-length [] = refl
texts-length (x ∷ xs) = ap suc (texts-length xs)
