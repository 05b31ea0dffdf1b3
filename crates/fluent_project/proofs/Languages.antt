-- What is put into patterns, and which languages share paths.
use Rattle.std.proofs.Common.{◌≡◌, ◌∙◌, ℕ, ◌++◌, Bool, true, false, List, [], ◌∷◌, length, drop, map, refl, ap, sym}
use Rattle.std.specs.Prelude.{◌&&◌, if◌then◌else◌, not}
use Rattle.std.proofs.Math.Seq.{drop-append_seam}
use Rattle.std.proofs.lemmas.Bool.{and_parts, false≢true}
use Rattle.fluent_project.specs.declared.part.Part.{Part}
use Rattle.fluent_project.specs.declared.part.Part.TheVariants as part
use Rattle.fluent_project.specs.declared.part.Wildcard.{Wildcard}
use Rattle.fluent_project.specs.declared.part.Wildcard.TheVariants.{Star}
use Rattle.fluent_project.specs.Laws.{LanguagesAreApart, OneLanguageStands, TextsCarryOver, for_language, wildcards}
use Rattle.fluent_project.specs.Patterns.{Matches, Text, filled, is_slash, may_be, suit}

-- ---- texts suit by the wildcards alone

abbrev each_may_be : List Wildcard → List Text → Bool
each_may_be [] [] = true
each_may_be [] (text ∷ texts) = false
each_may_be (wildcard ∷ wildcards) [] = false
each_may_be (wildcard ∷ wildcards) (text ∷ texts) = may_be wildcard text && each_may_be wildcards texts

suit_by_wildcards : (parts : List Part) (texts : List Text) → suit parts texts ≡ each_may_be (wildcards parts) texts
suit_by_wildcards [] [] = refl
suit_by_wildcards [] (text ∷ texts) = refl
suit_by_wildcards (part.Byte byte ∷ parts) texts = suit_by_wildcards parts texts
suit_by_wildcards (part.Locale ∷ parts) texts = suit_by_wildcards parts texts
suit_by_wildcards (part.Wildcard wildcard ∷ parts) [] = refl
suit_by_wildcards (part.Wildcard wildcard ∷ parts) (text ∷ texts) = ap (λ rest. may_be wildcard text && rest) (suit_by_wildcards parts texts)

pub carried_over : TextsCarryOver
carried_over from to same locale other path texts m = record {
  suited = suit_by_wildcards to texts ∙ (ap (λ ws. each_may_be ws texts) (sym same) ∙ (sym (suit_by_wildcards from texts) ∙ m.suited));
  given = refl;
}

-- ---- a language put in

suit_behind : (start : Text) (parts : List Part) (texts : List Text) → suit (map part.Byte start ++ parts) texts ≡ suit parts texts
suit_behind [] parts texts = refl
suit_behind (byte ∷ start) parts texts = suit_behind start parts texts

filled_behind : (locale start : Text) (parts : List Part) (texts : List Text)
    → filled locale (map part.Byte start ++ parts) texts ≡ start ++ filled locale parts texts
filled_behind locale [] parts texts = refl
filled_behind locale (byte ∷ start) parts texts = ap (λ rest. byte ∷ rest) (filled_behind locale start parts texts)

suit_one : (locale : Text) (parts : List Part) (texts : List Text) → suit (for_language locale parts) texts ≡ suit parts texts
suit_one locale [] texts = refl
suit_one locale (part.Byte byte ∷ parts) texts = suit_one locale parts texts
suit_one locale (part.Locale ∷ parts) texts = suit_behind locale (for_language locale parts) texts ∙ suit_one locale parts texts
suit_one locale (part.Wildcard wildcard ∷ parts) [] = refl
suit_one locale (part.Wildcard wildcard ∷ parts) (text ∷ texts) = ap (λ rest. may_be wildcard text && rest) (suit_one locale parts texts)

filled_one : (locale other : Text) (parts : List Part) (texts : List Text) → filled other (for_language locale parts) texts ≡ filled locale parts texts
filled_one locale other [] texts = refl
filled_one locale other (part.Byte byte ∷ parts) texts = ap (λ rest. byte ∷ rest) (filled_one locale other parts texts)
filled_one locale other (part.Locale ∷ parts) texts =
    filled_behind other locale (for_language locale parts) texts ∙ ap (λ rest. locale ++ rest) (filled_one locale other parts texts)
filled_one locale other (part.Wildcard wildcard ∷ parts) [] = filled_one locale other parts []
filled_one locale other (part.Wildcard wildcard ∷ parts) (text ∷ texts) = ap (λ rest. text ++ rest) (filled_one locale other parts texts)

pub one_stands : OneLanguageStands
one_stands = record {
  onto = λ pattern locale other path texts m. record {
    suited = suit_one locale pattern texts ∙ m.suited;
    given = filled_one locale other pattern texts ∙ m.given;
  };
  back = λ pattern locale other path texts m. record {
    suited = sym (suit_one locale pattern texts) ∙ m.suited;
    given = sym (filled_one locale other pattern texts) ∙ m.given;
  };
}

-- ---- two languages

abbrev before_slash : Text → Text
before_slash [] = []
before_slash (byte ∷ text) = if is_slash byte then [] else byte ∷ before_slash text

before_step : (is : Bool) (byte : ℕ) (text rest : Text) → not is ≡ true → rest ≡ text → (if is then [] else byte ∷ rest) ≡ byte ∷ text
before_step true byte text rest other same = absurd (false≢true other)
before_step false byte text rest other same = ap (λ x. byte ∷ x) same

before_its_slash : (text rest : Text) → may_be Star text ≡ true → before_slash (text ++ 47 ∷ rest) ≡ text
before_its_slash [] rest e = refl
before_its_slash (byte ∷ text) rest e =
    let both = and_parts (not (is_slash byte)) (may_be Star text) e in
    before_step (is_slash byte) byte text _ both.0 (before_its_slash text rest both.1)

folder_of : (start : Text) (parts : List Part) (locale path : Text) → may_be Star locale ≡ true
    → Matches locale (map part.Byte start ++ part.Locale ∷ part.Byte 47 ∷ parts) path → before_slash (drop (length start) path) ≡ locale
folder_of start parts locale path e found =
    ap (λ x. before_slash (drop (length start) x)) (sym found.1.given ∙ filled_behind locale start (part.Locale ∷ part.Byte 47 ∷ parts) found.0)
    ∙ (ap before_slash (drop-append_seam start _) ∙ before_its_slash locale (filled locale parts found.0) e)

pub are_apart : LanguagesAreApart
are_apart start parts locale other path slashless slashless' one two =
    sym (folder_of start parts locale path slashless one) ∙ folder_of start parts other path slashless' two
