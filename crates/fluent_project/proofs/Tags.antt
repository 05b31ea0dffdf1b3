-- What `*` takes in the place of `{locale}`.
use Rattle.std.proofs.Common.{◌≡◌, ◌∙◌, ℕ, zero, suc, ◌<◌, ◌≤◌, true, List, [], ◌∷◌, Option, Some, None, Vec, Bor, length, get_or, refl, ap, sym, subst, arith}
use Rattle.std.specs.Prelude.{if◌then◌else◌, is_some, unwrap_or}
use Rattle.std.specs.Global.{Global}
use Rattle.std.proofs.lemmas.Bool.{and_parts, false≢true}
use Rattle.fluent_project.specs.declared.part.Part.{Part}
use Rattle.fluent_project.specs.declared.part.Part.TheVariants as part
use Rattle.fluent_project.specs.declared.part.Wildcard.TheVariants.{Star}
use Rattle.fluent_project.specs.Locales.{one_more, tag_in, text_at, text_in, wildcards_before, with_star}
use Rattle.fluent_project.specs.Patterns.{Text, may_be, suit}
use Rattle.fluent_project.specs.Taking.{taken}
use Rattle.fluent_project.specs.Views.{FindsLongest, FindsTaken, plain}

none_some : {X : Type 0} {x : X} → None ≡ Some x → ⊥
none_some h = false≢true (ap is_some h)

more_in : (text : Text) (texts : List Text) (o : Option ℕ) → text_in (text ∷ texts) (one_more o) ≡ text_in texts o
more_in text texts (Some n) = refl
more_in text texts None = refl

-- It has no slash.
suited_in : (parts : List Part) (texts : List Text) (tag : Text) → suit (with_star parts) texts ≡ true
    → text_in texts (wildcards_before parts) ≡ Some tag → may_be Star tag ≡ true
suited_in [] texts tag suits is = absurd (none_some is)
suited_in (part.Byte byte ∷ parts) texts tag suits is = suited_in parts texts tag suits is
suited_in (part.Locale ∷ parts) [] tag suits is = absurd (none_some is)
suited_in (part.Locale ∷ parts) (text ∷ texts) tag suits is =
    subst (λ t. may_be Star t ≡ true) (ap (λ o. unwrap_or o text) is) (and_parts (may_be Star text) (suit (with_star parts) texts) suits).0
suited_in (part.Wildcard wildcard ∷ parts) [] tag suits is = absurd (false≢true suits)
suited_in (part.Wildcard wildcard ∷ parts) (text ∷ texts) tag suits is =
    suited_in parts texts tag (and_parts (may_be wildcard text) (suit (with_star parts) texts) suits).1
    (sym (more_in text texts (wildcards_before parts)) ∙ is)

at_text : (xs : List (Bor Text)) (n : ℕ) (t : Bor Text) → n < length xs → t ≡ get_or xs n t → text_at (plain xs) n ≡ Some t.now
at_text [] n t inside is = absurd (omega (arith, inside))
at_text (x ∷ xs) zero t inside is = ap (λ (y : Bor Text). Some y.now) (sym is)
at_text (x ∷ xs) (suc n) t inside is = at_text xs n t (omega (arith, inside)) is

no_text : (xs : List (Bor Text)) (n : ℕ) → length xs ≤ n → text_at (plain xs) n ≡ None
no_text [] n over = refl
no_text (x ∷ xs) zero over = absurd (omega (arith, over))
no_text (x ∷ xs) (suc n) over = no_text xs n (omega (arith, over))

-- the texts that are found in a path, by the terms of the code
module _ (pattern whole : List Part) (path bytes : Text) (texts : Vec (Bor Text) Global) (xs : List (Bor Text)) (n : ℕ)
    (same : whole ≡ with_star pattern) (of_path : bytes ≡ path) (items : xs ≡ texts.items) (count : Some n ≡ wildcards_before pattern) where
  in_texts : text_in (plain texts.items) (wildcards_before pattern) ≡ text_at (plain xs) n
  in_texts = ap (text_in (plain texts.items)) (sym count) ∙ ap (λ l. text_at (plain l) n) (sym items)

  tag_by : FindsTaken [] whole bytes (Some texts) → tag_in pattern path ≡ text_at (plain xs) n
  tag_by found =
      let these : FindsTaken [] (with_star pattern) path (Some texts) =
      subst (λ p. FindsTaken [] (with_star pattern) p (Some texts)) of_path (subst (λ w. FindsTaken [] w bytes (Some texts)) same found) in
      ap (λ b. if b then text_in (taken [] (with_star pattern) path) (wildcards_before pattern) else None) these.0
      ∙ ap (λ l. text_in l (wildcards_before pattern)) (sym these.1)
      ∙ in_texts

  pub tag_there : (t : Bor Text) → n < length xs → t ≡ get_or xs n t → FindsTaken [] whole bytes (Some texts) → tag_in pattern path ≡ Some t.now
  tag_there t inside is found = tag_by found ∙ at_text xs n t inside is

  pub no_tag : length xs ≤ n → FindsTaken [] whole bytes (Some texts) → tag_in pattern path ≡ None
  no_tag over found = tag_by found ∙ no_text xs n over

  pub slashless : (t : Bor Text) → n < length xs → t ≡ get_or xs n t → FindsLongest [] whole bytes (Some texts) → may_be Star t.now ≡ true
  slashless t inside is found =
      suited_in pattern (plain texts.items) t.now
      (subst (λ w. suit w (plain texts.items) ≡ true) same found.match.suited)
      (in_texts ∙ at_text xs n t inside is)
