-- What `format` is asked for, in words of the rows that were found.
use Rattle.std.proofs.Common.{◌≡◌, ◌∙◌, ℕ, ◌+◌, ◌<◌, ◌≤◌, List, [], ◌∷◌, ◌++◌, Option, Some, None, Bor, length, get_or, drop, ap, refl, drop-cons, add-one}
use Rattle.std.proofs.lemmas.List.{drop_all}
use Rattle.fluent_serve.specs.Requests.{argument_of, arguments_of}
use Rattle.fluent_serve.specs.Text.{Text, cut_at, equals}
use Rattle.fluent_serve.specs.RequestView.{argument_view, arguments_view}
use Rattle.ftl_arguments.proofs.ArgumentsBehind.{behind_all, behind_argument, behind_arguments, behind_no_argument}
use Rattle.ftl_arguments.specs.Meaning.{texts}

-- the arguments of words, after those that were read
abbrev pub reading_on : List (Bor Text × Bor Text) → List (Bor Text) → Option (List (Text × Text))
reading_on front words = behind_arguments (arguments_view front) (arguments_of (λ s. s) (texts words))

pub none_read : (front : List (Bor Text × Bor Text)) (words : List (Bor Text)) → front ≡ [] → arguments_of (λ s. s) (texts words) ≡ reading_on front words
none_read front words none = rw none (same (arguments_of (λ s. s) (texts words)))
  where
    same : (o : Option (List (Text × Text))) → o ≡ behind_arguments [] o
    same None = refl
    same (Some rest) = refl

module _ (words : List (Bor Text)) (front : List (Bor Text × Bor Text)) (i : ℕ) (d : Bor Text) where
  -- one word more, which is an argument
  pub one_read : (a : Bor Text × Bor Text) → i < length words → Some (argument_view a) ≡ argument_of (λ s. s) (cut_at equals (get_or words i d).now) →
      reading_on front (drop i words) ≡ reading_on (front ++ a ∷ []) (drop (i + 1) words)
  one_read a within is =
      let left : drop i words ≡ get_or words i d ∷ drop (i + 1) words = rw add-one (drop-cons words i d within) in
      ap (reading_on front) left ∙ behind_argument front a (get_or words i d).now (texts (drop (i + 1) words)) is

  -- or which is none
  pub not_read : i < length words → None ≡ argument_of (λ s. s) (cut_at equals (get_or words i d).now) → reading_on front (drop i words) ≡ None
  not_read within is =
      let left : drop i words ≡ get_or words i d ∷ drop (i + 1) words = rw add-one (drop-cons words i d within) in
      ap (reading_on front) left ∙ behind_no_argument (arguments_view front) (get_or words i d).now (texts (drop (i + 1) words)) is

-- with no word left, those that were read are all
pub all_read : (words : List (Bor Text)) (front : List (Bor Text × Bor Text)) (i : ℕ) → length words ≤ i → reading_on front (drop i words) ≡ Some (arguments_view front)
all_read words front i over = ap (reading_on front) (drop_all i words over) ∙ behind_all (arguments_view front)
