-- Lemmas on the arguments of a request line.
use Rattle.std.proofs.Common.{◌≡◌, ℕ, suc, Bool, true, false, cond, List, [], ◌∷◌, ◌++◌, length, map, codes, Option, Some, None, refl, sym, ap, ◌∙◌, arith, option_copied}
use Rattle.std.specs.Prelude.{◌==◌, not}
use Rattle.std.proofs.lemmas.Bool.{eqb-true, eqb-false}
use Rattle.std.proofs.lemmas.List.Splits.{slice_split_first}
use Rattle.std.proofs.lemmas.List.Sums.{prefix_len-le-length}
use Rattle.std.specs.List.{slice_split, position_or_len}
use Rattle.std.specs.Str.{is_utf8, IsUtf8}
use Rattle.std.proofs.lemmas.Str.{is_utf8-from_IsUtf8, IsUtf8-from_is_utf8}
use Rattle.fluent_serve.specs.Text.{Text, tab, dot, cut_at}
use Rattle.fluent_serve.specs.Requests.{arguments_of, and_argument, request_with, request_of_parts, request_of}
use denote.Ref.{Bor}
use Rattle.fluent_serve.specs.RequestView.{all_arguments, argument_in, each_argument, parts_behind}

-- where no element passes, the list is the one part
split_none-at : (p : ℕ → Bool) (x : ℕ) (xs : Text) (b : Bool) → p x ≡ b → (position_or_len p xs ≡ length xs → slice_split p xs ≡ xs ∷ []) →
    position_or_len p (x ∷ xs) ≡ suc (length xs) → slice_split p (x ∷ xs) ≡ (x ∷ xs) ∷ []
split_none-at p x xs true is rest h = absurd (omega (arith, rw is at h))
split_none-at p x xs false is rest h = let none : position_or_len p xs ≡ length xs = omega (arith, rw is at h) in rw (is, rest none) refl

split_none : (p : ℕ → Bool) (s : Text) → position_or_len p s ≡ length s → slice_split p s ≡ s ∷ []
split_none p [] h = refl
split_none p (x ∷ xs) h = split_none-at p x xs (p x) refl (split_none p xs) h

-- the first part is what stands before the first separator, and the others are those of what is after it
pub split_cut : (separator : ℕ) (s : Text) → slice_split (λ b. b == separator) s ≡ (cut_at separator s).0 ∷ parts_behind separator (cut_at separator s).1
split_cut separator s = by_test (position_or_len (λ b. b == separator) s == length s) refl
  where
    by_test : (b : Bool) → (position_or_len (λ b. b == separator) s == length s) ≡ b → slice_split (λ b. b == separator) s ≡ (cut_at separator s).0 ∷ parts_behind separator (cut_at separator s).1
    by_test true is = rw is (split_none (λ b. b == separator) s (eqb-true _ _ is))
    by_test false is = rw is (slice_split_first (λ b. b == separator) s 0 (omega (arith, prefix_len-le-length (λ b. not (b == separator)) s, eqb-false _ _ is)))

-- what is left of a line is its first part and what is after that
pub read_on : (rest : Option (Bor Text)) (text : Bor Text) (part : Text) (behind : Option (Bor Text)) →
    rest ≡ Some text → (part, option_copied behind) ≡ cut_at tab text.now → each_argument rest ≡ argument_in part ∷ each_argument behind
read_on rest text part behind is cut =
    ap each_argument is
    ∙ (ap (map argument_in) (split_cut tab text.now)
    ∙ ap (λ (p : Text × Option Text). map argument_in (p.0 ∷ parts_behind tab p.1)) (sym cut))

-- an argument ends at its first equals sign, may be empty after that, and is missing without one
three_parts : map argument_in (parts_behind tab (Some (codes "n=1=2" ++ tab ∷ codes "m" ++ tab ∷ codes "k="))) ≡ Some (codes "n", codes "1=2") ∷ None ∷ Some (codes "k", []) ∷ []
three_parts = refl

-- parts that are arguments are all arguments
pub all_are_arguments : (parts : List Text) → all_arguments (map argument_in parts) ≡ arguments_of (λ s. s) parts
all_are_arguments [] = refl
all_are_arguments (part ∷ parts) = ap (and_argument (argument_in part)) (all_are_arguments parts)

-- what a line that is UTF-8 asks for
pub request_of-text : (line : Text) → IsUtf8 line →
    request_of (λ s. s) line ≡ request_with (cut_at dot (cut_at tab line).0) (arguments_of (λ s. s) (parts_behind tab (cut_at tab line).1))
unfolding request_of
request_of-text line text = rw (is_utf8-from_IsUtf8 line text, split_cut tab line) refl

pub request_of-no_text : (line : Text) → (IsUtf8 line → ⊥) → request_of (λ s. s) line ≡ None
unfolding request_of
request_of-no_text line not_text = by_test (is_utf8 line) refl
  where
    by_test : (b : Bool) → is_utf8 line ≡ b → cond b (request_of_parts (λ s. s) (slice_split (λ b. b == tab) line)) None ≡ None
    by_test true is = absurd (not_text (IsUtf8-from_is_utf8 line is))
    by_test false is = refl

-- the same, by what the code found: the line as text, the part before its first tab and what is after that
pub request_at : (line text part : Text) (behind : Option Text) (arguments : Option (List (Text × Text))) → (text ≡ line) × IsUtf8 line →
    (part, behind) ≡ cut_at tab text → arguments ≡ arguments_of (λ s. s) (parts_behind tab behind) →
    request_of (λ s. s) line ≡ request_with (cut_at dot part) arguments
request_at line text part behind arguments is cut found =
    request_of-text line is.1
    ∙ (ap (λ s. request_with (cut_at dot (cut_at tab s).0) (arguments_of (λ s. s) (parts_behind tab (cut_at tab s).1))) (sym is.0)
    ∙ (ap (λ (p : Text × Option Text). request_with (cut_at dot p.0) (arguments_of (λ s. s) (parts_behind tab p.1))) (sym cut)
    ∙ ap (request_with (cut_at dot part)) (sym found)))
