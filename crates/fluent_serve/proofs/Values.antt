-- Requests with values in the place of texts.
use Rattle.std.proofs.Common.{◌≡◌, Bool, true, false, cond, List, [], ◌∷◌, map, Option, Some, None, option_map, refl}
use Rattle.std.specs.Prelude.{◌==◌}
use Rattle.std.specs.List.{slice_split}
use Rattle.std.specs.Str.{is_utf8}
use Rattle.fluent_serve.specs.Text.{Text, tab, dot, equals, cut_at}
use Rattle.fluent_serve.specs.Requests.{argument_of, and_argument, arguments_of, request_with, request_of_parts, request_of, with_values}
use Rattle.fluent_serve.specs.RequestLaws.{ValuesAreRead}

module _ (V : Type 0) (value_of : Text → V) where
  abbrev with_value : Text × Text → Text × V
  with_value a = (a.0, value_of a.1)

  by_part : (p : Text × Option Text) (xs : Option (List (Text × V))) (ys : Option (List (Text × Text))) → xs ≡ option_map (map with_value) ys →
      and_argument (argument_of value_of p) xs ≡ option_map (map with_value) (and_argument (argument_of (λ s. s) p) ys)
  by_part (name, None) xs ys same = refl
  by_part (name, Some s) xs None same = rw same refl
  by_part (name, Some s) xs (Some ys) same = rw same refl

  arguments-values : (ps : List Text) → arguments_of value_of ps ≡ option_map (map with_value) (arguments_of (λ s. s) ps)
  arguments-values [] = refl
  arguments-values (p ∷ ps) = by_part (cut_at equals p) (arguments_of value_of ps) (arguments_of (λ s. s) ps) (arguments-values ps)

  by_arguments : (name : Text × Option Text) (xs : Option (List (Text × V))) (ys : Option (List (Text × Text))) → xs ≡ option_map (map with_value) ys →
      request_with name xs ≡ option_map (with_values value_of) (request_with name ys)
  by_arguments name xs None same = rw same refl
  by_arguments name xs (Some ys) same = rw same refl

  parts-values : (ps : List Text) → request_of_parts value_of ps ≡ option_map (with_values value_of) (request_of_parts (λ s. s) ps)
  parts-values [] = refl
  parts-values (p ∷ ps) = by_arguments (cut_at dot p) (arguments_of value_of ps) (arguments_of (λ s. s) ps) (arguments-values ps)

  request-values : (line : Text) → request_of value_of line ≡ option_map (with_values value_of) (request_of (λ s. s) line)
  unfolding request_of
  request-values line = by_text (is_utf8 line)
    where
      by_text : (b : Bool) → cond b (request_of_parts value_of (slice_split (λ c. c == tab) line)) None ≡ option_map (with_values value_of) (cond b (request_of_parts (λ s. s) (slice_split (λ c. c == tab) line)) None)
      by_text true = parts-values (slice_split (λ c. c == tab) line)
      by_text false = refl

pub values_are_read : (V : Type 0) → ValuesAreRead V
values_are_read V value_of line = request-values V value_of line
