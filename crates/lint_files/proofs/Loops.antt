-- One more error, and one more refusal.
use Rattle.std.proofs.Common.{◌≡◌, ◌∙◌, ℕ, ◌+◌, ◌<◌, List, [], ◌∷◌, ◌++◌, length, map, take, get_or, Option, Some, None, refl, ap}
use Rattle.std.specs.Prelude.{option_map}
use Rattle.std.specs.List.{cons_option, filter_map}
use Rattle.std.specs.Option.{option_to_list}
use Rattle.std.proofs.lemmas.List.{take_more, map-append}
use Rattle.std.proofs.lemmas.List.Elements.{filter_map-append}
use Rattle.fluent_parsed.specs.ErrorView.{ErrorView, Span, error_view}
use Rattle.fluent_parsed.specs.declared.errors.ParserError.{ParserError}
use Rattle.lint_files.specs.SourceFindings.{starts_of}

alone : (o : Option ℕ) → cons_option o [] ≡ option_to_list o
alone None = refl
alone (Some n) = refl

pub starts_more : (errors : List ParserError) (i : ℕ) (e : ParserError) → i < length errors →
    starts_of (map error_view (take (i + 1) errors)) ≡ starts_of (map error_view (take i errors)) ++ option_to_list (option_map (λ (s : Span). s.start) (error_view (get_or errors i e)).slice)
starts_more errors i e h =
    let f = λ (v : ErrorView). option_map (λ (s : Span). s.start) v.slice in
    let x = get_or errors i e in
    ap (λ (es : List ParserError). starts_of (map error_view es)) (take_more errors i e h)
    ∙ ap (filter_map f) (map-append error_view (take i errors) (x ∷ []))
    ∙ filter_map-append f (map error_view (take i errors)) (error_view x ∷ [])
    ∙ ap (λ (l : List ℕ). starts_of (map error_view (take i errors)) ++ l) (alone (f (error_view x)))

pub maps_more : {X Y : Type 0} (f : X → Y) (xs : List X) (i : ℕ) (x : X) → i < length xs → map f (take (i + 1) xs) ≡ map f (take i xs) ++ f (get_or xs i x) ∷ []
maps_more f xs i x h = ap (map f) (take_more xs i x h) ∙ map-append f (take i xs) (get_or xs i x ∷ [])
