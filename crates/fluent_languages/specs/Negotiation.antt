-- Which of a program's languages are used for a user's.
use Rattle.std.specs.Prelude.{ℕ, Bool, false, not, ◌&&◌, ◌||◌, ◌==◌, ◌+◌, List, [], ◌∷◌, ◌++◌, Option, Some, None, if◌then◌else◌, map, option_map, slice_get}
use Rattle.std.specs.Option.{option_copied, option_to_list}
use denote.Ref.{Bor}
use Rattle.fluent_languages.specs.Tags.{Tag, Text, is_empty, read_tag, same_tag, texts}
use Rattle.fluent_languages.specs.Steps.{Place, place_of_tag, steps, suits}
use Rattle.fluent_languages.specs.declared.steps.Step.{Step}
use Rattle.fluent_languages.specs.declared.negotiation.NegotiationStrategy.{NegotiationStrategy}
use Rattle.fluent_languages.specs.declared.negotiation.NegotiationStrategy.TheVariants.{Filtering, Matching, Lookup}

-- a list has this number
abbrev pub has : List ℕ → ℕ → Bool
has [] n = false
has (m ∷ ms) n = m == n || has ms n

-- an offer that is a tag suits a request in a way
abbrev pub suits_if_tag : Step → Place → Option Place → Bool
suits_if_tag step request None = false
suits_if_tag step request (Some offer) = suits step request offer

-- it does, and it wasn't found before
abbrev pub is_new : Step → Place → Option Place → ℕ → List ℕ → Bool
is_new step request offer at found = suits_if_tag step request offer && not (has found at)

-- What was found before, and after it the positions of all offers that suit a request in a way. The first of these offers is at a
-- position.
abbrev pub all_in : Step → Place → List (Option Place) → ℕ → List ℕ → List ℕ
all_in step request [] at found = found
all_in step request (offer ∷ offers) at found =
    all_in step request offers (at + 1) (if is_new step request offer at found then found ++ at ∷ [] else found)

-- the same for each way, the best first
abbrev pub by_ways : Place → List (Option Place) → List Step → List ℕ → List ℕ
by_ways request offers [] found = found
by_ways request offers (step ∷ rest) found = by_ways request offers rest (all_in step request offers 0 found)

-- the first offer that suits a request in a way, of those that weren't found before
abbrev pub first_in : Step → Place → List (Option Place) → ℕ → List ℕ → Option ℕ
first_in step request [] at found = None
first_in step request (offer ∷ offers) at found =
    if is_new step request offer at found then Some at else first_in step request offers (at + 1) found

abbrev pub or_some : Option ℕ → Option ℕ → Option ℕ
or_some None other = other
or_some (Some n) other = Some n

-- the offer that suits a request best, of those that weren't found before
abbrev pub best : Place → List (Option Place) → List Step → List ℕ → Option ℕ
best request offers [] found = None
best request offers (step ∷ rest) found = or_some (first_in step request offers 0 found) (best request offers rest found)

-- A request that is no tag finds nothing.
abbrev pub all_for : Option Place → List (Option Place) → List ℕ → List ℕ
all_for None offers found = found
all_for (Some request) offers found = by_ways request offers steps found

abbrev pub best_for : Option Place → List (Option Place) → List ℕ → Option ℕ
best_for None offers found = None
best_for (Some request) offers found = best request offers steps found

-- all offers that suit a request, request by request
abbrev pub filtered : List (Option Place) → List (Option Place) → List ℕ → List ℕ
filtered offers [] found = found
filtered offers (request ∷ requests) found = filtered offers requests (all_for request offers found)

-- the best offer for each request
abbrev pub matched : List (Option Place) → List (Option Place) → List ℕ → List ℕ
matched offers [] found = found
matched offers (request ∷ requests) found = matched offers requests (found ++ option_to_list (best_for request offers found))

-- the best offer for the first request that any suits
abbrev pub looked_up : List (Option Place) → List (Option Place) → Option ℕ
looked_up offers [] = None
looked_up offers (request ∷ requests) = or_some (best_for request offers []) (looked_up offers requests)

abbrev pub negotiated : NegotiationStrategy → List (Option Place) → List (Option Place) → List ℕ
negotiated Filtering offers requests = filtered offers requests []
negotiated Matching offers requests = matched offers requests []
negotiated Lookup offers requests = option_to_list (looked_up offers requests)

abbrev pub place_if_tag : Text → Option Place
place_if_tag text = option_map place_of_tag (read_tag text)

abbrev pub places : List Text → List (Option Place)
places = map place_if_tag

-- the positions of the texts that are used, the best first
abbrev pub positions : NegotiationStrategy → List Text → List Text → List ℕ
positions strategy requested available = negotiated strategy (places available) (places requested)

-- the text at a position, if there is one
abbrev pub text_at : List Text → ℕ → List Text
text_at texts n = option_to_list (slice_get texts n)

-- the texts at positions
abbrev pub texts_at : List Text → List ℕ → List Text
texts_at texts [] = []
texts_at texts (n ∷ ns) = text_at texts n ++ texts_at texts ns

abbrev pub are_one_tag : Option Tag → Option Tag → Bool
are_one_tag None b = false
are_one_tag (Some a) None = false
are_one_tag (Some a) (Some b) = same_tag a b

-- a tag is among texts
abbrev pub is_among : List Text → Text → Bool
is_among [] tag = false
is_among (text ∷ texts) tag = are_one_tag (read_tag text) (read_tag tag) || is_among texts tag

-- The last resort is used after the others: for Lookup if there is no other, and else unless it is among them.
abbrev pub is_needed : NegotiationStrategy → List Text → Text → Bool
is_needed Filtering texts last = not (is_among texts last)
is_needed Matching texts last = not (is_among texts last)
is_needed Lookup texts last = is_empty texts

abbrev pub with_last : NegotiationStrategy → Option Text → List Text → List Text
with_last strategy None texts = texts
with_last strategy (Some last) texts = if is_needed strategy texts last then texts ++ last ∷ [] else texts

-- the texts that are used, with the last resort
abbrev pub used_of : NegotiationStrategy → Option (Bor Text) → List (Bor Text) → List (Bor Text) → List Text
used_of strategy last requested available =
    with_last strategy (option_copied last) (texts_at (texts available) (positions strategy (texts requested) (texts available)))
