-- What negotiation finds, whatever is asked of whatever there is.
use Rattle.std.proofs.Common.{◌≡◌, ℕ, Bool, true, false, ◌+◌, ◌<◌, ◌++◌, ◌&&◌, ◌||◌, ◌==◌, List, [], ◌∷◌, Option, Some, None, refl, ap, sym, subst, ◌∙◌, length, option_map, take, arith}
use Rattle.std.specs.Prelude.{if◌then◌else◌, not}
use Rattle.std.specs.Option.{option_to_list}
use Rattle.std.proofs.lemmas.Bool.{false≢true, ne_eqb, or_from, or_parts}
use Rattle.std.proofs.lemmas.List.{append-nil, length-map}
use Rattle.std.proofs.lemmas.List.Recursion.{or_push}
use Rattle.std.proofs.lemmas.Option.{none-some}
use Rattle.fluent_languages.specs.Laws.{AreDistinct, AreWithin, FindsEachOnce, LookupIsTheFirst, NoTagIsPassedOver}
use Rattle.fluent_languages.specs.Negotiation.{all_for, all_in, by_ways, best, best_for, filtered, first_in, has, is_new, looked_up, matched, negotiated, or_some, place_if_tag, places, positions, suits_if_tag}
use Rattle.fluent_languages.specs.Steps.{Place, place_of_tag, steps}
use Rattle.fluent_languages.specs.Tags.{Text, read_tag}
use Rattle.fluent_languages.specs.declared.negotiation.NegotiationStrategy.{NegotiationStrategy}
use Rattle.fluent_languages.specs.declared.negotiation.NegotiationStrategy.TheVariants.{Filtering, Matching, Lookup}
use Rattle.fluent_languages.specs.declared.steps.Step.{Step}

-- no position is there twice, and each is in a list of this length
abbrev IsSound : ℕ → List ℕ → Type 0
IsSound len found = AreDistinct found × AreWithin len found

-- a position that may be put to them, or none
abbrev IsNext : ℕ → List ℕ → Option ℕ → Type 0
IsNext len found None = Unit {0}
IsNext len found (Some n) = (has found n ≡ false) × (n < len)

has_put : (ns : List ℕ) (n m : ℕ) → has (ns ++ n ∷ []) m ≡ (has ns m || n == m)
has_put ns n m = or_push (λ xs. has xs m) (λ x. x == m) refl (λ x xs. refl) ns n

other_way : (n m : ℕ) → (n == m) ≡ false → (m == n) ≡ false
other_way n m e = ne_eqb m n (λ same. absurd (false≢true (sym e ∙ grind (arith, same))))

sound_put : (len : ℕ) (ns : List ℕ) (n : ℕ) → IsSound len ns → (has ns n ≡ false) × (n < len) → IsSound len (ns ++ n ∷ [])
sound_put len [] n s new = ((refl, tt), (new.1, tt))
sound_put len (m ∷ ms) n s new =
    let apart = or_parts (m == n) (has ms n) new.0 in
    let rest = sound_put len ms n (s.0.1, s.1.1) (apart.1, new.1) in
    ((has_put ms n m ∙ or_from (has ms m) (n == m) s.0.0 (other_way m n apart.0), rest.0), (s.1.0, rest.1))

sound_with : (len : ℕ) (ns : List ℕ) (next : Option ℕ) → IsSound len ns → IsNext len ns next → IsSound len (ns ++ option_to_list next)
sound_with len ns None s new = subst (IsSound len) (sym (append-nil ns)) s
sound_with len ns (Some n) s new = sound_put len ns n s new

sound_if : (len : ℕ) (ns : List ℕ) (n : ℕ) (suits there : Bool) → n < len → has ns n ≡ there → IsSound len ns
    → IsSound len (if suits && not there then ns ++ n ∷ [] else ns)
sound_if len ns n false there l e s = s
sound_if len ns n true true l e s = s
sound_if len ns n true false l e s = sound_put len ns n s (e, l)

next_if : (len : ℕ) (ns : List ℕ) (n : ℕ) (suits there : Bool) (other : Option ℕ) → n < len → has ns n ≡ there → IsNext len ns other
    → IsNext len ns (if suits && not there then Some n else other)
next_if len ns n false there other l e s = s
next_if len ns n true true other l e s = s
next_if len ns n true false other l e s = (e, l)

next_or : (len : ℕ) (ns : List ℕ) (one other : Option ℕ) → IsNext len ns one → IsNext len ns other → IsNext len ns (or_some one other)
next_or len ns None other a b = b
next_or len ns (Some n) other a b = a

module _ (step : Step) (request : Place) (len : ℕ) where
  sound_in : (offers : List (Option Place)) (at : ℕ) (ns : List ℕ) → at + length offers ≡ len → IsSound len ns
      → IsSound len (all_in step request offers at ns)
  sound_in [] at ns e s = s
  sound_in (offer ∷ offers) at ns e s =
      sound_in offers (at + 1) _ (omega (arith, e))
      (sound_if len ns at (suits_if_tag step request offer) (has ns at) (omega (arith, e)) refl s)

  next_in : (offers : List (Option Place)) (at : ℕ) (ns : List ℕ) → at + length offers ≡ len → IsNext len ns (first_in step request offers at ns)
  next_in [] at ns e = tt
  next_in (offer ∷ offers) at ns e =
      next_if len ns at (suits_if_tag step request offer) (has ns at) _ (omega (arith, e)) refl
      (next_in offers (at + 1) ns (omega (arith, e)))

module _ (offers : List (Option Place)) where
  sound_ways : (request : Place) (ways : List Step) (ns : List ℕ) → IsSound (length offers) ns → IsSound (length offers) (by_ways request offers ways ns)
  sound_ways request [] ns s = s
  sound_ways request (way ∷ ways) ns s = sound_ways request ways _ (sound_in way request (length offers) offers 0 ns (omega arith) s)

  next_best : (request : Place) (ways : List Step) (ns : List ℕ) → IsNext (length offers) ns (best request offers ways ns)
  next_best request [] ns = tt
  next_best request (way ∷ ways) ns =
      next_or (length offers) ns _ _ (next_in way request (length offers) offers 0 ns (omega arith)) (next_best request ways ns)

  sound_for : (request : Option Place) (ns : List ℕ) → IsSound (length offers) ns → IsSound (length offers) (all_for request offers ns)
  sound_for None ns s = s
  sound_for (Some request) ns s = sound_ways request steps ns s

  next_for : (request : Option Place) (ns : List ℕ) → IsNext (length offers) ns (best_for request offers ns)
  next_for None ns = tt
  next_for (Some request) ns = next_best request steps ns

  sound_filtered : (requests : List (Option Place)) (ns : List ℕ) → IsSound (length offers) ns → IsSound (length offers) (filtered offers requests ns)
  sound_filtered [] ns s = s
  sound_filtered (request ∷ requests) ns s = sound_filtered requests _ (sound_for request ns s)

  sound_matched : (requests : List (Option Place)) (ns : List ℕ) → IsSound (length offers) ns → IsSound (length offers) (matched offers requests ns)
  sound_matched [] ns s = s
  sound_matched (request ∷ requests) ns s =
      sound_matched requests _ (sound_with (length offers) ns (best_for request offers ns) s (next_for request ns))

  next_looked_up : (requests : List (Option Place)) → IsNext (length offers) [] (looked_up offers requests)
  next_looked_up [] = tt
  next_looked_up (request ∷ requests) = next_or (length offers) [] _ _ (next_for request []) (next_looked_up requests)

each_once : (strategy : NegotiationStrategy) (requested available : List Text)
    → IsSound (length (places available)) (positions strategy requested available)
each_once Filtering requested available = sound_filtered (places available) (places requested) [] (tt, tt)
each_once Matching requested available = sound_matched (places available) (places requested) [] (tt, tt)
each_once Lookup requested available =
    sound_with (length (places available)) [] (looked_up (places available) (places requested)) (tt, tt) (next_looked_up (places available) (places requested))

pub finds_each_once : FindsEachOnce
finds_each_once strategy requested available =
    subst (λ len. IsSound len (positions strategy requested available)) (length-map available place_if_tag) (each_once strategy requested available)

-- the first of a list, if there is one
abbrev front : List ℕ → Option ℕ
front [] = None
front (n ∷ ns) = Some n

abbrev Begins : ℕ → List ℕ → Type 0
Begins n ns = front ns ≡ Some n

begins_if : (n m : ℕ) (ns : List ℕ) (new : Bool) → Begins n ns → Begins n (if new then ns ++ m ∷ [] else ns)
begins_if n m ns false e = e
begins_if n m [] true e = absurd (none-some n e)
begins_if n m (k ∷ ns) true e = e

begins_in : (step : Step) (request : Place) (offers : List (Option Place)) (at n : ℕ) (ns : List ℕ) → Begins n ns
    → Begins n (all_in step request offers at ns)
begins_in step request [] at n ns e = e
begins_in step request (offer ∷ offers) at n ns e =
    begins_in step request offers (at + 1) n _ (begins_if n at ns (is_new step request offer at ns) e)

begins_ways : (request : Place) (offers : List (Option Place)) (ways : List Step) (n : ℕ) (ns : List ℕ) → Begins n ns
    → Begins n (by_ways request offers ways ns)
begins_ways request offers [] n ns e = e
begins_ways request offers (way ∷ ways) n ns e = begins_ways request offers ways n _ (begins_in way request offers 0 n ns e)

begins_for : (request : Option Place) (offers : List (Option Place)) (n : ℕ) (ns : List ℕ) → Begins n ns → Begins n (all_for request offers ns)
begins_for None offers n ns e = e
begins_for (Some request) offers n ns e = begins_ways request offers steps n ns e

begins_filtered : (offers requests : List (Option Place)) (n : ℕ) (ns : List ℕ) → Begins n ns → Begins n (filtered offers requests ns)
begins_filtered offers [] n ns e = e
begins_filtered offers (request ∷ requests) n ns e = begins_filtered offers requests n _ (begins_for request offers n ns e)

front_if : (step : Step) (request : Place) (offers : List (Option Place)) (at : ℕ) (new : Bool)
    → front (all_in step request offers (at + 1) []) ≡ first_in step request offers (at + 1) []
    → front (all_in step request offers (at + 1) (if new then at ∷ [] else [])) ≡ (if new then Some at else first_in step request offers (at + 1) [])
front_if step request offers at false e = e
front_if step request offers at true e = begins_in step request offers (at + 1) at (at ∷ []) refl

front_in : (step : Step) (request : Place) (offers : List (Option Place)) (at : ℕ)
    → front (all_in step request offers at []) ≡ first_in step request offers at []
front_in step request [] at = refl
front_in step request (offer ∷ offers) at =
    front_if step request offers at (is_new step request offer at []) (front_in step request offers (at + 1))

-- what more is put to a list changes its front only if it is empty
front_ways_from : (request : Place) (offers : List (Option Place)) (ways : List Step) (ns : List ℕ)
    → front (by_ways request offers ways []) ≡ best request offers ways []
    → front (by_ways request offers ways ns) ≡ or_some (front ns) (best request offers ways [])
front_ways_from request offers ways [] e = e
front_ways_from request offers ways (n ∷ ns) e = begins_ways request offers ways n (n ∷ ns) refl

front_ways : (request : Place) (offers : List (Option Place)) (ways : List Step) → front (by_ways request offers ways []) ≡ best request offers ways []
front_ways request offers [] = refl
front_ways request offers (way ∷ ways) =
    front_ways_from request offers ways (all_in way request offers 0 []) (front_ways request offers ways)
    ∙ ap (λ one. or_some one (best request offers ways [])) (front_in way request offers 0)

front_for : (request : Option Place) (offers : List (Option Place)) → front (all_for request offers []) ≡ best_for request offers []
front_for None offers = refl
front_for (Some request) offers = front_ways request offers steps

front_from : (offers requests : List (Option Place)) (ns : List ℕ) → front (filtered offers requests []) ≡ looked_up offers requests
    → front (filtered offers requests ns) ≡ or_some (front ns) (looked_up offers requests)
front_from offers requests [] e = e
front_from offers requests (n ∷ ns) e = begins_filtered offers requests n (n ∷ ns) refl

front_filtered : (offers requests : List (Option Place)) → front (filtered offers requests []) ≡ looked_up offers requests
front_filtered offers [] = refl
front_filtered offers (request ∷ requests) =
    front_from offers requests (all_for request offers []) (front_filtered offers requests)
    ∙ ap (λ one. or_some one (looked_up offers requests)) (front_for request offers)

front_alone : (ns : List ℕ) → option_to_list (front ns) ≡ take 1 ns
front_alone [] = refl
front_alone (n ∷ ns) = refl

pub lookup_is_the_first : LookupIsTheFirst
lookup_is_the_first requested available =
    ap option_to_list (sym (front_filtered (places available) (places requested))) ∙ front_alone (positions Filtering requested available)

module _ (offers : List (Option Place)) (after : List (Option Place)) where
  filtered_over : (before : List (Option Place)) (ns : List ℕ) → filtered offers (before ++ None ∷ after) ns ≡ filtered offers (before ++ after) ns
  filtered_over [] ns = refl
  filtered_over (request ∷ before) ns = filtered_over before _

  matched_over : (before : List (Option Place)) (ns : List ℕ) → matched offers (before ++ None ∷ after) ns ≡ matched offers (before ++ after) ns
  matched_over [] ns = ap (matched offers after) (append-nil ns)
  matched_over (request ∷ before) ns = matched_over before _

  looked_up_over : (before : List (Option Place)) → looked_up offers (before ++ None ∷ after) ≡ looked_up offers (before ++ after)
  looked_up_over [] = refl
  looked_up_over (request ∷ before) = ap (or_some (best_for request offers [])) (looked_up_over before)

passed_over : (strategy : NegotiationStrategy) (offers before after : List (Option Place))
    → negotiated strategy offers (before ++ None ∷ after) ≡ negotiated strategy offers (before ++ after)
passed_over Filtering offers before after = filtered_over offers after before []
passed_over Matching offers before after = matched_over offers after before []
passed_over Lookup offers before after = ap option_to_list (looked_up_over offers after before)

places_around : (before after : List Text) (request : Text) → read_tag request ≡ None
    → places (before ++ request ∷ after) ≡ places before ++ None ∷ places after
places_around [] after request e = ap (λ tag. option_map place_of_tag tag ∷ places after) e
places_around (text ∷ before) after request e = ap (λ rest. place_if_tag text ∷ rest) (places_around before after request e)

places_append : (before after : List Text) → places (before ++ after) ≡ places before ++ places after
places_append [] after = refl
places_append (text ∷ before) after = ap (λ rest. place_if_tag text ∷ rest) (places_append before after)

pub no_tag_is_passed_over : NoTagIsPassedOver
no_tag_is_passed_over strategy before after available request e =
    ap (λ requests. negotiated strategy (places available) requests) (places_around before after request e)
    ∙ passed_over strategy (places available) (places before) (places after)
    ∙ ap (λ requests. negotiated strategy (places available) requests) (sym (places_append before after))
