-- Why texts that are joined hold no carriage return and are UTF-8, by computing.
use Rattle.std.specs.Prelude.{◌≡◌, [], ◌∷◌, None, Some}
use Rattle.std.proofs.Common.{refl}
use Rattle.fluent_grammar.specs.Words.{Text, line_feed, carriage_return, equals}
use Rattle.fluent_grammar.specs.Tree as t
use Rattle.fluent_grammar.specs.Tiling.{list}
use Rattle.fluent_grammar.proofs.Computing.{computing}
use Rattle.fluent_tidy_laws.specs.Joined.{joined, lists}

abbrev a_message : Text → t.Entry
a_message value = t.message (record { id = 97 ∷ []; value = Some (t.text value t.no_elements); attributes = []; comment = None })

-- a=\r has an empty text; a=\r\n has no value
returned : lists ((97 ∷ equals ∷ carriage_return ∷ []) ∷ []) ≡ a_message [] ∷ []
unfolding computing
returned = refl

returned_joined : list (joined ((97 ∷ equals ∷ carriage_return ∷ []) ∷ [])) ≡ []
unfolding computing
returned_joined = refl

-- a= and a byte that begins a character of two bytes: the line feed after it becomes part of one
halved : lists ((97 ∷ equals ∷ 195 ∷ []) ∷ []) ≡ a_message [] ∷ []
unfolding computing
halved = refl

halved_joined : list (joined ((97 ∷ equals ∷ 195 ∷ []) ∷ [])) ≡ a_message (195 ∷ 128 ∷ []) ∷ []
unfolding computing
halved_joined = refl

-- a=b, # and \na=c\n\n: the line feeds that are put between leave the lists as they are
together : list (joined ((97 ∷ equals ∷ 98 ∷ []) ∷ (35 ∷ []) ∷ (line_feed ∷ 97 ∷ equals ∷ 99 ∷ line_feed ∷ line_feed ∷ []) ∷ [])) ≡ a_message (98 ∷ []) ∷ a_message (99 ∷ []) ∷ []
unfolding computing
together = refl
