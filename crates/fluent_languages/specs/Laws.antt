-- What negotiation promises, whatever is asked of whatever there is.
use Rattle.std.specs.Prelude.{◌≡◌, ◌<◌, ◌++◌, ◌∷◌, [], ℕ, List, None, false, length, take}
use Rattle.fluent_languages.specs.Negotiation.{has, positions}
use Rattle.fluent_languages.specs.Tags.{Text, read_tag}
use Rattle.fluent_languages.specs.declared.negotiation.NegotiationStrategy.{NegotiationStrategy}
use Rattle.fluent_languages.specs.declared.negotiation.NegotiationStrategy.TheVariants.{Filtering, Lookup}

-- No number is there twice.
abbrev pub AreDistinct : List ℕ → Type 0
AreDistinct [] = Unit {0}
AreDistinct (n ∷ ns) = (has ns n ≡ false) × AreDistinct ns

-- Each is a position in a list of this length.
abbrev pub AreWithin : ℕ → List ℕ → Type 0
AreWithin len [] = Unit {0}
AreWithin len (n ∷ ns) = (n < len) × AreWithin len ns

-- The positions are those of languages of the program, and none is there twice.
abbrev pub FindsEachOnce : Type 0
FindsEachOnce = (strategy : NegotiationStrategy) (requested available : List Text)
    → AreDistinct (positions strategy requested available) × AreWithin (length available) (positions strategy requested available)

-- What `Lookup` finds is the first that `Filtering` finds.
abbrev pub LookupIsTheFirst : Type 0
LookupIsTheFirst = (requested available : List Text) → positions Lookup requested available ≡ take 1 (positions Filtering requested available)

-- A request that is no tag changes nothing.
abbrev pub NoTagIsPassedOver : Type 0
NoTagIsPassedOver = (strategy : NegotiationStrategy) (before after available : List Text) (request : Text) → read_tag request ≡ None
    → positions strategy (before ++ request ∷ after) available ≡ positions strategy (before ++ after) available
