-- The laws of what readers leave, from the lemmas that carry more than they say.
use Rattle.std.proofs.Common.{ℕ, zero, suc, List, [], ◌∷◌, arith}
use Rattle.fluent_grammar.specs.Words.{Text}
use Rattle.fluent_grammar.specs.Refusal.{Reading, got, refused}
use Rattle.fluent_grammar.specs.Reading as g
use Rattle.fluent_grammar.specs.Reading.{Readers, readers, entry_at, attributes_at}
use Rattle.fluent_grammar.specs.Ends.{Within, Took}
use Rattle.fluent_grammar.specs.TilingLaws.{NamesTakeSome, NumbersTakeSome, AttributesTakeSome, EntriesTakeSome, ReadersStayWithin, EntriesStayWithin, AttributesStayWithin, ReadersTakeSome}
use Rattle.fluent_grammar.proofs.Within.{Fair, FairReaders, readers-fair, placeable-fair, pattern-fair, entry-fair, attributes-end, end-same, end-le, end-drop_one, end-spaces}
use Rattle.fluent_grammar.proofs.Taken.{Leaves, identifier-leaves, number-leaves, attribute-leaves, placeable-leaves, inline-leaves, argument_list-leaves, entry-leaves}

within : {A : Type 0} (x : Reading A) (s : Text) → Fair x s → Within x s
within (got a rest) s h = h.parts
within (refused fault) s h = h.parts.0

pub readers_stay_within : ReadersStayWithin
readers_stay_within n s =
    let fair = readers-fair n in
    record {
      inline = within _ _ (fair.inline (end-same s));
      arguments = λ names. within _ _ (fair.arguments names (end-same s));
      variants = λ marked. within _ _ (fair.variants marked (end-same s));
      line = within _ _ (fair.line (end-same s));
      pieces = within _ _ (fair.pieces (end-same s));
      placeable = within _ _ (placeable-fair (readers n) fair (end-same s));
      pattern = within _ _ (pattern-fair (readers n) fair (end-same s));
    }

pub entries_stay_within : EntriesStayWithin
entries_stay_within s = within _ _ (entry-fair (end-same s))

pub attributes_stay_within : AttributesStayWithin
attributes_stay_within n s = attributes-end n (end-same s)

took : {A : Type 0} (x : Reading A) (c : ℕ) (cs : Text) → Leaves x cs → Took x (c ∷ cs)
took (got a rest) c cs h = omega (arith, end-le h.parts)
took (refused fault) c cs h = tt

pub inline-took : (inside : Readers) (s : Text) → FairReaders inside → Took (g.inline_at inside s) s
unfolding g.inline_at
inline-took inside [] fair = tt
inline-took inside (c ∷ cs) fair = took _ c cs (inline-leaves inside fair (c ∷ cs) (end-same cs))

pub arguments-took : (inside : Readers) (names : List Text) (s : Text) → FairReaders inside → Took (g.arguments_at inside names s) s
unfolding g.arguments_at
arguments-took inside names [] fair = tt
arguments-took inside names (c ∷ cs) fair = took _ c cs (argument_list-leaves inside fair names (c ∷ cs) (end-same cs))

pub entry-took : EntriesTakeSome
unfolding g.entry_at g.message_at g.head_at g.identifier_at
entry-took [] = tt
entry-took (c ∷ cs) = took _ c cs (entry-leaves (c ∷ cs) (end-same cs))

placeable-took : (n : ℕ) (s : Text) → Took (g.placeable_at (readers n) s) s
unfolding g.placeable_at g.inline_at
placeable-took zero [] = tt
placeable-took (suc n) [] = tt
placeable-took n (c ∷ cs) = took _ c cs (placeable-leaves (readers n) (readers-fair n) (c ∷ cs) (end-same cs))

pub names_take_some : NamesTakeSome
unfolding g.identifier_at
names_take_some [] = tt
names_take_some (c ∷ cs) = took _ c cs (identifier-leaves (c ∷ cs) (end-same cs))

pub numbers_take_some : NumbersTakeSome
unfolding g.number_at g.digits_at
numbers_take_some [] = tt
numbers_take_some (c ∷ cs) = took _ c cs (number-leaves (c ∷ cs) (end-same cs))

pub attributes_take_some : AttributesTakeSome
unfolding g.attribute_at g.identifier_at
attributes_take_some [] = tt
attributes_take_some (c ∷ cs) = took _ c cs (attribute-leaves (c ∷ cs) (end-drop_one (end-spaces (end-same (c ∷ cs)))))

pub readers_take_some : ReadersTakeSome
readers_take_some zero s = record { inline = tt; arguments = λ names. tt; placeable = placeable-took zero s }
readers_take_some (suc n) s = record {
  inline = inline-took (readers n) s (readers-fair n);
  arguments = λ names. arguments-took (readers n) names s (readers-fair n);
  placeable = placeable-took (suc n) s;
}

pub entries_take_some : EntriesTakeSome
entries_take_some s = entry-took s
