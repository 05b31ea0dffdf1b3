-- What is written one after the other.
use Rattle.std.proofs.Common.{◌∙◌, ap, List, [], ◌∷◌, ◌++◌, Ok}
use Rattle.std.proofs.lemmas.List.{append_assoc}
use Rattle.json.specs.Token.{Token}
use Rattle.json.specs.Written.{Writes, Written}
use Rattle.fluent_symbols.specs.Tokens.{WritesAll}

-- one token
pub one_written : {E : Type 0} {x : Unit {0}} {old new : Written} {t : Token} → Writes {E = E} (Ok x) old new t → WritesAll old new (t ∷ [])
one_written w = record { before = w.room.0; tokens = w.ok }

-- some, and then others
pub both_written : {old mid new : Written} {ts us : List Token} → WritesAll old mid ts → WritesAll mid new us → WritesAll old new (ts ++ us)
both_written {old} {mid} {new} {ts} {us} first second = record {
  before = second.before ∙ first.before;
  tokens = second.tokens ∙ ap (λ l. l ++ us) first.tokens ∙ append_assoc old.tokens ts us;
}
