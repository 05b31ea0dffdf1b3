-- What is written of a well-formed term spells it, before any rest that stops.
use Rattle.std.proofs.Common.{true, false, None, List, [], ◌∷◌, ◌++◌, refl, ap, arith}
use Rattle.fluent_grammar.specs.Words.{Text, space, equals, hyphen}
use Rattle.fluent_grammar.specs.Tree as t
use Rattle.fluent_grammar.specs.Spelling.{SpellsEntry, a_term}
use Rattle.fluent_grammar.specs.Written.{Sign, sign, laid_out, new_line, pattern_signs, attributes_signs}
use Rattle.fluent_tidy_laws.specs.WellFormed.{IsName, WellFormedPattern, WellFormedAttributes}
use Rattle.fluent_tidy_laws.proofs.MovingEntries.{Stops, head-at}
use Rattle.fluent_tidy_laws.proofs.Clean.{over-block}
use Rattle.fluent_tidy_laws.proofs.WrittenPatterns.{ends-some}
use Rattle.fluent_tidy_laws.proofs.WrittenSelects.{pattern_is_written}
use Rattle.fluent_tidy_laws.proofs.WrittenEntries.{attributes_from, attributes-are, attributes-is, head-written, attributes-over, attributes-written}

-- A well-formed term is spelled by what is written of it.
pub term-written : (id : Text) (value : t.Elements) (attributes : List t.Attribute) (behind : List Sign) → IsName id → WellFormedPattern value → WellFormedAttributes attributes → Stops (laid_out true behind) →
    SpellsEntry (t.term (record { id = id; value = value; attributes = attributes; comment = None }))
    (hyphen ∷ laid_out false (sign 0 id ∷ sign 0 (space ∷ equals ∷ []) ∷ (pattern_signs 1 value ++ (attributes_signs attributes ++ new_line ∷ behind)))) (laid_out true behind)
term-written id value attributes behind n f g s =
    let v = pattern_is_written value 1 (attributes_from attributes behind) (omega arith) f (attributes-over attributes behind s) in
    let h = head-written id value 0 (pattern_signs 1 value ++ new_line ∷ attributes_from attributes behind) _ n v in
    a_term refl (head-at (ap (λ z. laid_out false (sign 0 id ∷ sign 0 (space ∷ equals ∷ []) ∷ (pattern_signs 1 value ++ z))) (attributes-are attributes behind)) h)
    (attributes-is (over-block (attributes-over attributes behind s)) (attributes-written attributes behind g s)) (ends-some value f.1)
