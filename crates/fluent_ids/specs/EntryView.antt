-- What an entry of the map means.
use Rattle.std.specs.Prelude.{ℕ, List}
use denote.Ref.{Bor}
use Rattle.fluent_ast.specs.View.{message_view, term_view}
use Rattle.fluent_meaning.specs.Ids.{Meaning, number_function, function, message, term}
use Rattle.fluent_ids.specs.declared.entry.Entry.{Entry}
use Rattle.fluent_ids.specs.declared.entry.Entry.TheVariants as of
use Rattle.fluent_ids.specs.declared.entry.FunctionRef.{FunctionRef}
use Rattle.fluent_ids.specs.declared.entry.FunctionRef.TheVariants as lent

module _ (F : Type 0) where
  -- what an entry means
  abbrev pub meaning_of : Entry F → Meaning F
  meaning_of (of.Message p) = message (message_view _ (λ s. s.now) p.1.now)
  meaning_of (of.Term p) = term (term_view _ (λ s. s.now) p.1.now)
  meaning_of (of.Function f) = function f
  meaning_of of.Number = number_function

  -- what a function that is lent means
  abbrev pub function_meaning : FunctionRef F → Meaning F
  function_meaning (lent.Own f) = function f.now
  function_meaning lent.Number = number_function

  -- an id and what it is to stand for
  abbrev pub pair_of : Bor (List ℕ) × Entry F → List ℕ × Meaning F
  pair_of p = (p.0.now, meaning_of p.1)
