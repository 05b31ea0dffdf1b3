-- What is out of reach does not matter.
use Rattle.std.specs.Prelude.{◌≡◌, ℕ, List, Option}
use Rattle.fluent_grammar.specs.Words.{Text}
use Rattle.fluent_grammar.specs.Tree.{Elements}
use Rattle.fluent_value.specs.Value.{Value}
use Rattle.fluent_meaning.specs.Environment.{Environment}
use Rattle.fluent_meaning.specs.Ids.{Ids, Meaning, find}
use Rattle.fluent_meaning.specs.Reach.{elements_ids, IsIn, Reaches}
use Rattle.fluent_meaning.specs.Substitution.{there, message_target, formatted}

-- all that the reach of an id holds stands for the same in both
abbrev pub AgreeOnReach : {F : Type 0} → (Text → Option (Meaning F)) → (Text → Option (Meaning F)) → Text → Type 0
AgreeOnReach meaning other from = (id : Text) → Reaches meaning from id → meaning id ≡ other id

-- the settings of an environment, over other ids
abbrev pub over : {S F : Type 0} → (Text → Option (Meaning F)) → Environment S F → Environment S F
over meaning env = record env { find = meaning }

-- A pattern gives the same over two ways to look ids up that agree on the reach of each id that it names.
abbrev pub PatternReachSame : Type 0 → Type 0 → Type 0
PatternReachSame S F = (env : Environment S F) (other : Text → Option (Meaning F)) (es : Elements)
    → ((id : Text) → IsIn id (elements_ids es) → AgreeOnReach env.find other id)
    → (k : ℕ) (args : List (Text × Value S)) → formatted env k args es ≡ formatted (over other env) k args es

-- Two maps of ids that agree on the reach of an id give its message the same answer under equal settings: the same pattern stands
-- for its value and for each of its attributes, or is missing in both, and that pattern gives the same in both.
abbrev pub ReachSame : Type 0 → Type 0 → Type 0
ReachSame S F = (env : Environment S F) (ids other : Ids F) (id : Text) → AgreeOnReach (find ids) (find other) id → (attr : Option Text)
    → (message_target id attr (find ids id) ≡ message_target id attr (find other id))
    × ((es : Elements) → message_target id attr (find ids id) ≡ there es → (k : ℕ) (args : List (Text × Value S)) → formatted (over (find ids) env) k args es ≡ formatted (over (find other) env) k args es)
