-- What readers do to their parser.
use Rattle.std.specs.Prelude.{◌≡◌, ◌+◌, ◌-◌, ◌≤◌, Bool, true, false, OnOk, Result, length}
use Rattle.fluent_grammar.specs.Words.{Text}
use Rattle.fluent_grammar.specs.Refusal.{Reading}
use Rattle.fluent_grammar.specs.Tiling.{at_column_zero}
use Rattle.fluent_text.specs.declared.slice.Texts.{Ghosts}
use Rattle.fluent_text.specs.declared.stack.reading.TheConstants.{PLACEABLE}
use Rattle.fluent_parser.specs.Reads.{Gives}
use Rattle.fluent_parser.specs.declared.fault.Fault.{Fault}
use Rattle.fluent_parser.specs.declared.parser.Parser.{Parser}

-- it reads the same text, from its place on or from after it, and as much of the stack is open as before, of the same budget
pub record Advances {S T : Type 0} {texts : Ghosts T S} (old new : Parser S T texts) : Type 0 where
  pub text : new.text.now ≡ old.text.now
  pub onward : length new.rest.now ≤ length old.rest.now
  pub stack : new.stack.taken ≡ old.stack.taken
  pub budget : new.stack.budget ≡ old.stack.budget

-- the same, but if the construct is refused, or memory runs out, more may be open
pub record Closes {X E S T : Type 0} {texts : Ghosts T S} (result : Result X E) (old new : Parser S T texts) : Type 0 where
  pub text : new.text.now ≡ old.text.now
  pub onward : length new.rest.now ≤ length old.rest.now
  pub stack : OnOk result (new.stack.taken ≡ old.stack.taken)
  pub budget : new.stack.budget ≡ old.stack.budget

-- one placeable more is open
abbrev pub OpensPlaceable : {S T : Type 0} {texts : Ghosts T S} → Parser S T texts → Parser S T texts → Type 0
OpensPlaceable old new = new.stack.taken ≡ old.stack.taken + PLACEABLE

-- one placeable less is
abbrev pub ClosesPlaceable : {S T : Type 0} {texts : Ghosts T S} → Parser S T texts → Parser S T texts → Type 0
ClosesPlaceable old new = new.stack.taken ≡ old.stack.taken - PLACEABLE

-- it reads the same text, stands where it stood, and as much of the stack is open as before
pub record Stays {S T : Type 0} {texts : Ghosts T S} (old new : Parser S T texts) : Type 0 where
  pub text : new.text.now ≡ old.text.now
  pub rest : new.rest.now ≡ old.rest.now
  pub stack : new.stack.taken ≡ old.stack.taken
  pub budget : new.stack.budget ≡ old.stack.budget

-- What a reader returned, seen by view, and where its parser stands then, are what reading gives from where it stood,
-- unless memory ran out.
abbrev pub Reads : {X Y S T : Type 0} {texts : Ghosts T S} → (X → Y) → Parser S T texts → Parser S T texts → Result X Fault → (Text → Reading Y) → Type 0
Reads view old new result reading = Gives view new.rest.now result (reading old.rest.now)

-- a line of the text starts at this rest of it, where it is said so
abbrev pub StartsLine : Bool → Text → Text → Type 0
StartsLine true text rest = at_column_zero text rest ≡ true
StartsLine false text rest = Unit {0}
