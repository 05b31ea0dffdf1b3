-- What it says that a reader gave up for the depth of what it read.
use Rattle.std.specs.Prelude.{ℕ, ◌+◌, ◌<◌, [], Result, Ok, Err, drop}
use Rattle.fluent_grammar.specs.Words.{Text, skip_blank}
use Rattle.fluent_text.specs.declared.slice.Texts.{Ghosts}
use Rattle.fluent_parser.specs.Nesting.{TakesArguments, TakesSelect, TakesSource}
use Rattle.fluent_parser.specs.declared.fault.Fault.{Fault}
use Rattle.fluent_parser.specs.declared.fault.Fault.TheVariants as fault
use Rattle.fluent_parser.specs.declared.fault.Halt.{Halt}
use Rattle.fluent_parser.specs.declared.fault.Halt.TheVariants as halt
use Rattle.fluent_parser.specs.declared.parser.Parser.{Parser}

-- if this fault is of depth, then so
abbrev pub OnDepth : Fault → Type 0 → Type 0
OnDepth fault.Memory P = Unit {0}
OnDepth fault.TooDeep P = P
OnDepth (fault.Refused kind) P = Unit {0}

-- if a reader gave up for depth, then so
abbrev pub IfTooDeep : {X : Type 0} → Result X Fault → Type 0 → Type 0
IfTooDeep (Ok x) P = Unit {0}
IfTooDeep (Err e) P = OnDepth e P

-- a reader never gives up for depth
abbrev pub IsShallow : {X : Type 0} → Result X Fault → Type 0
IsShallow result = IfTooDeep result ⊥

-- if reading a source halted for depth, then so
abbrev pub OnHaltedDepth : Halt → Type 0 → Type 0
OnHaltedDepth halt.Memory P = Unit {0}
OnHaltedDepth halt.TooDeep P = P

abbrev pub IfHalted : {X : Type 0} → Result X Halt → Type 0 → Type 0
IfHalted (Ok x) P = Unit {0}
IfHalted (Err e) P = OnHaltedDepth e P

-- what a parser stands before takes more bytes at some place than are left of its budget
pub record Past {S T : Type 0} {texts : Ghosts T S} (takes : Text → ℕ → Type 0) (p : Parser S T texts) : Type 0 where
  pub bytes : ℕ
  pub takes_them : takes p.rest.now bytes
  pub past : p.stack.budget.bytes < p.stack.taken + bytes

-- so does its text
pub record PastSomewhere {S T : Type 0} {texts : Ghosts T S} (p : Parser S T texts) : Type 0 where
  pub bytes : ℕ
  pub takes_them : TakesSource p.text.now bytes
  pub past : p.stack.budget.bytes < p.stack.taken + bytes

-- a source takes more bytes at some place than a budget has
pub record NestsPast (budget : ℕ) (source : Text) : Type 0 where
  pub bytes : ℕ
  pub takes_them : TakesSource source bytes
  pub past : budget < bytes

-- the arguments of a call, from the parenthesis on that they follow
abbrev pub TakesAfterParenthesis : Text → ℕ → Type 0
TakesAfterParenthesis s n = TakesArguments [] (skip_blank (drop 1 s)) n

-- a select, after blank
abbrev pub TakesSelectAfter : Text → ℕ → Type 0
TakesSelectAfter s n = TakesSelect (skip_blank s) n
