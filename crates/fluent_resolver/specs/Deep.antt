-- What it says that a pattern gave no text.
use Rattle.std.specs.Prelude.{Result, Ok, Err}
use Rattle.fluent_resolver.specs.declared.fault.Fault.{Fault}
use Rattle.fluent_resolver.specs.declared.fault.Fault.TheVariants as fault

-- if this fault is of depth, then so
abbrev pub OnDepth : Fault → Type 0 → Type 0
OnDepth fault.Memory P = Unit {0}
OnDepth fault.TooDeep P = P

-- if a call gave up for depth, then so
abbrev pub IfTooDeep : {X : Type 0} → Result X Fault → Type 0 → Type 0
IfTooDeep (Ok x) P = Unit {0}
IfTooDeep (Err e) P = OnDepth e P
