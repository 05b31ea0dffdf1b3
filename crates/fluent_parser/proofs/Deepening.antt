-- How it is handed on that what is there nests too deep.
use Rattle.std.proofs.Common.{◌≡◌, ℕ, ◌+◌, ◌-◌, ◌<◌, Bool, true, false, cond, drop, length, refl, ap, subst, ◌∙◌, arith, Result, Ok, Err}
use Rattle.std.specs.Prelude.{OnErr}
use Rattle.fluent_text.specs.declared.slice.Texts.{Ghosts}
use Rattle.std.proofs.lemmas.List.{drop-drop}
use Rattle.fluent_grammar.specs.Words.{Text, begins_with, equals}
use Rattle.fluent_grammar.specs.Refusal.{Kind, expected_token, got, refuse}
use Rattle.fluent_parser.specs.Reads.{byte_at}
use Rattle.fluent_parser.specs.Depth.{OnDepth, IfTooDeep, IsShallow, OnHaltedDepth, IfHalted, Past, PastSomewhere, NestsPast}
use Rattle.fluent_parser.specs.Nesting.{TakesPattern, TakesSource, in_pattern}
use Rattle.fluent_parser.specs.declared.fault.Fault.{Fault}
use Rattle.fluent_parser.specs.declared.fault.Fault.TheVariants as fault
use Rattle.fluent_parser.specs.declared.fault.Halt.{Halt}
use Rattle.fluent_parser.specs.declared.fault.Halt.TheVariants as halt
use Rattle.fluent_parser.specs.declared.parser.Parser.{Parser}

-- what is so of each fault of depth
pub deep_of : (e : Fault) {P : Type 0} → P → OnDepth e P
deep_of fault.Memory p = tt
deep_of fault.TooDeep p = p
deep_of (fault.Refused kind) p = tt

-- what is so of a fault of depth, changed
pub deep_map : (e : Fault) (P Q : Type 0) → OnDepth e P → (P → Q) → OnDepth e Q
deep_map fault.Memory P Q h f = tt
deep_map fault.TooDeep P Q h f = f h
deep_map (fault.Refused kind) P Q h f = tt

-- a fault that is never of depth
pub deep_none : (e : Fault) (Q : Type 0) → OnDepth e ⊥ → OnDepth e Q
deep_none e Q h = deep_map e ⊥ Q h (λ x. absurd x)

-- a fault that is returned as it is
pub deep_same : {X : Type 0} (result : Result X Fault) (P Q : Type 0) → IfTooDeep result P → (P → Q) → IfTooDeep result Q
deep_same (Ok x) P Q d f = tt
deep_same (Err fault.Memory) P Q d f = tt
deep_same (Err fault.TooDeep) P Q d f = f d
deep_same (Err (fault.Refused kind)) P Q d f = tt

-- a reader that never gives up for depth
pub shallow_deep : {X : Type 0} (result : Result X Fault) (Q : Type 0) → IsShallow result → IfTooDeep result Q
shallow_deep result Q h = deep_same result ⊥ Q h (λ x. absurd x)

-- What a reader stands before takes more than is left, if a later place in it does, where so many bytes more are open.
pub past_by : {S T : Type 0} {texts : Ghosts T S} (takes inner : Text → ℕ → Type 0) (p q : Parser S T texts) (opened : ℕ) →
    q.stack.taken ≡ p.stack.taken + opened → q.stack.budget ≡ p.stack.budget → ((n : ℕ) → inner q.rest.now n → takes p.rest.now (opened + n)) → Past inner q → Past takes p
past_by takes inner p q opened t b f past =
    let budget : q.stack.budget.bytes ≡ p.stack.budget.bytes = ap (λ z. z.bytes) b in
    let more = past.past in
    record { bytes = opened + past.bytes; takes_them = f past.bytes past.takes_them; past = omega arith }

-- the same, if nothing more is open
pub past_at : {S T : Type 0} {texts : Ghosts T S} (takes inner : Text → ℕ → Type 0) (p q : Parser S T texts) →
    q.stack.taken ≡ p.stack.taken → q.stack.budget ≡ p.stack.budget → ((n : ℕ) → inner q.rest.now n → takes p.rest.now n) → Past inner q → Past takes p
past_at takes inner p q t b f past =
    let budget : q.stack.budget.bytes ≡ p.stack.budget.bytes = ap (λ z. z.bytes) b in
    let more = past.past in
    record { bytes = past.bytes; takes_them = f past.bytes past.takes_them; past = omega arith }

-- the same, if no more can be opened
pub past_opening : {S T : Type 0} {texts : Ghosts T S} (takes : Text → ℕ → Type 0) (p q : Parser S T texts) (opened : ℕ) →
    q.stack.taken ≡ p.stack.taken → q.stack.budget ≡ p.stack.budget → takes p.rest.now opened → q.stack.budget.bytes < q.stack.taken + opened → Past takes p
past_opening takes p q opened t b one h =
    let budget : q.stack.budget.bytes ≡ p.stack.budget.bytes = ap (λ z. z.bytes) b in
    record { bytes = opened; takes_them = one; past = omega arith }

-- what an opening refused is past, whatever the fault
pub deep_err : {X : Type 0} (result : Result X Fault) (P Q : Type 0) → OnErr result P → (P → Q) → IfTooDeep result Q
deep_err (Ok x) P Q h f = tt
deep_err (Err fault.Memory) P Q h f = tt
deep_err (Err fault.TooDeep) P Q h f = f h
deep_err (Err (fault.Refused kind)) P Q h f = tt

there : (b : Bool) (kind : Kind) (s u : Text) (x : Unit {0}) → cond b (got tt (drop 1 s)) (refuse kind s) ≡ got x u → (b ≡ true) × (u ≡ drop 1 s)
there true kind s u x e = (refl, cc)
there false kind s u x e = absurd cc

-- a pattern after an equals sign is one of the text
pub somewhere : {S T : Type 0} {texts : Ghosts T S} (p r q : Parser S T texts) (x : Unit {0}) → byte_at equals r.rest.now ≡ got x q.rest.now → r.text.now ≡ p.text.now →
    q.stack.taken ≡ p.stack.taken → q.stack.budget ≡ p.stack.budget → Past TakesPattern q → PastSomewhere p
somewhere p r q x e t k b past =
    let here = there (begins_with equals r.rest.now) (expected_token equals) r.rest.now q.rest.now x e in
    let place = length r.text.now - length r.rest.now in
    let tail : r.rest.now ≡ drop place p.text.now = r.is_tail ∙ ap (λ (z : Text). drop place z) t in
    let budget : q.stack.budget.bytes ≡ p.stack.budget.bytes = ap (λ z. z.bytes) b in
    let more = past.past in
    record {
      bytes = past.bytes;
      takes_them = in_pattern place (subst (λ (z : Text). begins_with equals z ≡ true) tail here.0)
          (subst (λ (z : Text). TakesPattern z past.bytes) (here.1 ∙ ap (λ (z : Text). drop 1 z) tail ∙ drop-drop 1 place p.text.now) past.takes_them);
      past = omega arith;
    }

-- What the text takes it takes from each of its places.
pub moved : {S T : Type 0} {texts : Ghosts T S} (p q : Parser S T texts) → q.text.now ≡ p.text.now → q.stack.taken ≡ p.stack.taken → q.stack.budget ≡ p.stack.budget → PastSomewhere q → PastSomewhere p
moved p q e t b past =
    let budget : q.stack.budget.bytes ≡ p.stack.budget.bytes = ap (λ z. z.bytes) b in
    let more = past.past in
    record { bytes = past.bytes; takes_them = subst (λ (z : Text). TakesSource z past.bytes) e past.takes_them; past = omega arith }

-- where nothing is open, the budget is what counts
pub nests : {S T : Type 0} {texts : Ghosts T S} (p : Parser S T texts) (budget : ℕ) (source : Text) → p.stack.taken ≡ 0 → p.stack.budget.bytes ≡ budget → p.text.now ≡ source → PastSomewhere p → NestsPast budget source
nests p budget source t b e past =
    let more = past.past in
    record { bytes = past.bytes; takes_them = subst (λ (z : Text). TakesSource z past.bytes) e past.takes_them; past = omega arith }

-- the same of what halts the reading of a source
pub halted_map : (e : Halt) (P Q : Type 0) → OnHaltedDepth e P → (P → Q) → OnHaltedDepth e Q
halted_map halt.Memory P Q h f = tt
halted_map halt.TooDeep P Q h f = f h

pub halted_same : {X : Type 0} (result : Result X Halt) (P Q : Type 0) → IfHalted result P → (P → Q) → IfHalted result Q
halted_same (Ok x) P Q d f = tt
halted_same (Err e) P Q d f = halted_map e P Q d f
