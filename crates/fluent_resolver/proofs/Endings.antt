-- How functions of resolving end, each by how the call ended that it made last.
use Rattle.std.proofs.Common.{◌≡◌, ◌∙◌, ℕ, refl, subst}
use Rattle.std.proofs.lemmas.Result.{IfOk-from_err, IfOk-weaker, on_err_weaker, on_ok_weaker}
use Rattle.std.specs.Prelude.{IfOk, IsErr, Ok, OnErr, OnOk, Result, String, string_bytes}
use Rattle.std.specs.Global.{Global}
use Rattle.fluent_grammar.specs.Words.{Text}
use Rattle.fluent_meaning.proofs.Writing.{writes-as}
use Rattle.fluent_meaning.specs.Refused.{TellsSome}
use Rattle.fluent_meaning.specs.Steps.{Budget, Done}
use Rattle.fluent_meaning.specs.Told as told
use Rattle.fluent_progress.proofs.Telling.{on-err, on-ok}
use Rattle.fluent_progress.specs.Depth.{IfPast, open_in}
use Rattle.fluent_progress.specs.Views.{entered_in, state}
use Rattle.fluent_progress.specs.declared.progress.Progress.{Progress}
use Rattle.fluent_resolver.proofs.Depth.{never-past, past-in}
use Rattle.fluent_resolver.proofs.Parts.{tells-as}
use Rattle.fluent_resolver.specs.Resolves.{Evaluates, Resolves}

-- a step was written, the value of one was found, and the first of its errors were reported
abbrev pub Written : String Global → String Global → Progress → Progress → (Progress → Budget → Done Text) → Type 0
Written held now old new step = told.Writes (string_bytes held) (string_bytes now) (state old) (state new) (step old)

abbrev pub Found : {V : Type 0} → V → Progress → Progress → (Progress → Budget → Done V) → Type 0
Found found old new step = told.Finds found (state old) (state new) (step old)

abbrev pub Reported : {A : Type 0} → Progress → Progress → (Progress → Budget → Done A) → Type 0
Reported old new step = TellsSome (state old) (state new) (step old (state old).budget)

-- as much of the stack is open, and the same patterns are being written
abbrev pub Level : Progress → Progress → Type 0
Level old new = open_in new.stack ≡ open_in old.stack

abbrev pub SamePath : Progress → Progress → Type 0
SamePath old new = entered_in new ≡ entered_in old

-- it was written
pub resolves : {T E : Type 0} {x : T} {held now : String Global} {old new : Progress} {step : Progress → Budget → Done Text} {takes : Progress → ℕ → Type 0} → Written held now old new step → SamePath old new → Level old new → Resolves {E = E} (Ok x) held now old new step takes
resolves wrote path same = record { wrote = wrote; refused = tt; path = path; stack = same; deep = tt }

module _ {T E : Type 0} {r : Result T E} {held now : String Global} {old new : Progress} {step : Progress → Budget → Done Text} {takes : Progress → ℕ → Type 0} where
  -- memory ran out, or what is resolved nests too deep
  pub refuses : IsErr r → Reported old new step → IfPast (open_in old.stack) (open_in new.stack) (takes old) → Resolves r held now old new step takes
  refuses err h d = record {
    wrote = IfOk-from_err r _ err;
    refused = on-err r h;
    path = IfOk-from_err r _ err;
    stack = IfOk-from_err r _ err;
    deep = on-err r d;
  }

  -- memory ran out with as much of the stack open as before
  pub runs-out : IsErr r → Reported old new step → Level old new → Resolves r held now old new step takes
  runs-out err h same = refuses err h (never-past same)

  -- the last call wrote a text, and changed nothing else
  pub by-text : {P : Type 0} → OnOk r P → (P → Written held now old new step) → Reported old new step → SamePath old new → Level old new → Resolves r held now old new step takes
  by-text h wrote refused path same = record {
    wrote = on_ok_weaker r wrote h;
    refused = on-err r refused;
    path = on-ok r path;
    stack = on-ok r same;
    deep = on-err r (never-past same);
  }

  -- it wrote a text or reported an error, and entered nothing
  pub by-leaf : {P Q : Type 0} → (P → Written held now old new step) → (Q → Reported old new step) → OnOk r P → OnErr r Q → SamePath old new → Level old new → Resolves r held now old new step takes
  by-leaf wrote refused h k path same = record {
    wrote = on_ok_weaker r wrote h;
    refused = on_err_weaker r refused k;
    path = on-ok r path;
    stack = on-ok r same;
    deep = on-err r (never-past same);
  }

  -- it resolved a part
  pub by-part : {mid : Progress} {part : Progress → Budget → Done Text} {part_takes : Progress → ℕ → Type 0} → (Written held now mid new part → Written held now old new step) → (Reported mid new part → Reported old new step) →
      SamePath old mid → Level old mid → ((n : ℕ) → part_takes mid n → takes old n) → Resolves r held now mid new part part_takes → Resolves r held now old new step takes
  by-part wrote refused path same deeper h = record {
    wrote = on_ok_weaker r wrote h.wrote;
    refused = on_err_weaker r refused h.refused;
    path = on_ok_weaker r (λ p. p ∙ path) h.path;
    stack = on_ok_weaker r (λ p. p ∙ same) h.stack;
    deep = on_err_weaker r (λ p. subst (λ x. IfPast x (open_in new.stack) (takes old)) same (past-in deeper p)) h.deep;
  }

  -- the step is that of a part
  pub by-same : {part : Progress → Budget → Done Text} {part_takes : Progress → ℕ → Type 0} → part old (state old).budget ≡ step old (state old).budget → ((n : ℕ) → part_takes old n → takes old n) → Resolves r held now old new part part_takes → Resolves r held now old new step takes
  by-same same deeper h = by-part (writes-as _ _ same) (tells-as same) refl refl deeper h

-- the value is there
pub value-is : {T E V : Type 0} {view : T → V} {x : T} {old new : Progress} {step : Progress → Budget → Done V} {takes : Progress → ℕ → Type 0} → Found (view x) old new step → SamePath old new → Level old new → Evaluates {E = E} view (Ok x) old new step takes
value-is found path same = record { found = found; refused = tt; path = path; stack = same; deep = tt }

module _ {T E V : Type 0} {view : T → V} {r : Result T E} {old new : Progress} {step : Progress → Budget → Done V} {takes : Progress → ℕ → Type 0} where
  -- memory ran out, or what is resolved nests too deep
  pub value-refuses : IsErr r → Reported old new step → IfPast (open_in old.stack) (open_in new.stack) (takes old) → Evaluates view r old new step takes
  value-refuses err h d = record {
    found = IfOk-from_err r _ err;
    refused = on-err r h;
    path = IfOk-from_err r _ err;
    stack = IfOk-from_err r _ err;
    deep = on-err r d;
  }

  -- memory ran out with as much of the stack open as before
  pub value-runs-out : IsErr r → Reported old new step → Level old new → Evaluates view r old new step takes
  value-runs-out err h same = value-refuses err h (never-past same)

  -- the last call made a value, and changed nothing
  pub value-by-call : {P : T → Type 0} → IfOk r P → ((x : T) → P x → Found (view x) old new step) → Reported old new step → SamePath old new → Level old new → Evaluates view r old new step takes
  value-by-call {P = P} h found refused path same = record {
    found = IfOk-weaker r P _ found h;
    refused = on-err r refused;
    path = on-ok r path;
    stack = on-ok r same;
    deep = on-err r (never-past same);
  }

  -- it found a value or reported an error, and entered nothing
  pub value-by-leaf : {P : T → Type 0} {Q : Type 0} → ((x : T) → P x → Found (view x) old new step) → (Q → Reported old new step) → IfOk r P → OnErr r Q → SamePath old new → Level old new → Evaluates view r old new step takes
  value-by-leaf {P = P} found refused h k path same = record {
    found = IfOk-weaker r P _ found h;
    refused = on_err_weaker r refused k;
    path = on-ok r path;
    stack = on-ok r same;
    deep = on-err r (never-past same);
  }

  -- it found the value of a part
  pub value-by-part : {W : Type 0} {seen : T → W} {mid : Progress} {part : Progress → Budget → Done W} {part_takes : Progress → ℕ → Type 0} → ((x : T) → Found (seen x) mid new part → Found (view x) old new step) → (Reported mid new part → Reported old new step) →
      SamePath old mid → Level old mid → ((n : ℕ) → part_takes mid n → takes old n) → Evaluates seen r mid new part part_takes → Evaluates view r old new step takes
  value-by-part found refused path same deeper h = record {
    found = IfOk-weaker r _ _ found h.found;
    refused = on_err_weaker r refused h.refused;
    path = on_ok_weaker r (λ p. p ∙ path) h.path;
    stack = on_ok_weaker r (λ p. p ∙ same) h.stack;
    deep = on_err_weaker r (λ p. subst (λ x. IfPast x (open_in new.stack) (takes old)) same (past-in deeper p)) h.deep;
  }
