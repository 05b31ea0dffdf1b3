-- A text that a scope keeps is written as it is.
use Rattle.std.proofs.Common.{◌≡◌, List, ℕ, Option, Result, Ok, Err, OnOk, is_ok, if◌then◌else◌}
use Rattle.std.specs.Prelude.{unwrap_or}
use Rattle.fluent_date.specs.declared.date_time.FluentDateTime.{FluentDateTime}
use Rattle.fluent_value.specs.Shown.{KeepsTexts, shown_text}
use Rattle.fluent_value.specs.Value.{Value, none}
use Rattle.fluent_kept.specs.Given.{value_given}
use Rattle.fluent_kept.specs.declared.TheConstants.{FLUENT_TEXT}
use Rattle.fluent_kept.specs.declared.given.FluentArgument.{FluentArgument}

pub kept_text : (a : FluentArgument) (formatted : Value FluentDateTime → Option (List ℕ)) (shown : FluentDateTime → List ℕ) →
    a.kind ≡ FLUENT_TEXT → KeepsTexts formatted → shown_text formatted shown (unwrap_or (value_given a) none) ≡ a.text.now
kept_text a formatted shown is keeps = rw is (keeps a.text.now shown)

-- what stands there if a call succeeds
pub on-success : {T E : Type 0} (r : Result T E) (now wanted other : List ℕ) → now ≡ (if is_ok r then wanted else other) → OnOk r (now ≡ wanted)
on-success (Ok x) now wanted other is = is
on-success (Err e) now wanted other is = tt
