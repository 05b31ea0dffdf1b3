-- The lines of files that aren't UTF-8.
use Rattle.std.proofs.Common.{◌≡◌, ◌∙◌, ◌++◌, Bool, true, false, if◌then◌else◌, IsUtf8, ap, inl, inr}
use Rattle.fluent_serve.specs.Text.{Text}
use Rattle.ftl_files.specs.Rows.{IsNoted, bad_line}

-- a line is added, or memory ran out for it
pub noted_by : (name bytes old new line : Text) (added : Bool) → new ≡ (if added then old ++ line else old) → (IsUtf8 bytes → ⊥) → line ≡ bad_line name bytes → IsNoted name bytes old new
noted_by name bytes old new line true pushed bad is = inr (bad, pushed ∙ ap (λ l. old ++ l) is)
noted_by name bytes old new line false pushed bad is = inl pushed
