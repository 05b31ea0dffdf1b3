-- A finding, and what it says.
use Rattle.std.specs.Prelude.{ℕ, Option, Some, None}
use Rattle.fluent_grammar.specs.Words.{Text}

-- An error: something is missing, or shown as its fallback. A warning: most likely not what was meant. A note: worth
-- a look.
pub data Severity : Type 0 where
  error : Severity
  warning : Severity
  note : Severity

-- Where it is, the name of its kind, how bad it is, whose it is, what is wrong, and what may be the cause. `entry` is
-- the id of an entry, a term's with its minus, and the name of its attribute after a dot if it is an attribute's.
pub record Finding : Type 0 where
  pub offset : ℕ
  pub code : Text
  pub severity : Severity
  pub entry : Option Text
  pub text : Text
  pub hint : Option Text

-- What a finding says, without its place: the name of its kind, how bad it is, what is wrong, what may be the cause, and
-- how many bytes stand before it in what it is about.
pub record Remark : Type 0 where
  pub code : Text
  pub severity : Severity
  pub text : Text
  pub hint : Option Text
  pub inside : ℕ

-- a remark without a hint, on all of what it is about
abbrev pub remark : Severity → Text → Text → Remark
remark severity code text = record { code = code; severity = severity; text = text; hint = None; inside = 0 }

-- the finding of a remark on this entry or attribute, at this offset
abbrev pub finding_at : ℕ → Text → Remark → Finding
finding_at offset entry r = record {
  offset = offset;
  code = r.code;
  severity = r.severity;
  entry = Some entry;
  text = r.text;
  hint = r.hint;
}
