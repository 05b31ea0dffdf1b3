-- The plain flaws that flaws stand for.
use Rattle.std.specs.Prelude.{◌≡◌, Option, option_map}
use Rattle.fluent_ast.specs.Borrowed.{key_of}
use Rattle.fluent_errors.specs.Errors as e
use Rattle.lint_findings.specs.Flaws as f
use Rattle.lint_findings.specs.References.{target_error}
use Rattle.fluent_meaning.specs.Substitution.{Target}
use Rattle.lint_flaws.specs.declared.flaw.Flaw.{Flaw}
use Rattle.lint_flaws.specs.declared.flaw.Flaw.TheVariants as of

abbrev pub flaw_view : Flaw → f.Flaw
flaw_view (of.UnknownFunction id) = f.unresolved (e.unknown (e.to_function id.now))
flaw_view (of.UnknownMessage id attribute) = f.unresolved (e.unknown (e.to_message id.now (option_map (λ s. s.now) attribute)))
flaw_view (of.UnknownTerm id attribute) = f.unresolved (e.unknown (e.to_term id.now (option_map (λ s. s.now) attribute)))
flaw_view (of.NoValue id) = f.unresolved (e.no_value id.now)
flaw_view of.NoDefault = f.unresolved e.missing_default
flaw_view (of.RepeatedKey key) = f.duplicate_key (key_of key.now)

-- the flaw of a reference that lacks this, if it lacks anything
abbrev pub IsFlawOf : Option Flaw → Option e.Unresolved → Type 0
IsFlawOf flaw lack = option_map flaw_view flaw ≡ option_map f.unresolved lack

-- the flaw of a reference to this target
abbrev pub IsFlawAt : Option Flaw → Target → Type 0
IsFlawAt flaw target = IsFlawOf flaw (target_error target)
