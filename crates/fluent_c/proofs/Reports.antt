-- What the number says of a report that is made.
use Rattle.std.proofs.Common.{◌≡◌, ◌∙◌, rules, Bool, true, false, List, Option, Some, None, ap, option_map, sym}
use Rattle.std.specs.Prelude.{IsSomeAnd}
use Rattle.fluent_c.specs.Linting.{AreAllUtf8, Lints, lint_status}
use Rattle.fluent_c.specs.declared.files.FluentFile.{FluentFile}
use Rattle.fluent_c.specs.declared.linting.FluentLintOptions.{FluentLintOptions}

-- whether the catalog fails or not, it is one of those that the call returns
pub lints_told : (options : FluentLintOptions) (files references : List FluentFile) (failed : Bool) → AreAllUtf8 options files references →
    Lints options files references (lint_status failed)
lints_told options files references true all = record { decided = search rules; not_utf8 = search rules; utf8 = λ _. all; unknown_locale = search rules }
lints_told options files references false all = record { decided = search rules; not_utf8 = search rules; utf8 = λ _. all; unknown_locale = search rules }

-- what is said of a value, if there is one, follows from what is said
pub some_weaker : {A : Type 0} {P Q : A → Type 0} (found : Option A) → IsSomeAnd found P → ((x : A) → P x → Q x) → IsSomeAnd found Q
some_weaker None is follows = absurd is
some_weaker (Some x) is follows = follows x is

-- a report by what was found is the one that is asked for
pub asked_by : {P O U R : Type 0} (report : O → U → R) (asked : P → O) (written : U) (p : P) (o : O) (u : U) {found : Option P} {made : R} →
    found ≡ Some p → made ≡ report o u → o ≡ asked p → u ≡ written → option_map (λ q. report (asked q) written) found ≡ Some made
asked_by report asked written p o u known is options output =
    ap (option_map (λ q. report (asked q) written)) known
    ∙ ap Some (sym (is ∙ ap (λ x. report x u) options ∙ ap (report (asked p)) output))
