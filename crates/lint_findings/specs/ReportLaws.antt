-- Laws of what a report says of a catalog.
use Rattle.std.specs.Prelude.{◌≡◌, Bool, true, false, List, [], ◌∷◌, map, All, Option, None, Some, codes}
use Rattle.std.specs.Str.{bytes_eq}
use Rattle.fluent_grammar.specs.Words.{Text, is_among}
use Rattle.fluent_grammar.specs.Tree.{Elements}
use Rattle.fluent_tidy_laws.specs.Joined.{lists}
use Rattle.fluent_errors.specs.Errors.{Unresolved, unknown, no_value, missing_default, cyclic, to_function, to_message, to_term, to_variable, too_many_placeables}
use Rattle.fluent_value.specs.Args.{argument}
use Rattle.fluent_value.specs.Value.{Value}
use Rattle.fluent_meaning.specs.Environment.{Environment}
use Rattle.fluent_meaning.specs.Ids.{Ids, Meaning, entries_by_id, find, function, number_pair, with_ids}
use Rattle.fluent_meaning.specs.ReachLaws.{over}
use Rattle.fluent_meaning.specs.Substitution.{answer_written, message_target, there}
use Rattle.lint_findings.specs.Endless.{meaning_patterns}
use Rattle.lint_findings.specs.Flaws.{Flaw, pattern_flaws, duplicate_key, unresolved}
use Rattle.lint_findings.specs.Comparison.{Difference, all_differences, without, missing_message, missing_value, missing_attribute}
use Rattle.lint_findings.specs.Finding.{Finding}
use Rattle.lint_findings.specs.Files.{File}
use Rattle.lint_findings.specs.Findings.{Options, FileFinding, sources, findings, findings_with_reference, known_functions}

-- ---- programs

-- The ids of sources in a program that has these functions beside `NUMBER`. The first entry of an id counts, or with
-- `overriding` the last.
abbrev pub program_ids : {F : Type 0} → Bool → List (Text × F) → List Text → Ids F
program_ids overriding functions sources =
    with_ids overriding (with_ids false (number_pair ∷ []) (map (λ f. (f.0, function f.1)) functions)) (entries_by_id (lists sources))

-- The functions of a program are those that are known, beside `NUMBER`, which each program has.
abbrev pub AreFunctions : {F : Type 0} → List Text → List (Text × F) → Type 0
AreFunctions known functions = map (λ f. f.0) functions ≡ without known (codes "NUMBER" ∷ [])

-- ---- catalogs without flaws

-- a flaw that doesn't change what is shown
abbrev pub IsHarmless : Flaw → Type 0
IsHarmless (duplicate_key k) = Unit {0}
IsHarmless (unresolved e) = ⊥

-- all flaws of the catalog's patterns are harmless
abbrev pub IsFlawless : {F : Type 0} → Ids F → Type 0
IsFlawless {F} ids =
    (id : Text) (m : Meaning F) → find ids id ≡ Some m → All (λ es. All IsHarmless (pattern_flaws ids es)) (meaning_patterns m)

-- An error that depends on the request: a variable that is none of its arguments, or more placeables than one answer
-- may open.
abbrev pub IsOfRequest : {S : Type 0} → List (Text × Value S) → Unresolved → Type 0
IsOfRequest args (unknown (to_variable x)) = argument x args ≡ None
IsOfRequest args (unknown (to_message id attr)) = ⊥
IsOfRequest args (unknown (to_term id attr)) = ⊥
IsOfRequest args (unknown (to_function id)) = ⊥
IsOfRequest args (no_value id) = ⊥
IsOfRequest args missing_default = ⊥
IsOfRequest args cyclic = ⊥
IsOfRequest args too_many_placeables = Unit {0}

-- A flawless catalog answers each request without other errors, whatever the arguments and settings are: no reference
-- is unknown, no message is without its value, no select without a default, and no reference goes round a circle.
abbrev pub FlawlessCatalogsAnswer : Type 0 → Type 0 → Type 0
FlawlessCatalogsAnswer S F = (env : Environment S F) (ids : Ids F) → IsFlawless ids → (id : Text) (attr : Option Text) (es : Elements)
    → message_target id attr (find ids id) ≡ there es → (args : List (Text × Value S)) →
    All (IsOfRequest args) (answer_written (over (find ids) env) args es).errors

-- ---- reports without harmful findings

-- the codes of what changes the text that is shown
abbrev pub harmful_codes : List Text
harmful_codes =
    codes "unknown-message" ∷ codes "unknown-term" ∷ codes "unknown-attribute" ∷ codes "unknown-function"
    ∷ codes "no-value" ∷ codes "no-default" ∷ codes "cyclic-reference" ∷ []

abbrev pub HasHarmlessCode : Finding → Type 0
HasHarmlessCode f = is_among f.code harmful_codes ≡ false

-- no finding has such a code
abbrev pub IsClean : List FileFinding → Type 0
IsClean fs = All (λ (f : FileFinding). HasHarmlessCode f.finding) fs

-- A catalog with a clean report is flawless in each program that has the functions that are known, if the first entry of
-- an id counts. So is one with a clean report with a reference.
abbrev pub CleanCatalogsAreFlawless : Type 0 → Type 0
CleanCatalogsAreFlawless F = (options : Options) (files : List File) (functions : List (Text × F)) →
    AreFunctions options.functions functions → IsClean (findings options files) →
    IsFlawless (program_ids false functions (sources files))

abbrev pub CleanTranslationsAreFlawless : Type 0 → Type 0
CleanTranslationsAreFlawless F = (options : Options) (references files : List File) (functions : List (Text × F)) →
    AreFunctions (known_functions options references) functions →
    IsClean (findings_with_reference options references files) → IsFlawless (program_ids false functions (sources files))

-- ---- reports without duplicates

-- no finding says that an id is taken
abbrev pub HasOwnIds : List FileFinding → Type 0
HasOwnIds fs = All (λ (f : FileFinding). bytes_eq f.finding.code (codes "duplicate-id") ≡ false) fs

-- Then it makes no difference whether the first or the last entry of an id counts.
abbrev pub CatalogsOverrideNothing : Type 0 → Type 0
CatalogsOverrideNothing F = (options : Options) (files : List File) (functions : List (Text × F)) →
    AreFunctions options.functions functions → HasOwnIds (findings options files) →
    program_ids true functions (sources files) ≡ program_ids false functions (sources files)

abbrev pub TranslationsOverrideNothing : Type 0 → Type 0
TranslationsOverrideNothing F = (options : Options) (references files : List File) (functions : List (Text × F)) →
    AreFunctions (known_functions options references) functions →
    HasOwnIds (findings_with_reference options references files) →
    program_ids true functions (sources files) ≡ program_ids false functions (sources files)

-- ---- catalogs with a reference

-- a difference that leaves a request of the reference without an answer
abbrev pub IsMissing : Text × Difference → Type 0
IsMissing (id, missing_message) = Unit {0}
IsMissing (id, missing_value) = Unit {0}
IsMissing (id, missing_attribute a) = Unit {0}
IsMissing _ = ⊥

-- there is a pattern for a request
abbrev pub HasTarget : {F : Type 0} → Ids F → Text → Option Text → Type 0
HasTarget ids id attr = (es : Elements) × (message_target id attr (find ids id) ≡ there es)

-- A catalog that misses nothing of its reference has a pattern for each request that the reference has one for.
abbrev pub NothingMissingAnswersAll : Type 0 → Type 0
NothingMissingAnswersAll F = (ids reference : Ids F) → All (λ d. IsMissing d → ⊥) (all_differences ids reference) →
    (id : Text) (attr : Option Text) → HasTarget reference id attr → HasTarget ids id attr

-- the codes of what leaves a request of the reference without an answer
abbrev pub missing_codes : List Text
missing_codes = codes "missing-message" ∷ codes "missing-value" ∷ codes "missing-attribute" ∷ []

-- no finding has such a code
abbrev pub LacksNothing : List FileFinding → Type 0
LacksNothing fs = All (λ (f : FileFinding). is_among f.finding.code missing_codes ≡ false) fs

-- A catalog whose report lacks nothing has a pattern for each request that the reference has one for, in each program that
-- has the functions that are known, if the first entry of an id counts.
abbrev pub TranslationsAnswerAll : Type 0 → Type 0
TranslationsAnswerAll F = (options : Options) (references files : List File) (functions : List (Text × F)) →
    AreFunctions (known_functions options references) functions →
    LacksNothing (findings_with_reference options references files) → (id : Text) (attr : Option Text) →
    HasTarget (program_ids false functions (sources references)) id attr →
    HasTarget (program_ids false functions (sources files)) id attr
