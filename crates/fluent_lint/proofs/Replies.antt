-- What a report says of the answers to requests.
use Rattle.std.proofs.Common.{◌≡◌, ◌∙◌, Bool, true, false, List, [], ◌∷◌, Option, Some, None, refl, sym, ap, subst, append-nil, ◌⊎◌, inl, inr, if◌then◌else◌}
use Rattle.std.specs.Prelude.{is_some, codes}
use Rattle.std.specs.Option.{option_map}
use Rattle.std.proofs.lemmas.Bool.{false≢true}
use Rattle.fluent_grammar.specs.Words.{Text, is_among}
use Rattle.fluent_grammar.specs.Tree.{Elements}
use Rattle.fluent_value.specs.Args.{all_set}
use Rattle.fluent_value.specs.Value.{Value}
use Rattle.fluent_meaning.specs.Environment.{Environment}
use Rattle.fluent_meaning.specs.Ids.{Ids, Meaning, number_function, function, message, term, find}
use Rattle.fluent_meaning.specs.ReachLaws.{over}
use Rattle.fluent_meaning.specs.Substitution.{answer_written, message_target, there, there_or}
use Rattle.fluent_errors.specs.Errors.{Unresolved, no_value, unknown, to_message}
use Rattle.fluent_serve.specs.Requests.{Request}
use Rattle.fluent_answers.specs.Answers.{pattern_asked, told}
use Rattle.fluent_answers.specs.Sources.{ids_of}
use Rattle.lint_findings.specs.Comparison.{without}
use Rattle.lint_findings.specs.Files.{File}
use Rattle.lint_findings.specs.Findings.{Options, sources, known_functions}
use Rattle.lint_findings.specs.ReportLaws.{AreFunctions, HasOwnIds, IsClean, IsFlawless, HasTarget, harmful_codes, missing_codes}
use Rattle.lint_findings.proofs.FlawlessCatalogs.{flawless_catalogs_answer}
use Rattle.lint_findings.proofs.CleanReports.{clean_catalogs_are_flawless, clean_translations_are_flawless}
use Rattle.lint_findings.proofs.OwnIds.{catalogs_override_nothing, translations_override_nothing}
use Rattle.lint_findings.proofs.Translations.{translations_answer_all}
use Rattle.fluent_lint.specs.LintReport.{all_findings}
use Rattle.fluent_lint.proofs.SameFindings.{none_found, one_found}
use Rattle.std.proofs.lemmas.List.Elements.{All-head, All-tail}
use Rattle.fluent_lint.specs.RunLaws.{KnowsNumberAlone, replied, HasErrorsOfRequest, RepliesWell, CleanReportsReplyWell, OwnIdsReplyWell, TranslationsReply}

-- ---- the pattern that is asked for

there_if : (e : Unresolved) (o : Option Elements) (es : Elements) → o ≡ Some es → there_or e o ≡ there es
there_if e o es h = ap (there_or e) h

some_there : (e : Unresolved) (o : Option Elements) (es : Elements) → there_or e o ≡ there es → is_some o ≡ true
some_there e None es h = absurd cc
some_there e (Some x) es h = refl

module _ {F : Type 0} where
  asked_is_target : (id : Text) (attr : Option Text) (o : Option (Meaning F)) (es : Elements) → pattern_asked attr o ≡ Some es → message_target id attr o ≡ there es
  asked_is_target id attr None es h = absurd cc
  asked_is_target id attr (Some number_function) es h = absurd cc
  asked_is_target id attr (Some (function f)) es h = absurd cc
  asked_is_target id attr (Some (term m)) es h = absurd cc
  asked_is_target id None (Some (message m)) es h = there_if (no_value id) m.value es h
  asked_is_target id (Some a) (Some (message m)) es h = there_if (unknown (to_message id (Some a))) _ es h

  target_is_asked : (id : Text) (attr : Option Text) (o : Option (Meaning F)) (es : Elements) → message_target id attr o ≡ there es → is_some (pattern_asked attr o) ≡ true
  target_is_asked id attr None es h = absurd cc
  target_is_asked id attr (Some number_function) es h = absurd cc
  target_is_asked id attr (Some (function f)) es h = absurd cc
  target_is_asked id attr (Some (term m)) es h = absurd cc
  target_is_asked id None (Some (message m)) es h = some_there (no_value id) m.value es h
  target_is_asked id (Some a) (Some (message m)) es h = some_there (unknown (to_message id (Some a))) _ es h

mapped_some : {A B : Type 0} (f : A → B) (o : Option A) → is_some (option_map f o) ≡ is_some o
mapped_some f None = refl
mapped_some f (Some a) = refl

found_some : {A : Type 0} (o : Option A) → is_some o ≡ true → (a : A) × (o ≡ Some a)
found_some None h = absurd (false≢true h)
found_some (Some a) h = (a, refl)

-- ---- replies by the ids of a program

module _ {S F : Type 0} (env : Environment S F) (r : Request (Value S)) (ids : Ids F) where
  abbrev asked : Option Elements
  asked = pattern_asked r.attribute (find ids r.id)

  abbrev args : List (Text × Value S)
  args = all_set [] r.arguments

  by_asked : IsFlawless ids → (o : Option Elements) → asked ≡ o → HasErrorsOfRequest args (option_map (λ es. told (answer_written (over (find ids) env) args es)) o)
  by_asked h None is = tt
  by_asked h (Some es) is =
      ((answer_written (over (find ids) env) args es).errors, (refl, flawless_catalogs_answer env ids h r.id r.attribute es (asked_is_target r.id r.attribute (find ids r.id) es is) args))

pub replies_well : {S F : Type 0} (overriding : Bool) (files : List File) → IsFlawless (ids_of {F = F} overriding (sources files)) → RepliesWell S F overriding files
replies_well overriding files h env r = by_asked env r (ids_of overriding (sources files)) h (asked env r (ids_of overriding (sources files))) refl

-- ---- no functions

pub no_functions : (F : Type 0) (options : Options) (references : List File) → KnowsNumberAlone options references → AreFunctions {F = F} (known_functions options references) []
no_functions F options references h = sym h

own_functions : (F : Type 0) (options : Options) → KnowsNumberAlone options [] → AreFunctions {F = F} options.functions []
own_functions F options h = sym (ap (λ names. without names (codes "NUMBER" ∷ [])) (sym (append-nil options.functions)) ∙ h)

flawless : (F : Type 0) (options : Options) (references files : List File) → KnowsNumberAlone options references → IsClean (all_findings options references files) → IsFlawless (ids_of {F = F} false (sources files))
flawless F options [] files alone clean = clean_catalogs_are_flawless options files [] (own_functions F options alone) clean
flawless F options (file ∷ references) files alone clean = clean_translations_are_flawless options (file ∷ references) files [] (no_functions F options (file ∷ references) alone) clean

own_ids : (F : Type 0) (options : Options) (references files : List File) → KnowsNumberAlone options references → HasOwnIds (all_findings options references files) →
    ids_of {F = F} true (sources files) ≡ ids_of {F = F} false (sources files)
own_ids F options [] files alone own = catalogs_override_nothing options files [] (own_functions F options alone) own
own_ids F options (file ∷ references) files alone own = translations_override_nothing options (file ∷ references) files [] (no_functions F options (file ∷ references) alone) own

pub clean_reports_reply_well : {S F : Type 0} → CleanReportsReplyWell S F
clean_reports_reply_well {S} {F} options ignored references files unsilenced alone shown clean =
    replies_well false files (flawless F options references files alone (none_found options ignored references files unsilenced harmful_codes shown clean))

pub own_ids_reply_well : {S F : Type 0} → OwnIdsReplyWell S F
own_ids_reply_well {S} {F} options ignored references files unsilenced alone shown clean own =
    let of_id = All-head (λ name. is_among name ignored ≡ false) (codes "duplicate-id") harmful_codes shown in
    let of_others = All-tail (λ name. is_among name ignored ≡ false) (codes "duplicate-id") harmful_codes shown in
    let clean_there = none_found options ignored references files unsilenced harmful_codes of_others clean in
    let own_there = one_found options ignored references files unsilenced (codes "duplicate-id") of_id own in
    replies_well true files (subst IsFlawless (sym (own_ids F options references files alone own_there)) (flawless F options references files alone clean_there))

-- from no source there is no reply
module _ {S F : Type 0} (env : Environment S F) (r : Request (Value S)) where
  none_asked : (o : Option (Meaning F)) → (o ≡ None) ⊎ (o ≡ Some number_function) → pattern_asked r.attribute o ≡ None
  none_asked o (inl none) = ap (pattern_asked r.attribute) none
  none_asked o (inr number) = ap (pattern_asked r.attribute) number

  number_alone : (b : Bool) (m : Meaning F) → ((if b then Some m else None) ≡ None) ⊎ ((if b then Some m else None) ≡ Some m)
  number_alone true m = inr refl
  number_alone false m = inl refl

  no_reply : is_some (replied env false [] r) ≡ true → ⊥
  no_reply h =
      let ids = ids_of {F = F} false [] in
      let none = none_asked (find ids r.id) (number_alone _ number_function) in
      false≢true (sym (mapped_some _ (asked env r ids) ∙ ap is_some none) ∙ h)

pub translations_reply : {S F : Type 0} → TranslationsReply S F
translations_reply {S} {F} options ignored [] files unsilenced alone shown complete env r h = absurd (no_reply env r h)
translations_reply {S} {F} options ignored (file ∷ more) files unsilenced alone shown complete env r h =
    let references = file ∷ more in
    let reference = ids_of {F = F} false (sources references) in
    let ids = ids_of {F = F} false (sources files) in
    let own = found_some (asked env r reference) (sym (mapped_some _ (asked env r reference)) ∙ h) in
    let target : HasTarget reference r.id r.attribute = (own.0, asked_is_target r.id r.attribute (find reference r.id) own.0 own.1) in
    let lacks = none_found options ignored references files unsilenced missing_codes shown complete in
    let found = translations_answer_all options references files [] (no_functions F options references alone) lacks r.id r.attribute target in
    mapped_some _ (asked env r ids) ∙ target_is_asked r.id r.attribute (find ids r.id) found.0 found.1
