-- What reading tells of errors, and what is imported of an export.
use Rattle.std.proofs.Common.{◌≡◌, Bool, true, false, Result, Ok, Err, List, [], ◌∷◌, map, refl, sym, ap, ◌∙◌, subst}
use Rattle.std.specs.Prelude.{IsTrue, IfErr, IsErrOf}
use Rattle.fluent_grammar.specs.Tiling.{ParserError, tree}
use Rattle.fluent_grammar.specs.Written.{written}
use Rattle.fluent_parsed.specs.ErrorView.{error_told}
use Rattle.fluent_tidy_laws.specs.Cut.{cut}
use Rattle.serde_json.specs.Data.{Data}
use Rattle.fluent_grammar.specs.Words.{Text}
use Rattle.fluent_grammar.specs.Tree.{Entry}
use Rattle.fluent_json.specs.Json.{HasValue, with_version, without_version, ValueDecides}
use Rattle.fluent_tidy_laws.specs.Normal.{IsCanonical}
use Rattle.fluent_tidy.specs.DeskLaws.{ExportsAreImported, VersionsAreImportedAlike}
use Rattle.fluent_tidy.specs.Trees.{IsImported, IsNotImported}

-- no errors are told of where there are none
pub no_errors_told : (es : List ParserError) → map error_told es ≡ [] → es ≡ []
no_errors_told [] e = refl
no_errors_told (x ∷ xs) e = absurd cc

pub exports_are_imported : ValueDecides → ExportsAreImported
exports_are_imported value_decides source =
    let t = tree (cut source) in
    record {
      text = λ text. (
        λ i. let e = value_decides i.entries t _ i.has_value (with_version refl) in record { canonical = subst IsCanonical e i.canonical; is = i.is ∙ ap written e },
        λ n. record { entries = t; has_value = with_version refl; canonical = n.canonical; is = n.is },
      );
      not_normal = (
        λ i. λ c. i.not_canonical (subst IsCanonical (sym (value_decides i.entries t _ i.has_value (with_version refl))) c),
        λ none. record { entries = t; has_value = with_version refl; not_canonical = none },
      );
      never_shape = λ none. none t (with_version refl);
    }

-- two values of one tree are imported alike
imported_alike : ValueDecides → (entries : List Entry) (d e : Data) → HasValue entries d → HasValue entries e → (text : Text) → IsImported d text → IsImported e text
imported_alike value_decides entries d e one other text i =
    let same = value_decides i.entries entries d i.has_value one in
    record { entries = entries; has_value = other; canonical = subst IsCanonical same i.canonical; is = i.is ∙ ap written same }

not_imported_alike : ValueDecides → (entries : List Entry) (d e : Data) → HasValue entries d → HasValue entries e → IsNotImported d → IsNotImported e
not_imported_alike value_decides entries d e one other i =
    let same = value_decides i.entries entries d i.has_value one in
    record { entries = entries; has_value = other; not_canonical = λ c. i.not_canonical (subst IsCanonical (sym same) c) }

pub versions_are_imported_alike : ValueDecides → VersionsAreImportedAlike
versions_are_imported_alike value_decides entries none =
    let without : HasValue entries _ = without_version none refl in
    let within : HasValue entries _ = with_version refl in
    record {
      text = λ text. (imported_alike value_decides entries _ _ without within text, imported_alike value_decides entries _ _ within without text);
      not_normal = (not_imported_alike value_decides entries _ _ without within, not_imported_alike value_decides entries _ _ within without);
      never_shape = λ none. none entries without;
    }

-- what is known of an error
pub of_error : {T E : Type 0} (P : E → Type 0) (r : Result T E) (e : E) → r ≡ Err e → IfErr r P → P e
of_error P r e is h = subst (λ z. IfErr z P) is h

pub not_true : (b : Bool) → (IsTrue b → ⊥) → b ≡ false
not_true true h = absurd (h refl)
not_true false h = refl

pub value_is_no_error : {T E : Type 0} (r : Result T E) (t : T) (e : E) → r ≡ Ok t → IsErrOf r e → ⊥
value_is_no_error r t e is h = absurd cc
