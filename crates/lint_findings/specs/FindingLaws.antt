-- Laws of each finding: those of junk, of references, of repeated variants and of unused terms.
use Rattle.std.specs.Prelude.{◌≡◌, ℕ, zero, suc, true, List, [], ◌∷◌, drop, map, filter, All, Bool, Option, Some, None, codes}
use Rattle.std.specs.List.{Contains, flat_map}
use Rattle.std.specs.Str.{bytes_eq}
use Rattle.fluent_grammar.specs.Words.{Text, hyphen, is_among}
use Rattle.fluent_grammar.specs.Refusal.{got}
use Rattle.fluent_grammar.specs.Tree as t
use Rattle.fluent_grammar.specs.Tree.{Inline, MaybeArguments, Variants, VariantKey}
use Rattle.fluent_grammar.specs.Ends.{EndsIn}
use Rattle.fluent_grammar.specs.Reading.{entry_at, key_at}
use Rattle.fluent_grammar.specs.Tiling.{errors, list}
use Rattle.fluent_errors.specs.Errors.{Unresolved}
use Rattle.fluent_tidy_laws.specs.Joined.{lists}
use Rattle.fluent_value.specs.Matching.{Plurals}
use Rattle.fluent_value.specs.Value.{Value}
use Rattle.fluent_meaning.specs.Choice.{first_match}
use Rattle.fluent_meaning.specs.Ids.{Ids, find}
use Rattle.lint_findings.specs.References.{elements_references, reference_error}
use Rattle.lint_findings.specs.Flaws.{Owner, catalog_ids, duplicate_key, elements_selects, entry_patterns, unresolved}
use Rattle.lint_findings.specs.FlawWords.{flaw_words}
use Rattle.lint_findings.specs.Occurrences.{inline_read}
use Rattle.lint_findings.specs.Files.{File}
use Rattle.lint_findings.specs.Findings.{Options, FileFinding, sources, findings, findings_with_reference, known_ids}

-- What holds of all findings of files, by the ids that are known there: of a catalog by itself, and with a reference.
abbrev pub OfCatalogs : (Ids (Unit {0}) → List File → List FileFinding → Type 0) → Type 0
OfCatalogs Holds = (options : Options) (files : List File) →
    Holds (catalog_ids options.functions (sources files)) files (findings options files)

abbrev pub OfTranslations : (Ids (Unit {0}) → List File → List FileFinding → Type 0) → Type 0
OfTranslations Holds = (options : Options) (references files : List File) →
    Holds (known_ids options references files) files (findings_with_reference options references files)

-- ---- junk

-- the codes of findings of junk
abbrev pub syntax_codes : List Text
syntax_codes = codes "syntax" ∷ codes "byte-order-mark" ∷ []

abbrev pub is_syntax : FileFinding → Bool
is_syntax f = is_among f.finding.code syntax_codes

-- the file of each finding of junk
abbrev pub syntax_files : List FileFinding → List File
syntax_files fs = map (λ (f : FileFinding). f.file) (filter is_syntax fs)

-- each file as often as the parser reports an error of it
abbrev pub error_files : List File → List File
error_files files = flat_map (λ (file : File). map (λ e. file) (errors file.source)) files

-- Each file has as many findings of junk as the parser reports errors of it, and no other file has one.
abbrev pub HasErrors : Ids (Unit {0}) → List File → List FileFinding → Type 0
HasErrors ids files fs = syntax_files fs ≡ error_files files

-- ---- references

-- the codes of a reference to something that is missing
abbrev pub reference_codes : List Text
reference_codes =
    codes "unknown-message" ∷ codes "unknown-term" ∷ codes "unknown-attribute" ∷ codes "unknown-function"
    ∷ codes "no-value" ∷ []

-- From the offset of a finding on, the source is read as a reference. The finding says the error that it has by these
-- ids.
pub record IsOfReference {F : Type 0} (ids : Ids F) (f : FileFinding) : Type 0 where
  pub reference : Inline
  pub rest : Text
  pub error : Unresolved
  pub read : inline_read (drop f.finding.offset f.file.source) ≡ got reference rest
  pub missing : reference_error (find ids) reference ≡ Some error
  pub code : f.finding.code ≡ (flaw_words (unresolved error)).code
  pub text : f.finding.text ≡ (flaw_words (unresolved error)).text

-- Each finding with such a code is of a reference.
abbrev pub HasReferences : Ids (Unit {0}) → List File → List FileFinding → Type 0
HasReferences ids files fs = All (λ (f : FileFinding). is_among f.finding.code reference_codes ≡ true → IsOfReference ids f) fs

-- ---- repeated variants

-- the key of the variant with this index
abbrev pub variant_key : ℕ → Variants → Option VariantKey
variant_key n t.no_variants = None
variant_key zero (t.variant k es d vs) = Some k
variant_key (suc n) (t.variant k es d vs) = variant_key n vs

-- the other variants
abbrev pub without_variant : ℕ → Variants → Variants
without_variant n t.no_variants = t.no_variants
without_variant zero (t.variant k es d vs) = vs
without_variant (suc n) (t.variant k es d vs) = t.variant k es d (without_variant n vs)

-- A variant never matches: without it, each value has the same match.
abbrev pub NeverMatches : Type 0 → ℕ → Variants → Type 0
NeverMatches S n vs = (plurals : Plurals) (v : Value S) → first_match plurals v (without_variant n vs) ≡ first_match plurals v vs

-- the variants of each select in the messages and terms of a source
abbrev pub source_selects : Text → List Variants
source_selects source = flat_map (λ (p : Owner × t.Elements). elements_selects p.1) (flat_map entry_patterns (list source))

-- From the offset of a finding on, the source is read as a key. It is that of a variant, of a select of the source, which
-- never matches.
pub record IsOfLostVariant (S : Type 0) (f : FileFinding) : Type 0 where
  pub key : VariantKey
  pub rest : Text
  pub variants : Variants
  pub index : ℕ
  pub read : key_at (drop f.finding.offset f.file.source) ≡ got key rest
  pub there : Contains (source_selects f.file.source) variants
  pub keyed : variant_key index variants ≡ Some key
  pub lost : NeverMatches S index variants
  pub text : f.finding.text ≡ (flaw_words (duplicate_key key)).text

abbrev pub is_repeated : FileFinding → Bool
is_repeated f = bytes_eq f.finding.code (codes "duplicate-variant")

-- Each finding of a repeated variant is of one that never matches.
abbrev pub HasLostVariants : Type 0 → Ids (Unit {0}) → List File → List FileFinding → Type 0
HasLostVariants S ids files fs = All (λ f. is_repeated f ≡ true → IsOfLostVariant S f) fs

-- ---- terms that nothing refers to

-- Some text of the messages and terms of sources has a reference to the term of this id, wherever it stands in it.
abbrev pub IsReferredIn : List Text → Text → Type 0
IsReferredIn texts id = (p : Owner × t.Elements) × Contains (flat_map entry_patterns (lists texts)) p
    × (a : Option Text) × (c : MaybeArguments) × Contains (elements_references p.1) (t.term_reference id a c)

-- A finding is of a term that is read at some end of the source. Nothing refers to it, and the finding has its label.
pub record IsOfLoneTerm (Refers : Text → Type 0) (f : FileFinding) : Type 0 where
  pub term : t.Term
  pub at : Text
  pub rest : Text
  pub place : EndsIn at f.file.source
  pub read : entry_at at ≡ got (t.term term) rest
  pub label : f.finding.entry ≡ Some (hyphen ∷ term.id)
  pub unused : Refers term.id → ⊥

abbrev pub is_unused : FileFinding → Bool
is_unused f = bytes_eq f.finding.code (codes "unused-term")

-- Each finding of an unused term is of one that no text of the catalog refers to.
abbrev pub HasLoneTerms : Ids (Unit {0}) → List File → List FileFinding → Type 0
HasLoneTerms ids files fs = All (λ f. is_unused f ≡ true → IsOfLoneTerm (IsReferredIn (sources files)) f) fs
