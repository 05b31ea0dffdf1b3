-- What is added of one file.
use Rattle.std.proofs.Common.{◌≡◌, ◌∙◌, ℕ, Bool, true, false, List, [], ◌∷◌, Option, Some, None, refl, ap, sym, subst}
use Rattle.std.specs.Prelude.{◌&&◌, if◌then◌else◌, nat_eq, String, string_bytes}
use Rattle.std.specs.Global.{Global}
use Rattle.std.specs.List.{starts_with}
use Rattle.std.specs.Str.{IsUtf8, bytes_eq}
use Rattle.std.specs.BTreeMap.{BTreeMap}
use Rattle.std.specs.Cmp.Lexicographic.{same_text}
use Rattle.std.proofs.lemmas.Bool.{and_parts, false≢true}
use Rattle.fluent_project.specs.declared.pairs.Source.{Source as CodeSource}
use Rattle.fluent_project.specs.declared.pairs.Patterns.{Patterns}
use Rattle.fluent_project.specs.Folders.{folder}
use Rattle.fluent_project.specs.PairViews.{AddsAll, AddsSaid, IsTranslation, said_in}
use Rattle.fluent_project.specs.Pairs.{Rule, Said, Source, alone_as, alone_by, file, has_translation, is_about, said_or, translation_by}
use Rattle.fluent_project.specs.Patterns.{Text, filled}
use Rattle.fluent_project.specs.Taking.{taken, takes}
use Rattle.fluent_project.proofs.SaidOf.{adds_none}
use Rattle.fluent_project.proofs.Starting.{begins_there}

abbrev Map : Type 0
Map = BTreeMap (String Global) CodeSource

module _ (is_kept : Text → Bool) (locale : Text) (rule : Rule) (path : Text) where
  -- a file that is no translation
  pub adds_other : (m : Map) → has_translation locale path rule ≡ false → AddsAll is_kept (alone_by locale rule path) m m
  adds_other m none =
      subst (λ more. AddsAll is_kept more m m) (sym (ap (λ b. if b then (path, alone_as rule) ∷ [] else []) none)) (adds_none is_kept m)

  -- a file that is one
  pub adds_alone : (old new : Map) → has_translation locale path rule ≡ true
      → AddsSaid is_kept path (alone_as rule) old new → AddsAll is_kept (alone_by locale rule path) old new
  adds_alone old new is adds =
      subst (λ more. AddsAll is_kept more old new) (sym (ap (λ b. if b then (path, alone_as rule) ∷ [] else []) is)) adds

  no_start : (about takes : Bool) → (about && takes) ≡ true → takes ≡ true
  no_start about takes both = (and_parts about takes both).1

  none_by : (is : Bool) → (is ≡ true → ⊥) → is ≡ false
  none_by true never = absurd (never refl)
  none_by false never = refl

  -- a file whose path doesn't begin with the folder
  pub has_none : starts_with nat_eq path (folder locale rule.l10n) ≡ false → has_translation locale path rule ≡ false
  has_none apart =
      none_by (has_translation locale path rule)
      (λ is. false≢true (sym apart ∙ begins_there locale rule.l10n path (no_start (is_about locale rule) (takes locale rule.l10n path) is)))

module _ (is_kept : Text → Bool) (p : Patterns) (n : ℕ) (path : Text) where
  abbrev there : Text
  there = filled p.locale.now p.l10n.now (taken [] p.reference.now path)

  abbrev these : Bool → List Said
  these b = if b then (there, file n) ∷ [] else []

  -- a file that has a translation
  pub adds_translation : (t : String Global) (old new : Map) → IsTranslation p path (Some t)
      → AddsSaid is_kept (string_bytes t) (file n) old new
      → AddsAll is_kept (translation_by p.locale.now p.reference.now p.l10n.now n path) old new
  adds_translation t old new is adds =
      subst (λ more. AddsAll is_kept more old new) (sym (ap these is.0))
      (subst (λ text. AddsSaid is_kept text (file n) old new) is.1 adds)

  not_said : (before : Option Source) (s : Source) (here may : Bool) → (here ≡ true → ⊥)
      → before ≡ said_or before (if may then (if here then Some s else None) else None)
  not_said (Some x) s here may never = refl
  not_said None s true may never = absurd (never refl)
  not_said None s false true never = refl
  not_said None s false false never = refl

  none_by_takes : (m : Map) (b : Bool) → takes [] p.reference.now path ≡ b → IsTranslation p path None
      → AddsAll is_kept (these b) m m
  none_by_takes m true is none other utf8 =
      not_said (said_in m other) (file n) (bytes_eq there other) (is_kept other)
      (λ same. none is (subst IsUtf8 (sym (same_text there other (sym same))) utf8))
  none_by_takes m false is none other utf8 = adds_none is_kept m other utf8

  -- a file that has none, or none that is a text
  pub adds_untranslated : (m : Map) → IsTranslation p path None
      → AddsAll is_kept (translation_by p.locale.now p.reference.now p.l10n.now n path) m m
  adds_untranslated m none = none_by_takes m (takes [] p.reference.now path) refl none
