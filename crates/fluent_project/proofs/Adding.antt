-- What is left to add, while a list of files is gone through.
use Rattle.std.proofs.Common.{◌≡◌, ℕ, Bool, ◌+◌, ◌<◌, ◌≤◌, List, [], ◌++◌, Bor, length, drop, get_or, ap, sym, subst, drop-cons, add-one}
use Rattle.std.specs.Prelude.{String}
use Rattle.std.specs.Global.{Global}
use Rattle.std.specs.BTreeMap.{BTreeMap}
use Rattle.std.proofs.lemmas.List.{drop_all}
use Rattle.fluent_project.specs.declared.part.Part.{Part}
use Rattle.fluent_project.specs.declared.pairs.Source.{Source as CodeSource}
use Rattle.fluent_project.specs.PairViews.{AddsAll}
use Rattle.fluent_project.specs.Pairs.{Rule, Said, alone_by, alone_of, translation_by, translations_by}
use Rattle.fluent_project.specs.Patterns.{Text}
use Rattle.fluent_project.specs.Views.{plain}
use Rattle.fluent_project.proofs.SaidOf.{adds_both, adds_none}

abbrev Map : Type 0
Map = BTreeMap (String Global) CodeSource

module _ (may : Text → Bool) where
  -- with what is left, all is added
  abbrev pub Leads : List Said → List Said → Map → Map → Type 0
  Leads rest all old middle = (new : Map) → AddsAll may rest middle new → AddsAll may all old new

  pub leads_on : (some rest rest' all : List Said) (old middle middle' : Map) → rest ≡ some ++ rest' → Leads rest all old middle
      → AddsAll may some middle middle' → Leads rest' all old middle'
  leads_on some rest rest' all old middle middle' is leads adds new adds' =
      leads new (subst (λ said. AddsAll may said middle new) (sym is) (adds_both may some rest' middle middle' new adds adds'))

  pub leads_to : (rest all : List Said) (old middle : Map) → rest ≡ [] → Leads rest all old middle → AddsAll may all old middle
  leads_to rest all old middle none leads =
      leads middle (subst (λ said. AddsAll may said middle middle) (sym none) (adds_none may middle))

-- the next file of a language alone, and the end of its files
module _ (locale : Text) (rule : Rule) (files : List (Bor Text)) (i : ℕ) where
  pub alone_next : (d : Bor Text) → i < length files
      → alone_of locale (plain (drop i files)) rule ≡ alone_by locale rule (get_or files i d).now ++ alone_of locale (plain (drop (i + 1) files)) rule
  alone_next d within = rw add-one (ap (λ fs. alone_of locale (plain fs) rule) (drop-cons files i d within))

  pub alone_last : length files ≤ i → alone_of locale (plain (drop i files)) rule ≡ []
  alone_last over = ap (λ fs. alone_of locale (plain fs) rule) (drop_all i files over)

-- the next file of the reference, and the end of its files
module _ (locale : Text) (reference l10n : List Part) (files : List (Bor Text)) (i : ℕ) where
  pub translations_next : (d : Bor Text) → i < length files
      → translations_by locale reference l10n i (plain (drop i files))
      ≡ translation_by locale reference l10n i (get_or files i d).now ++ translations_by locale reference l10n (i + 1) (plain (drop (i + 1) files))
  translations_next d within = rw add-one (ap (λ fs. translations_by locale reference l10n i (plain fs)) (drop-cons files i d within))

  pub translations_last : length files ≤ i → translations_by locale reference l10n i (plain (drop i files)) ≡ []
  translations_last over = ap (λ fs. translations_by locale reference l10n i (plain fs)) (drop_all i files over)
