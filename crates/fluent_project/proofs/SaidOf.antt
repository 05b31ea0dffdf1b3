-- What is said of a path by several lists, one after the other.
use Rattle.std.proofs.Common.{◌≡◌, ◌∙◌, Bool, true, false, List, [], ◌∷◌, ◌++◌, Option, Some, None, refl, ap, sym}
use Rattle.std.specs.Prelude.{if◌then◌else◌}
use Rattle.std.specs.Str.{bytes_eq}
use Rattle.std.specs.Prelude.{String}
use Rattle.std.specs.Global.{Global}
use Rattle.std.specs.BTreeMap.{BTreeMap}
use Rattle.fluent_project.specs.declared.pairs.Source.{Source as CodeSource}
use Rattle.fluent_project.specs.PairViews.{AddsAll, said_in}
use Rattle.fluent_project.specs.Pairs.{Said, Source, first_said, said_or}
use Rattle.fluent_project.specs.Patterns.{Text}

-- the first that either says
pub first_of_both : (path : Text) (some more : List Said) → first_said path (some ++ more) ≡ said_or (first_said path some) (first_said path more)
first_of_both path [] more = refl
first_of_both path (s ∷ some) more = by (first_of_both path some more) (bytes_eq s.0 path)
  where
    by : first_said path (some ++ more) ≡ said_or (first_said path some) (first_said path more) → (b : Bool) → (if b then Some s.1 else first_said path (some ++ more)) ≡ said_or (if b then Some s.1 else first_said path some) (first_said path more)
    by rest true = refl
    by rest false = rest

-- said before, then by some, then by more
pub said_thrice : (before some more : Option Source) (may : Bool) → said_or (said_or before (if may then some else None)) (if may then more else None)
    ≡ said_or before (if may then said_or some more else None)
said_thrice (Some s) some more may = refl
said_thrice None (Some s) more true = refl
said_thrice None None more true = refl
said_thrice None some more false = refl

-- nothing is added
pub adds_none : (may : Text → Bool) (m : BTreeMap (String Global) CodeSource) → AddsAll may [] m m
adds_none may m path utf8 = by (said_in m path) (may path)
  where
    by : (s : Option Source) (may : Bool) → s ≡ said_or s (if may then None else None)
    by (Some s) may = refl
    by None true = refl
    by None false = refl

-- some are added, and then more
pub adds_both : (may : Text → Bool) (some more : List Said) (old middle new : BTreeMap (String Global) CodeSource)
    → AddsAll may some old middle → AddsAll may more middle new → AddsAll may (some ++ more) old new
adds_both may some more old middle new adds adds' path utf8 =
    let is = may path in
    adds' path utf8
    ∙ ap (λ s. said_or s (if is then first_said path more else None)) (adds path utf8)
    ∙ said_thrice (said_in old path) (first_said path some) (first_said path more) is
    ∙ ap (λ s. said_or (said_in old path) (if is then s else None)) (sym (first_of_both path some more))
