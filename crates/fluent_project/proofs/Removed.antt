-- What a map says of a path once files were taken out.
use Rattle.std.proofs.Common.{◌≡◌, ◌∙◌, ℕ, ◌+◌, ◌<◌, ◌≤◌, Bool, true, false, List, [], ◌∷◌, ◌++◌, Option, None, Bor, cond, length, drop, get_or, option_map, refl, ap, subst, sym, drop-cons, add-one}
use Rattle.std.specs.Prelude.{String, string_bytes, if◌then◌else◌, ◌&&◌, ◌||◌, not}
use Rattle.std.specs.Global.{Global}
use Rattle.std.specs.Str.{IsUtf8, bytes_eq}
use Rattle.std.specs.String.{string_cmp}
use Rattle.std.specs.BTreeMap.{BTreeMap, UpdatesBy, get_by_text}
use Rattle.std.specs.Cmp.Lexicographic.{slice_cmp}
use Rattle.std.specs.Map.{lookup}
use Rattle.std.specs.Ordering.{is_eq, nat_cmp}
use Rattle.std.proofs.lemmas.List.{drop_all}
use Rattle.std.proofs.lemmas.Map.Text.{btree_map_updates_text}
use Rattle.fluent_project.specs.declared.pairs.Source.{Source as CodeSource}
use Rattle.fluent_project.specs.PairViews.{AddsAll, Removes, said_in, source_view}
use Rattle.fluent_project.specs.Pairs.{Said, Source, first_said, is_among, said_or}
use Rattle.fluent_project.specs.Patterns.{Text}
use Rattle.fluent_project.specs.Views.{plain}
use Rattle.fluent_project.proofs.SaidOf.{adds_both}

abbrev Map : Type 0
Map = BTreeMap (String Global) CodeSource

-- with what is left, all are taken out
abbrev pub LeadsOut : List (Bor Text) → List (Bor Text) → Map → Map → Type 0
LeadsOut rest all old middle = (new : Map) → Removes rest middle new → Removes all old new

viewed : (b : Bool) (found : Option CodeSource) → option_map source_view (cond b None found) ≡ (if b then None else option_map source_view found)
viewed true found = refl
viewed false found = refl

either : (here later : Bool) (before : Option Source) → (if later then None else (if here then None else before)) ≡ (if here || later then None else before)
either true true before = refl
either true false before = refl
either false true before = refl
either false false before = refl

-- one is taken out, and then others
takes_both : (p : Bor Text) (rest : List (Bor Text)) (old middle new : Map)
    → UpdatesBy string_cmp (λ k. slice_cmp nat_cmp p.now (string_bytes k)) old middle None → Removes rest middle new → Removes (p ∷ rest) old new
takes_both p rest old middle new out removes path =
    removes path
    ∙ ap (λ s. if is_among (plain rest) path then None else s)
    (ap (option_map source_view) (btree_map_updates_text p.now old middle None out path) ∙ viewed (bytes_eq p.now path) (get_by_text old path))
    ∙ either (bytes_eq p.now path) (is_among (plain rest) path) (said_in old path)

module _ (paths : List (Bor Text)) (i : ℕ) where
  pub leads_out : (d : Bor Text) (old middle middle' : Map) → i < length paths → LeadsOut (drop i paths) paths old middle
      → UpdatesBy string_cmp (λ k. slice_cmp nat_cmp (get_or paths i d).now (string_bytes k)) middle middle' None
      → LeadsOut (drop (i + 1) paths) paths old middle'
  leads_out d old middle middle' within leads out new removes =
      let step : drop i paths ≡ get_or paths i d ∷ drop (i + 1) paths = rw add-one (drop-cons paths i d within) in
      leads new (subst (λ ps. Removes ps middle new) (sym step) (takes_both (get_or paths i d) (drop (i + 1) paths) middle middle' new out removes))

  pub all_out : (old middle : Map) → length paths ≤ i → LeadsOut (drop i paths) paths old middle → Removes paths old middle
  all_out old middle over leads = leads middle (subst (λ ps. Removes ps middle middle) (sym (drop_all i paths over)) (λ path. refl))

none_in : (m : Map) (path : Text) → m.entries ≡ [] → said_in m path ≡ None
none_in m path none = ap (λ es. option_map source_view (lookup (λ k. is_eq (slice_cmp nat_cmp path (string_bytes k))) es)) none

left : (among is : Bool) (s : Option Source) → (if among then None else (if is then s else None)) ≡ (if not among && is then s else None)
left true true s = refl
left true false s = refl
left false true s = refl
left false false s = refl

-- what is added to nothing, but for what is taken out, is all that is said
pub all_said : (is_kept : Text → Bool) (some more : List Said) (paths : List (Bor Text)) (old middle full new : Map) → old.entries ≡ []
    → AddsAll is_kept some old middle → AddsAll is_kept more middle full → Removes paths full new
    → (path : Text) → IsUtf8 path → said_in new path ≡ (if not (is_among (plain paths) path) && is_kept path then first_said path (some ++ more) else None)
all_said is_kept some more paths old middle full new none adds adds' removes path utf8 =
    let all = if is_kept path then first_said path (some ++ more) else None in
    removes path
    ∙ ap (λ s. if is_among (plain paths) path then None else s)
    (adds_both is_kept some more old middle full adds adds' path utf8 ∙ ap (λ o. said_or o all) (none_in old path none))
    ∙ left (is_among (plain paths) path) (is_kept path) (first_said path (some ++ more))
