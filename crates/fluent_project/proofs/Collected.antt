-- What was collected, before what is left.
use Rattle.std.proofs.Common.{◌≡◌, ℕ, ◌+◌, ◌<◌, ◌≤◌, ◌++◌, List, [], ◌∷◌, Option, Some, None, drop, get_or, length, refl, ap, append-nil, append_assoc, option_map, sym}
use Rattle.std.specs.Prelude.{Result, Ok, Err}
use Rattle.std.proofs.lemmas.List.{drop_all}
use Rattle.toml.specs.Data.{Data}
use Rattle.toml.specs.View.{items_view, view}
use Rattle.toml.specs.declared.value.Value.{Value}
use Rattle.toml.proofs.Views.{items_view-drop}
use Rattle.fluent_project.specs.FileValues.{all_texts, text_of, with_first}
use Rattle.fluent_project.specs.Files.{Fault, rules_from, with_rule}
use Rattle.fluent_project.specs.Patterns.{Text}

abbrev pub before : {A : Type 0} → List A → Option (List A) → Option (List A)
before found rest = option_map (λ rest. found ++ rest) rest

pub before-first : {A : Type 0} (found : List A) (first : A) (rest : Option (List A)) → before found (with_first (Some first) rest) ≡ before (found ++ first ∷ []) rest
before-first found first None = refl
before-first found first (Some rest) = ap Some (sym (append_assoc found (first ∷ []) rest))

pub before-none : {A : Type 0} (rest : Option (List A)) → before [] rest ≡ rest
before-none None = refl
before-none (Some rest) = refl

abbrev pub behind : {A : Type 0} → List A → Result (List A) Fault → Result (List A) Fault
behind found (Ok rest) = Ok (found ++ rest)
behind found (Err fault) = Err fault

pub behind-rule : {A : Type 0} (found : List A) (rule : A) (rest : Result (List A) Fault) → behind found (with_rule (Ok rule) rest) ≡ behind (found ++ rule ∷ []) rest
behind-rule found rule (Ok rest) = ap Ok (sym (append_assoc found (rule ∷ []) rest))
behind-rule found rule (Err fault) = refl

pub behind-none : {A : Type 0} (rest : Result (List A) Fault) → behind [] rest ≡ rest
behind-none (Ok rest) = refl
behind-none (Err fault) = refl

-- a list that is read as texts: one more
pub texts-next : (found : List Text) (vs : List Value) (i : ℕ) (d : Value) (text : Text) → i < length vs → Some text ≡ text_of (view (get_or vs i d))
    → before (found ++ text ∷ []) (all_texts (items_view (drop (i + 1) vs))) ≡ before found (all_texts (items_view (drop i vs)))
texts-next found vs i d text within is = rw (items_view-drop vs i d within, ← is) (sym (before-first found text (all_texts (items_view (drop (i + 1) vs)))))

-- or one that isn't
pub texts-wrong : (found : List Text) (vs : List Value) (i : ℕ) (d : Value) → i < length vs → text_of (view (get_or vs i d)) ≡ None
    → before found (all_texts (items_view (drop i vs))) ≡ None
texts-wrong found vs i d within is = rw (items_view-drop vs i d within, is)

-- and all
pub texts-done : (found : List Text) (vs : List Value) (i : ℕ) → length vs ≤ i → before found (all_texts (items_view (drop i vs))) ≡ Some found
texts-done found vs i all = rw (drop_all i vs all, append-nil found)

-- the same of tables of a name
module _ {A : Type 0} (rule : ℕ → Data → Result A Fault) (found : List A) (vs : List Value) (n : ℕ) where
  pub rules-next : (d : Value) (made : A) → n < length vs → rule n (view (get_or vs n d)) ≡ Ok made
      → behind (found ++ made ∷ []) (rules_from rule (n + 1) (items_view (drop (n + 1) vs))) ≡ behind found (rules_from rule n (items_view (drop n vs)))
  rules-next d made within is = rw (items_view-drop vs n d within, is) (sym (behind-rule found made (rules_from rule (n + 1) (items_view (drop (n + 1) vs)))))

  pub rules-wrong : (d : Value) (wrong : Fault) → n < length vs → rule n (view (get_or vs n d)) ≡ Err wrong
      → behind found (rules_from rule n (items_view (drop n vs))) ≡ Err wrong
  rules-wrong d wrong within is = rw (items_view-drop vs n d within, is)

  pub rules-done : length vs ≤ n → behind found (rules_from rule n (items_view (drop n vs))) ≡ Ok found
  rules-done all = rw (drop_all n vs all, append-nil found)
