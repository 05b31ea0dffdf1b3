-- The first name of a pattern, and those after it.
use Rattle.std.proofs.Common.{◌≡◌, ◌∙◌, ◌-◌, suc, Bool, true, false, List, [], ◌∷◌, Some, None, length, take, refl, ap, arith}
use Rattle.std.specs.Prelude.{if◌then◌else◌}
use denote.Ref.{Bor}
use Rattle.fluent_project.specs.Views.{cuts}
use Rattle.fluent_project.specs.declared.part.Part.{Part}
use Rattle.fluent_project.specs.declared.part.Part.TheVariants as part
use Rattle.fluent_project.specs.declared.part.Wildcard.TheVariants.{Star, Folders, Rest}
use Rattle.fluent_project.specs.Normal.{after_name, first_name, name_len, names, onto_first, rest_names, without_last}
use Rattle.fluent_project.specs.Patterns.{is_slash}

pub names_cut : (parts : List Part) → names parts ≡ take (name_len parts) parts ∷ rest_names (after_name parts)
names_cut [] = refl
names_cut (part.Byte byte ∷ parts) = by (names_cut parts) (is_slash byte)
  where
    by : names parts ≡ take (name_len parts) parts ∷ rest_names (after_name parts) → (b : Bool) → (if b then [] ∷ names parts else onto_first (part.Byte byte) (names parts))
        ≡ take (if b then 0 else suc (name_len parts)) (part.Byte byte ∷ parts) ∷ rest_names (if b then Some parts else after_name parts)
    by rest true = refl
    by rest false = ap (onto_first (part.Byte byte)) rest
names_cut (part.Locale ∷ parts) = ap (onto_first part.Locale) (names_cut parts)
names_cut (part.Wildcard Folders ∷ parts) = refl
names_cut (part.Wildcard Star ∷ parts) = ap (onto_first (part.Wildcard Star)) (names_cut parts)
names_cut (part.Wildcard Rest ∷ parts) = ap (onto_first (part.Wildcard Rest)) (names_cut parts)

pub names_alone : (parts : List Part) → after_name parts ≡ None → names parts ≡ first_name parts ∷ []
names_alone parts none = names_cut parts ∙ ap (λ rest. first_name parts ∷ rest_names rest) none

pub names_more : (parts rest : List Part) → after_name parts ≡ Some rest → names parts ≡ first_name parts ∷ names rest
names_more parts rest some = names_cut parts ∙ ap (λ after. first_name parts ∷ rest_names after) some

-- all names of a path but the last
pub cuts_without_last : (path : List (Bor (List Part))) → cuts (take (length path - 1) path) ≡ without_last (cuts path)
cuts_without_last [] = refl
cuts_without_last (name ∷ []) = refl
cuts_without_last (name ∷ next ∷ path) =
    let less : suc (suc (length path)) - 1 ≡ suc (length path) = omega arith in
    let one : length path ≡ suc (length path) - 1 = omega arith in
    ap (λ n. cuts (take n (name ∷ next ∷ path))) less
    ∙ ap (λ rest. name.now ∷ rest) (ap (λ n. cuts (take n (next ∷ path))) one ∙ cuts_without_last (next ∷ path))
