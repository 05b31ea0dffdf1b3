-- A path of a pattern begins with the folder of the pattern.
use Rattle.std.proofs.Common.{◌≡◌, ◌∙◌, ◌++◌, Bool, true, false, List, [], ◌∷◌, length, take, drop, refl, ap, sym, subst}
use Rattle.std.specs.Prelude.{if◌then◌else◌, nat_eq, not, unwrap_or}
use Rattle.std.specs.List.{starts_with}
use Rattle.std.specs.Cmp.Lexicographic.{nat_list_eq_equiv, pointwise}
use Rattle.std.proofs.Math.Seq.{take-append_seam}
use Rattle.std.proofs.lemmas.Bool.{false≢true}
use Rattle.std.proofs.lemmas.List.{append-nil, append_assoc, take-append-drop}
use Rattle.fluent_project.specs.declared.part.Part.{Part}
use Rattle.fluent_project.specs.declared.part.Part.TheVariants as part
use Rattle.fluent_project.specs.Checks.{has_no_wildcard, has_wildcard}
use Rattle.fluent_project.specs.Folders.{before_slash, folder, front, last_slash}
use Rattle.fluent_project.specs.Patterns.{Matches, Text, filled}
use Rattle.fluent_project.specs.Taking.{takes}
use Rattle.fluent_project.proofs.Taken.{found_if_taken}

-- without a wildcard no text is put
filled_alone : (locale : Text) (parts : List Part) (texts : List Text) → not (has_wildcard parts) ≡ true → filled locale parts texts ≡ filled locale parts []
filled_alone locale [] texts none = refl
filled_alone locale (part.Byte byte ∷ parts) texts none = ap (λ rest. byte ∷ rest) (filled_alone locale parts texts none)
filled_alone locale (part.Locale ∷ parts) texts none = ap (λ rest. locale ++ rest) (filled_alone locale parts texts none)
filled_alone locale (part.Wildcard wildcard ∷ parts) texts none = absurd (false≢true none)

-- what comes before the first wildcard comes first
after_front : (locale : Text) (parts : List Part) (texts : List Text) → (rest : Text) × (filled locale parts texts ≡ front locale parts ++ rest)
after_front locale [] texts = ([], refl)
after_front locale (part.Byte byte ∷ parts) texts =
    let more = after_front locale parts texts in
    (more.0, ap (λ rest. byte ∷ rest) more.1)
after_front locale (part.Locale ∷ parts) texts =
    let more = after_front locale parts texts in
    (more.0, ap (λ rest. locale ++ rest) more.1 ∙ sym (append_assoc locale (front locale parts) more.0))
after_front locale (part.Wildcard wildcard ∷ parts) texts = (filled locale (part.Wildcard wildcard ∷ parts) texts, refl)

starts : (path start rest : Text) → path ≡ start ++ rest → starts_with nat_eq path start ≡ true
starts path start rest is =
    ap (λ text. pointwise nat_eq start (take (length start) text)) is
    ∙ ap (pointwise nat_eq start) (take-append_seam start rest)
    ∙ nat_list_eq_equiv.refl start

starts_by : (locale : Text) (pattern : List Part) (texts : List Text) (none : Bool) → has_no_wildcard pattern ≡ none
    → starts_with nat_eq (filled locale pattern texts) (if none then filled locale pattern [] else before_slash (front locale pattern)) ≡ true
starts_by locale pattern texts true none =
    starts (filled locale pattern texts) (filled locale pattern []) [] (filled_alone locale pattern texts none ∙ sym (append-nil (filled locale pattern [])))
starts_by locale pattern texts false some =
    let more = after_front locale pattern texts in
    let at = unwrap_or (last_slash (front locale pattern)) 0 in
    starts (filled locale pattern texts) (before_slash (front locale pattern)) (drop at (front locale pattern) ++ more.0)
    (more.1
    ∙ ap (λ text. text ++ more.0) (sym (take-append-drop at (front locale pattern)))
    ∙ append_assoc (take at (front locale pattern)) (drop at (front locale pattern)) more.0)

pub begins_there : (locale : Text) (pattern : List Part) (path : Text) → takes locale pattern path ≡ true → starts_with nat_eq path (folder locale pattern) ≡ true
begins_there locale pattern path e =
    let found : Matches locale pattern path = found_if_taken locale pattern path e in
    subst (λ text. starts_with nat_eq text (folder locale pattern) ≡ true) found.1.given
    (starts_by locale pattern found.0 (has_no_wildcard pattern) refl)
